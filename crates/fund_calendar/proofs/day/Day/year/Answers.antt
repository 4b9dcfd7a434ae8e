-- That `Day::year` keeps its contract.
use Rattle.std.proofs.Common.{◌<◌, ◌^◌, arith, pos, w16, unsigned_abs}
use Rattle.jiff_core.proofs.SignedLemmas.{back_small}
use Rattle.fund_calendar.specs.Dates.{date_of}
use Rattle.fund_calendar.proofs.DateLemmas.{date_of_is}
use Rattle.fund_calendar.proofs.day.Day.year.Goals as goal

pub returns-clause-low : goal.returns-clause-low
returns-clause-low c =
    let is = date_of_is c.args.self.now c.to_date.ensures.within in
    let small : unsigned_abs (pos (date_of c.args.self.now).year) < 2 ^ 15 = omega (arith, is.year_high) in
    rw (c.to_date.ensures.year, back_small w16 (pos (date_of c.args.self.now).year) small) is.year_low

pub returns-clause-high : goal.returns-clause-high
returns-clause-high c =
    let is = date_of_is c.args.self.now c.to_date.ensures.within in
    let small : unsigned_abs (pos (date_of c.args.self.now).year) < 2 ^ 15 = omega (arith, is.year_high) in
    rw (c.to_date.ensures.year, back_small w16 (pos (date_of c.args.self.now).year) small) is.year_high

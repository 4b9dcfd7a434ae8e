-- That `Day::of_date` keeps its contract.
use Rattle.std.proofs.Common.{◌≡◌, ℤ, ◌<◌, ◌^◌, refl, ◌≤ℤ◌, ◌∙◌, ap, pos, arith, to_z, of_z, w32, unsigned_abs}
use Rattle.jiff_core.specs.declared.civil.date.Date.{Date}
use Rattle.jiff_core.specs.Date.{epoch_day}
use Rattle.jiff_core.proofs.SignedLemmas.{signed_casts, back_small}
use Rattle.fund_calendar.specs.Dates.{day_number}
use Rattle.fund_calendar.specs.JiffDates.{year_month_day}
use Rattle.fund_calendar.proofs.JiffLemmas.{IsDayOf, IsDayOf-of_date}
use Rattle.fund_calendar.proofs.day.Day.of_date.Goals as goal

number_cast : (d : Date) (z : ℤ) → IsDayOf d → z ≡ epoch_day d → to_z w32 (of_z w32 z) ≡ pos (day_number (year_month_day d))
number_cast d z is e =
    let number = e ∙ is.number in
    let small : unsigned_abs (pos (day_number (year_month_day d))) < 2 ^ 31 = omega (arith, is.bound) in
    ap (λ w. to_z w32 (of_z w32 w)) number ∙ back_small w32 (pos (day_number (year_month_day d))) small

pub overflow_cast-result : goal.overflow_cast-result
overflow_cast-result c =
    let high : c.args.date.year ≤ℤ pos 2199 = omega (arith, signed_casts, c.args.date.year_in) in
    let is = IsDayOf-of_date c.args.date c.requires high in
    rw (number_cast c.args.date c.to_unix_epoch_day.result is c.to_unix_epoch_day.ensures.value) (tt, omega (arith, is.bound))

pub invariant_of-result : goal.invariant_of-result
invariant_of-result c =
    let high : c.args.date.year ≤ℤ pos 2199 = omega (arith, signed_casts, c.args.date.year_in) in
    let is = IsDayOf-of_date c.args.date c.requires high in
    rw (number_cast c.args.date c.to_unix_epoch_day.result is c.to_unix_epoch_day.ensures.value) is.bound

pub returns : goal.returns
returns c =
    let high : c.args.date.year ≤ℤ pos 2199 = omega (arith, signed_casts, c.args.date.year_in) in
    let is = IsDayOf-of_date c.args.date c.requires high in
    rw (number_cast c.args.date c.to_unix_epoch_day.result is c.to_unix_epoch_day.ensures.value, is.is_day) refl

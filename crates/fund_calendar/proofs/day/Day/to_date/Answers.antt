-- That `Day::to_date` keeps its contract.
use Rattle.std.proofs.Common.{◌≡◌, ◌≤◌, pos, arith, rules}
use Rattle.jiff_core.specs.Date.{epoch_day}
use Rattle.fund_calendar.proofs.JiffLemmas.{HasParts-date_of, HasParts-year_month_day}
use Rattle.fund_calendar.proofs.day.Day.to_date.Goals as goal

pub returns-clause-parts : goal.returns-clause-parts
returns-clause-parts c =
    let within : c.args.self ≤ 84005 = omega arith in
    let number : epoch_day c.in-Ok.date ≡ pos c.args.self = search rules in
    HasParts-year_month_day _ _ (HasParts-date_of c.in-Ok.date c.args.self within number)

pub returns-clause-year : goal.returns-clause-year
returns-clause-year c =
    let within : c.args.self ≤ 84005 = omega arith in
    let number : epoch_day c.in-Ok.date ≡ pos c.args.self = search rules in
    (HasParts-date_of c.in-Ok.date c.args.self within number).year

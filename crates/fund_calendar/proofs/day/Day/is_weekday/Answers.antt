-- That `Day::is_weekday` keeps its contract.
use Rattle.std.proofs.Common.{◌≡◌, ap, ◌∙◌, arith}
use Rattle.std.proofs.lemmas.Bool.Decides.{nat_tests}
use Rattle.jiff_core.specs.Calendar.{weekday_number}
use Rattle.fund_calendar.proofs.JiffLemmas.{weekday_number-pos}
use Rattle.fund_calendar.specs.Dates.{weekday_of}
use Rattle.fund_calendar.proofs.day.Day.is_weekday.Goals as goal

pub returns : goal.returns
returns c =
    let same : c.index.result ≡ weekday_of c.args.self =
    c.index.ensures.value ∙ c.weekday.ensures ∙ ap weekday_number c.to_date.ensures.number ∙ weekday_number-pos c.args.self in
    rw same (grind (arith, nat_tests))

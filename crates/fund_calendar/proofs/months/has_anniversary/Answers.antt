-- That `has_anniversary` keeps its contract.
use Rattle.std.proofs.Common.{◌≡◌, ◌*◌, sym, ◌∙◌, refl, Some, None, arith}
use Rattle.std.proofs.lemmas.Bool.Decides.{nat_tests}
use Rattle.fund_calendar.specs.Dates.{add_months, has_anniversary}
use Rattle.fund_calendar.proofs.months.has_anniversary.Goals as goal

pub returns-in-Some : goal.returns-in-Some
unfolding has_anniversary
returns-in-Some c =
    let there : add_months c.args.bought (12 * c.args.years) ≡ Some c.in-Some.day = sym c.add_months.ensures.value ∙ c.in-Some.is in
    rw (c.le.ensures, there) (grind (arith, nat_tests))

pub returns-in-None : goal.returns-in-None
unfolding has_anniversary
returns-in-None c =
    let none : add_months c.args.bought (12 * c.args.years) ≡ None = sym c.add_months.ensures.value ∙ c.in-None.is in
    rw none refl

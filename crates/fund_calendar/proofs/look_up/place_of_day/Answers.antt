-- That `place_of_day` keeps its contract.
use Rattle.std.proofs.Common.{◌≡◌, ◌==◌, true, sym, ◌∙◌}
use Rattle.std.proofs.lemmas.Bool.Decides.{Decides-eqb}
use Rattle.fund_calendar.proofs.LookUpLemmas.{find_day, find_no_day}
use Rattle.fund_calendar.proofs.look_up.place_of_day.Goals as goal

pub returns-then-eq-clause-value : goal.returns-then-eq-clause-value
returns-then-eq-clause-value c =
    find_day c.args.listed.now c.args.day c.first_place_on-place.result c.in-Some.entry c.first_place_on-place.ensures.point (sym c.entry_at.ensures.value ∙ c.in-Some.is)
    ((Decides-eqb c.in-Some.entry.day c.args.day).0 (sym c.eq.ensures ∙ c.if-eq.true))

pub returns-else-eq-clause-value : goal.returns-else-eq-clause-value
returns-else-eq-clause-value c =
    find_no_day c.args.listed.now c.args.day c.first_place_on-place.result c.requires.days_rise c.first_place_on-place.ensures.point (λ e there same.
    let one : e ≡ c.in-Some.entry = cc (c.entry_at.ensures.value, c.in-Some.is, there) in
    let equal : (c.in-Some.entry.day == c.args.day) ≡ true = (Decides-eqb c.in-Some.entry.day c.args.day).1 (rw one at same) in
    cc (equal, c.eq.ensures, c.if-eq.false))

pub returns-in-None-clause-value : goal.returns-in-None-clause-value
returns-in-None-clause-value c =
    find_no_day c.args.listed.now c.args.day c.first_place_on-place.result c.requires.days_rise c.first_place_on-place.ensures.point (λ e there same.
    cc (c.entry_at.ensures.value, c.in-None.is, there))

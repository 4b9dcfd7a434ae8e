-- That `is_daylight` keeps its contract.
use Rattle.std.proofs.Common.{◌≡◌, ℕ, ◌+◌, ◌*◌, ◌/◌, ◌<◌, ◌∙◌, ap, refl, arith}
use Rattle.fund_calendar.specs.ZoneRules.{is_daylight, is_between, change_minute}
use Rattle.fund_calendar.proofs.instant.is_daylight.Goals as goal

day_of_minute : (day minute : ℕ) → minute < 1440 → (1440 * day + minute) / 1440 ≡ day
day_of_minute day minute h = omega arith

same_between : (a b l a' b' l' : ℕ) → a ≡ a' → b ≡ b' → l ≡ l' → is_between a b l ≡ is_between a' b' l'
same_between a b l a' b' l' ea eb el = rw (ea, eb, el) refl

pub returns : goal.returns
unfolding is_daylight
returns c =
    let day = day_of_minute c.args.day c.args.minute c.requires.minute in
    let year = c.year-year.ensures.value in
    rw day (c.is_between.ensures ∙ same_between _ _ _ _ _ _
    (c.change_minute-begins.ensures.value ∙ ap (λ y. change_minute y c.args.daylight.now.begins) year)
    (c.change_minute-ends.ensures.value ∙ ap (λ y. change_minute y c.args.daylight.now.ends) year)
    c.local_minute-local.ensures.value)

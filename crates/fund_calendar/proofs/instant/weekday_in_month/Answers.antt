-- That `weekday_in_month` keeps its contract.
use Rattle.std.proofs.Common.{◌≡◌, ℕ, ◌<◌, ◌≤◌, ◌^◌, ◌∙◌, ap, refl, ℤ, pos, arith, to_z, of_z, w32, w16, w8, unsigned_abs}
use Rattle.jiff_core.proofs.SignedLemmas.{signed_arith, back_small}
use Rattle.fund_calendar.specs.ZoneRules.{weekday_in_month, jiff_week}
use Rattle.fund_calendar.proofs.InstantLemmas.{IsFound, weekday_found}
use Rattle.fund_calendar.proofs.instant.weekday_in_month.Goals as goal

date_found : (c : goal.After-to_unix_epoch_day) → IsFound c.in-Ok-found.date (weekday_in_month c.args.year c.args.month c.args.week c.args.weekday)
date_found c =
    let week = c.jiff_week.ensures.value in
    let near : unsigned_abs c.jiff_week.result < 2 ^ 7 = omega (arith, c.jiff_week.ensures.within) in
    let cast : to_z w8 (of_z w8 c.jiff_week.result) ≡ jiff_week c.args.week = back_small w8 c.jiff_week.result near ∙ week in
    let year : c.in-Ok.first.year ≡ pos c.args.year = c.in-Ok.ensures.value.0 ∙ back_small w16 (pos c.args.year) (let small : c.args.year < 2 ^ 15 = omega (arith, c.requires.year_high) in small) in
    let month_cast : to_z w8 (of_z w8 (pos c.args.month)) ≡ pos c.args.month = back_small w8 (pos c.args.month) (let small : c.args.month < 2 ^ 7 = omega (arith, c.requires.month_high) in small) in
    let month : c.in-Ok.first.month ≡ c.args.month = omega (arith, signed_arith, c.in-Ok.ensures.value.1 ∙ month_cast) in
    weekday_found c.in-Ok.first c.in-Ok-found.date c.args.year c.args.month c.args.week c.args.weekday c.from_index.result year month
    c.requires.year_low c.requires.year_high c.requires.week_low c.requires.weekday_high c.from_index.ensures (rw cast at c.in-Ok-found.ensures.value)

day_cast : (z : ℤ) (n : ℕ) → z ≡ pos n → n ≤ 84005 → to_z w32 (of_z w32 z) ≡ pos n
day_cast z n e bound = ap (λ w. to_z w32 (of_z w32 w)) e ∙ back_small w32 (pos n) (let small : n < 2 ^ 31 = omega arith in small)

pub overflow_cast-result : goal.overflow_cast-result
overflow_cast-result c =
    let found = date_found c in
    rw (day_cast c.to_unix_epoch_day.result _ (c.to_unix_epoch_day.ensures.value ∙ found.number) found.bound) (tt, omega (arith, found.bound))

pub returns-clause-value : goal.returns-clause-value
returns-clause-value c =
    let found = date_found c in
    rw (day_cast c.to_unix_epoch_day.result _ (c.to_unix_epoch_day.ensures.value ∙ found.number) found.bound) refl

pub returns-clause-bound : goal.returns-clause-bound
returns-clause-bound c =
    let found = date_found c in
    rw (day_cast c.to_unix_epoch_day.result _ (c.to_unix_epoch_day.ensures.value ∙ found.number) found.bound) found.bound

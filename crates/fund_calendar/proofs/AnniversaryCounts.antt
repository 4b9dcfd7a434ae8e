-- How many anniversaries have come is their number: each up to it has come, and none behind it.
use Rattle.std.proofs.Common.{◌≡◌, ℕ, ◌+◌, ◌-◌, ◌*◌, ◌<◌, ◌≤◌, Bool, true, false, nat_le, Some, None, refl, ◌∙◌, subst, ◌⊎◌, inl, inr, arith}
use Rattle.std.proofs.lemmas.Bool.{cases_lt}
use Rattle.std.proofs.lemmas.Bool.Decides.{leb_tells}
use Rattle.fund_calendar.specs.Dates.{YearMonthDay, date_of, day_number, months_later, add_months, has_anniversary, anniversaries}
use Rattle.fund_calendar.proofs.DateLemmas.{date_of_is}
use Rattle.fund_calendar.proofs.JiffLemmas.{IsJiffDate, IsDayIn-day_number, IsJiffDate-date_of, IsJiffDate-months_later, year_rises, second_false, le_true, le_false}
use Rattle.fund_calendar.proofs.AnniversaryLemmas.{counted, none_before}

-- the day of an anniversary, which lies in the year of that number after the purchase's
record IsAnniversary (b i day : ℕ) : Type 0 where
  there : add_months b (12 * i) ≡ Some day
  within : day ≤ 84005
  year : (date_of day).year ≡ (date_of b).year + i

year_later : (d : YearMonthDay) (i : ℕ) → 1 ≤ d.month → d.month ≤ 12 → (months_later d (12 * i)).year ≡ d.year + i
unfolding months_later
year_later d i low high = omega arith

anniversary_day : (b i : ℕ) → b ≤ 84005 → (date_of b).year + i ≤ 2199 → (day : ℕ) × IsAnniversary b i day
unfolding add_months
anniversary_day b i h within =
    let is = date_of_is b h in
    let d = months_later (date_of b) (12 * i) in
    let year : d.year ≡ (date_of b).year + i = year_later (date_of b) i is.month_low is.month_high in
    let date : IsJiffDate d = IsJiffDate-months_later (date_of b) (12 * i) (IsJiffDate-date_of b h) is.year_high (omega (arith, is.year_low)) in
    let day = IsDayIn-day_number d date (omega arith) in
    (day_number d, record { there = day.is_day; within = day.bound; year = day.year ∙ year })

-- an anniversary in an earlier year has come, one in a later year hasn't
has_come : (b on i : ℕ) → b ≤ 84005 → on ≤ 84005 → (date_of b).year + i < (date_of on).year → has_anniversary b i on ≡ true
unfolding has_anniversary
has_come b on i h within earlier =
    let high = (date_of_is on within).year_high in
    let found = anniversary_day b i h (omega arith) in
    let day = found.1 in
    elim (cases_lt on found.0) [
      | inl before ↦ absurd (let rises = year_rises on found.0 day.within (omega arith) in omega (arith, day.year))
      | inr come ↦ rw day.there (le_true found.0 on come)
    ]

past_all : (b i : ℕ) → b ≤ 84005 → 2199 < (date_of b).year + i → add_months b (12 * i) ≡ None
unfolding add_months
past_all b i h past =
    let is = date_of_is b h in
    let d = months_later (date_of b) (12 * i) in
    let year : d.year ≡ (date_of b).year + i = year_later (date_of b) i is.month_low is.month_high in
    rw (second_false (nat_le 1970 d.year) (nat_le d.year 2199) _ _ _ _ (le_false d.year 2199 (omega arith))) refl

is_to_come : (b on i : ℕ) → b ≤ 84005 → on ≤ 84005 → (date_of on).year < (date_of b).year + i → has_anniversary b i on ≡ false
unfolding has_anniversary
is_to_come b on i h within later = elim (leb_tells ((date_of b).year + i) 2199) [
  | inl (_, inside) ↦
      let found = anniversary_day b i h inside in
      let day = found.1 in
      elim (cases_lt on found.0) [
        | inl before ↦ rw day.there (le_false found.0 on before)
        | inr come ↦ absurd (let rises = year_rises found.0 on within come in omega (arith, day.year))
      ]
  | inr (_, past) ↦ rw (past_all b i h (omega arith)) refl
]

tested : (x : Bool) → (x ≡ true) ⊎ (x ≡ false)
tested true = inl refl
tested false = inr refl

pub anniversaries_come : (b on i : ℕ) → b ≤ 84005 → on ≤ 84005 → 1 ≤ i → i ≤ anniversaries b on → has_anniversary b i on ≡ true
anniversaries_come b on i h within one few = elim (cases_lt on b) [
  | inl before ↦ absurd (omega (arith, none_before b on before))
  | inr start ↦
      let years : ℕ = (date_of on).year - (date_of b).year in
      elim (tested (has_anniversary b years on)) [
        | inl come ↦
            let count : anniversaries b on ≡ years = counted b on true start come in
            elim (cases_lt i years) [
              | inl fewer ↦ has_come b on i h within (omega arith)
              | inr last ↦ (let same : years ≡ i = omega arith in subst (λ n. has_anniversary b n on ≡ true) same come)
            ]
        | inr not_yet ↦
            let count : anniversaries b on ≡ years - 1 = counted b on false start not_yet in
            has_come b on i h within (omega arith)
      ]
]

pub anniversaries_to_come : (b on i : ℕ) → b ≤ 84005 → on ≤ 84005 → anniversaries b on < i → has_anniversary b i on ≡ false
anniversaries_to_come b on i h within more = elim (cases_lt on b) [
  | inl before ↦ (let rises = year_rises on b h (omega arith) in is_to_come b on i h within (omega arith))
  | inr start ↦
      let rises = year_rises b on within start in
      let years : ℕ = (date_of on).year - (date_of b).year in
      elim (tested (has_anniversary b years on)) [
        | inl come ↦
            let count : anniversaries b on ≡ years = counted b on true start come in
            is_to_come b on i h within (omega arith)
        | inr not_yet ↦
            let count : anniversaries b on ≡ years - 1 = counted b on false start not_yet in
            elim (cases_lt years i) [
              | inl behind ↦ is_to_come b on i h within (omega arith)
              | inr last ↦ (let same : years ≡ i = omega arith in subst (λ n. has_anniversary b n on ≡ false) same not_yet)
            ]
      ]
]

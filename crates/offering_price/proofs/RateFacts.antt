-- What holds of the rate of an amount in a lawful table of front-end loads.
use Rattle.std.proofs.Common.{◌≡◌, ℕ, ◌+◌, ◌<◌, ◌≤◌, false, List, [], ◌∷◌, map, Some, None, slice_get, arith, subst, refl, inl, inr}
use Rattle.std.proofs.lemmas.Bool.{cases_lt, le-leb, lt-leb}
use Rattle.std.proofs.lemmas.Bool.Decides.{nat_tests}
use Rattle.class_terms.specs.declared.lists.Bracket.{Bracket}
use Rattle.class_terms.specs.Tables.{first_broken, breaks_table, front_fault}
use Rattle.class_terms.proofs.TableFacts.{first-follows, others-follow, Follows, table-order, table-ceiling, HasRows, rows-lawful}
use Rattle.offering_price.specs.Accumulation.{last_or, rows_reached, bracket}

-- the rate of the last row that an amount reaches, or d where it reaches none
abbrev pub rate_from : ℕ → List Bracket → ℕ → ℕ
rate_from d rows amount = last_or d (map (λ (row : Bracket). row.rate) (rows_reached rows amount))

rate-reached : (d : ℕ) (row : Bracket) (rows : List Bracket) (amount : ℕ) → row.floor ≤ amount
    → rate_from d (row ∷ rows) amount ≡ rate_from row.rate rows amount
rate-reached d row rows amount h = rw (le-leb row.floor amount h) refl

rate-missed : (d : ℕ) (row : Bracket) (rows : List Bracket) (amount : ℕ) → amount < row.floor
    → rate_from d (row ∷ rows) amount ≡ rate_from d rows amount
rate-missed d row rows amount h = rw (lt-leb row.floor amount h) refl

-- no rate passes the rate of the row before
pub rate-below : (place : ℕ) (before : Bracket) (rows : List Bracket) (amount d top : ℕ)
    → first_broken breaks_table place (Some before) rows ≡ None → d ≤ top → before.rate ≤ top → rate_from d rows amount ≤ top
rate-below place before [] amount d top h low high = low
rate-below place before (row ∷ rows) amount d top h low high =
    let next : Follows before row = table-order.next before row (first-follows breaks_table place (Some before) row rows h) in
    let onward = others-follow breaks_table place (Some before) row rows h in
    let bound : row.rate ≤ top = omega (arith, next.rate) in
    elim (cases_lt amount row.floor) [
      | inl missed ↦ rw (rate-missed d row rows amount missed) (rate-below (place + 1) row rows amount d top onward low bound)
      | inr met ↦ rw (rate-reached d row rows amount met) (rate-below (place + 1) row rows amount row.rate top onward bound bound)
    ]

-- a greater amount has no greater rate
pub rate-falls : (place : ℕ) (before : Bracket) (rows : List Bracket) (a b d e : ℕ)
    → first_broken breaks_table place (Some before) rows ≡ None → a ≤ b → e ≤ d → before.rate ≤ e
    → rate_from e rows b ≤ rate_from d rows a
rate-falls place before [] a b d e h less low high = low
rate-falls place before (row ∷ rows) a b d e h less low high =
    let next : Follows before row = table-order.next before row (first-follows breaks_table place (Some before) row rows h) in
    let onward = others-follow breaks_table place (Some before) row rows h in
    let bound : row.rate ≤ e = omega (arith, next.rate) in
    elim (cases_lt b row.floor) [
      | inl missed ↦
          let missed_too : a < row.floor = omega arith in
          rw (rate-missed e row rows b missed, rate-missed d row rows a missed_too)
          (rate-falls (place + 1) row rows a b d e onward less low bound)
      | inr met ↦
          rw (rate-reached e row rows b met)
          (elim (cases_lt a row.floor) [
            | inl missed ↦
                rw (rate-missed d row rows a missed)
                (rate-falls (place + 1) row rows a b d row.rate onward less (omega arith) (omega arith))
            | inr met_too ↦
                rw (rate-reached d row rows a met_too)
                (rate-falls (place + 1) row rows a b row.rate row.rate onward less (omega arith) (omega arith))
          ])
    ]

-- in a lawful table every amount reaches the first row, and has its rate or a lower one
pub bracket-top : (rows : List Bracket) (first : Bracket) (amount : ℕ) → first_broken breaks_table 0 None rows ≡ None
    → slice_get rows 0 ≡ Some first → bracket rows amount ≤ first.rate
bracket-top [] first amount h found = cc
bracket-top (row ∷ rows) first amount h found =
    let same : row ≡ first = cc in
    let stands : breaks_table None row ≡ false = first-follows breaks_table 0 None row rows h in
    let met : row.floor ≤ amount = grind (arith, nat_tests) in
    let below : rate_from row.rate rows amount ≤ row.rate =
    rate-below 1 row rows amount row.rate row.rate (others-follow breaks_table 0 None row rows h) (omega arith) (omega arith) in
    subst (λ (r : Bracket). bracket (row ∷ rows) amount ≤ r.rate) same (rw (rate-reached 0 row rows amount met) below)

pub bracket-ceiling : (rows : List Bracket) (amount : ℕ) → front_fault rows ≡ None → bracket rows amount ≤ 850
bracket-ceiling [] amount h = omega arith
bracket-ceiling (row ∷ rows) amount h =
    let table : HasRows (row ∷ rows) = rows-lawful (row ∷ rows) h in
    let top : bracket (row ∷ rows) amount ≤ row.rate = bracket-top (row ∷ rows) row amount table.stands refl in
    omega (arith, table-ceiling None row (first-follows breaks_table 0 None row rows table.stands))

pub bracket-falls : (rows : List Bracket) (a b : ℕ) → front_fault rows ≡ None → a ≤ b → bracket rows b ≤ bracket rows a
bracket-falls [] a b h less = omega arith
bracket-falls (row ∷ rows) a b h less =
    let table : HasRows (row ∷ rows) = rows-lawful (row ∷ rows) h in
    let stands : breaks_table None row ≡ false = first-follows breaks_table 0 None row rows table.stands in
    let met : row.floor ≤ a = grind (arith, nat_tests) in
    let met_too : row.floor ≤ b = omega arith in
    rw (rate-reached 0 row rows b met_too, rate-reached 0 row rows a met)
    (rate-falls 1 row rows a b row.rate row.rate (others-follow breaks_table 0 None row rows table.stands) less (omega arith) (omega arith))

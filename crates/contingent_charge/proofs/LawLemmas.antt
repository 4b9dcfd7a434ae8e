-- What the laws of values and bases stand on.
use Rattle.std.proofs.Common.{◌≡◌, ℕ, zero, suc, ◌+◌, ◌-◌, ◌<◌, ◌≤◌, inl, inr, true, false, cond, not, min, List, [], ◌∷◌, length, get_or, take, map, filter, sum_by, refl, sym, ap, ◌∙◌, arith, add_assoc, add-zero, zero-add, add-one}
use Rattle.std.proofs.lemmas.Bool.{cases_lt}
use Rattle.std.proofs.lemmas.List.{get_or_past}
use Rattle.std.proofs.lemmas.List.Sums.{sum_by-cons}
use Rattle.share_lots.specs.declared.lot.Piece.{Piece}
use Rattle.share_lots.specs.Values.{value_at}
use Rattle.contingent_charge.specs.DeferredCharge.{NeverRises, Valued, with_values, base_of}
use Rattle.contingent_charge.proofs.ChargeLemmas.{mils_of}

pub valued_pieces : (nav before : ℕ) (pieces : List Piece) → map (λ (item : Valued). item.piece) (with_values nav before pieces) ≡ pieces
unfolding with_values
valued_pieces nav before [] = refl
valued_pieces nav before (p ∷ ps) = ap (λ rest. p ∷ rest) (valued_pieces nav (before + p.mils) ps)

between : (nav a b c d : ℕ) → b ≡ d → a ≡ c → value_at nav b - value_at nav a ≡ value_at nav d - value_at nav c
between nav a b c d e f = rw (e, f) refl

first-taken : (before : ℕ) (p : Piece) (ps : List Piece) (n : ℕ) → (before + p.mils) + sum_by mils_of (take n ps) ≡ before + sum_by mils_of (take (suc n) (p ∷ ps))
first-taken before p ps n =
    add_assoc before p.mils (sum_by mils_of (take n ps)) ∙ ap (λ m. before + m) (sym (sum_by-cons mils_of p (take n ps)))

valued-at : (nav before : ℕ) (pieces : List Piece) (i : ℕ) (d : Valued) → i < length pieces
    → (get_or (with_values nav before pieces) i d).value ≡ value_at nav (before + sum_by mils_of (take (suc i) pieces)) - value_at nav (before + sum_by mils_of (take i pieces))
unfolding with_values
valued-at nav before [] i d h = absurd (omega arith)
valued-at nav before (p ∷ ps) zero d h =
    between nav before (before + p.mils) (before + 0) (before + sum_by mils_of (take 1 (p ∷ ps))) (sym (add-zero (before + p.mils)) ∙ first-taken before p ps 0) (sym (add-zero before))
valued-at nav before (p ∷ ps) (suc i) d h =
    valued-at nav (before + p.mils) ps i d (omega arith)
    ∙ between nav (before + p.mils + sum_by mils_of (take i ps)) (before + p.mils + sum_by mils_of (take (suc i) ps)) (before + sum_by mils_of (take (suc i) (p ∷ ps))) (before + sum_by mils_of (take (suc (suc i)) (p ∷ ps))) (first-taken before p ps (suc i)) (first-taken before p ps i)

pub valued_whole : (nav : ℕ) (pieces : List Piece) (i : ℕ) (d : Valued) → i < length pieces
    → (get_or (with_values nav 0 pieces) i d).value ≡ value_at nav (sum_by mils_of (take (i + 1) pieces)) - value_at nav (sum_by mils_of (take i pieces))
valued_whole nav pieces i d h =
    valued-at nav 0 pieces i d h
    ∙ between nav (0 + sum_by mils_of (take i pieces)) (0 + sum_by mils_of (take (suc i) pieces)) (sum_by mils_of (take i pieces)) (sum_by mils_of (take (i + 1) pieces)) (zero-add (sum_by mils_of (take (suc i) pieces)) ∙ ap (λ n. sum_by mils_of (take n pieces)) (sym (add-one i))) (zero-add (sum_by mils_of (take i pieces)))

pub bases_charged : (items : List Valued) → sum_by base_of items ≡ sum_by (λ item. min item.piece.cost item.value) (filter (λ item. not item.piece.free) items)
bases_charged [] = refl
bases_charged (x ∷ xs) =
    rw (sum_by-cons base_of x xs)
    (elim x.piece.free as (λ b. cond b 0 (min x.piece.cost x.value) + sum_by base_of xs ≡ sum_by (λ (item : Valued). min item.piece.cost item.value) (cond (not b) (x ∷ filter (λ (item : Valued). not item.piece.free) xs) (filter (λ (item : Valued). not item.piece.free) xs))) [
      | true ↦ zero-add (sum_by base_of xs) ∙ bases_charged xs
      | false ↦
          rw (sum_by-cons (λ (item : Valued). min item.piece.cost item.value) x (filter (λ (item : Valued). not item.piece.free) xs))
          (ap (λ n. min x.piece.cost x.value + n) (bases_charged xs))
    ])

-- a later row has no greater rate, and past the schedule there is none
pub row-falls : (schedule : List ℕ) (i j : ℕ) → NeverRises schedule → i ≤ j → get_or schedule j 0 ≤ get_or schedule i 0
row-falls schedule i j falls h = elim (cases_lt j (length schedule)) [
  | inl within ↦ elim (cases_lt i j) [
    | inl lt ↦ falls i j 0 lt within
    | inr ge ↦ let same : i ≡ j = omega arith in rw same (omega arith)
  ]
  | inr past ↦ rw (get_or_past schedule j 0 past) (omega arith)
]

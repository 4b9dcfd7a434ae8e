-- What holds of the new mils of pieces, over plain lists and numbers.
use Rattle.std.proofs.Common.{◌≡◌, ℕ, ◌+◌, ◌-◌, ◌*◌, ◌≤◌, List, [], ◌∷◌, ◌++◌, length, drop, map, filter, slice_get, Some, append-nil, refl, sym, ap, ◌∙◌, inl, inr, arith}
use Rattle.std.proofs.lemmas.Bool.Decides.{leb_tells}
use Rattle.std.proofs.lemmas.List.{drop_all}
use Rattle.std.proofs.lemmas.List.Elements.{All-cons}
use Rattle.std.specs.Prelude.{All}
use Rattle.std.proofs.lemmas.List.Sums.{sum_by-cons}
use Rattle.money_units.specs.Rounding.{half}
use Rattle.money_units.proofs.RoundingFacts.{half-rises, half-zero}
use Rattle.share_lots.specs.Values.{value_at}
use Rattle.share_lots.specs.declared.lot.Piece.{Piece}
use Rattle.share_lots.proofs.ValueLemmas.{value_at-rises}
use Rattle.share_lots.proofs.LotLemmas.{sum_by-filter-le}
use Rattle.fund_exchange.specs.Exchange.{mils_total, cost_total, mils_at, with_new_mils, renewed_behind, renewed_all, has_mils, carried_pieces, without_mils}

abbrev mils : Piece → ℕ
mils piece = piece.mils

abbrev cost : Piece → ℕ
cost piece = piece.cost

-- more mils never buy less, and no mils buy none
pub mils_at-rises : (from to a b : ℕ) → 1 ≤ to → a ≤ b → mils_at from to a ≤ mils_at from to b
mils_at-rises from to a b positive h =
    half-rises (1000 * value_at from a) (1000 * value_at from b) to positive (omega (arith, value_at-rises from a b h))

pub mils_at-zero : (from to : ℕ) → 1 ≤ to → mils_at from to 0 ≡ 0
mils_at-zero from to positive =
    let none : 0 * from ≡ 0 = omega arith in ap (λ n. half (1000 * half n 1000) to) none ∙ half-zero to positive

-- two differences end to end
end-to-end : (start end rest total : ℕ) → start ≤ end → rest + end ≡ total → (end - start) + rest + start ≡ total
end-to-end start end rest total order h = omega arith

-- the new mils of pieces are what is bought by the end of the last, less what is bought by the beginning of the first
pub renewed-total : (from to before : ℕ) (pieces : List Piece) → 1 ≤ to
    → mils_total (renewed_behind from to before pieces) + mils_at from to before ≡ mils_at from to (before + mils_total pieces)
renewed-total from to before [] positive =
    let none : 0 + mils_at from to before ≡ mils_at from to before = omega arith in
    let same : before ≡ before + 0 = omega arith in none ∙ ap (mils_at from to) same
renewed-total from to before (piece ∷ pieces) positive =
    let rest = renewed_behind from to (before + piece.mils) pieces in
    let onward : before + piece.mils + mils_total pieces ≡ before + (piece.mils + mils_total pieces) = omega arith in
    ap (λ n. n + mils_at from to before) (sum_by-cons mils (with_new_mils from to before piece) rest)
    ∙ end-to-end (mils_at from to before) (mils_at from to (before + piece.mils)) (mils_total rest)
    (mils_at from to (before + piece.mils + mils_total pieces))
    (mils_at-rises from to before (before + piece.mils) positive (omega arith))
    (renewed-total from to (before + piece.mils) pieces positive)
    ∙ ap (mils_at from to) (onward ∙ ap (λ n. before + n) (sym (sum_by-cons mils piece pieces)))

-- pieces without mils add none
pub mils-filter : (pieces : List Piece) → mils_total (filter has_mils pieces) ≡ mils_total pieces
mils-filter [] = refl
mils-filter (x ∷ xs) = elim (leb_tells 1 x.mils) [
  | inl (t, _) ↦ rw (t, sum_by-cons mils x (filter has_mils xs), sum_by-cons mils x xs) (omega (arith, mils-filter xs))
  | inr (t, none) ↦ rw (t, sum_by-cons mils x xs) (omega (arith, mils-filter xs))
]

-- the costs stay
pub cost-renewed : (from to before : ℕ) (pieces : List Piece)
    → cost_total (renewed_behind from to before pieces) ≡ cost_total pieces
cost-renewed from to before [] = refl
cost-renewed from to before (x ∷ xs) =
    sum_by-cons cost (with_new_mils from to before x) (renewed_behind from to (before + x.mils) xs)
    ∙ ap (λ n. x.cost + n) (cost-renewed from to (before + x.mils) xs) ∙ sym (sum_by-cons cost x xs)

nothing-more : (a b : ℕ) → b ≡ 0 → a ≡ a + b
nothing-more a b h = omega arith

-- all that is carried, in mils and in cost
pub carried-whole : (from to : ℕ) (pieces : List Piece) → 1 ≤ to
    → mils_total (carried_pieces from to pieces) ≡ mils_at from to (mils_total pieces)
carried-whole from to pieces positive =
    let begun : 0 + mils_total pieces ≡ mils_total pieces = omega arith in
    mils-filter (renewed_all from to pieces)
    ∙ nothing-more (mils_total (renewed_all from to pieces)) (mils_at from to 0) (mils_at-zero from to positive)
    ∙ renewed-total from to 0 pieces positive ∙ ap (mils_at from to) begun

pub carried_cost : (from to : ℕ) (pieces : List Piece) → cost_total (carried_pieces from to pieces) ≤ cost_total pieces
carried_cost from to pieces =
    omega (arith, sum_by-filter-le cost has_mils (renewed_all from to pieces), cost-renewed from to 0 pieces)

-- when all pieces are done
pub carried-all : (done pieces : List Piece) (from to before i : ℕ) → length pieces ≤ i
    → done ++ filter has_mils (renewed_behind from to before (drop i pieces)) ≡ carried_pieces from to pieces
    → done ≡ carried_pieces from to pieces
carried-all done pieces from to before i past told =
    sym (append-nil done) ∙ ap (λ (zs : List Piece). done ++ filter has_mils (renewed_behind from to before zs)) (sym (drop_all i pieces past)) ∙ told

-- what is carried has mils
pub all_have_mils : (pieces : List Piece) → All (λ piece. 1 ≤ piece.mils) (filter has_mils pieces)
all_have_mils [] = λ k d short. absurd (omega arith)
all_have_mils (x ∷ xs) = elim (leb_tells 1 x.mils) [
  | inl (t, some) ↦ rw t (All-cons (λ (piece : Piece). 1 ≤ piece.mils) x (filter has_mils xs) some (all_have_mils xs))
  | inr (t, _) ↦ rw t (all_have_mils xs)
]

-- the new mils of the piece that stands behind others
pub renewed-at : (from to n : ℕ) (before : List Piece) (piece : Piece) (behind : List Piece)
    → slice_get (renewed_behind from to n (before ++ piece ∷ behind)) (length before) ≡ Some (with_new_mils from to (n + mils_total before) piece)
renewed-at from to n [] piece behind =
    let same : n ≡ n + 0 = omega arith in ap (λ m. Some (with_new_mils from to m piece)) same
renewed-at from to n (x ∷ xs) piece behind =
    let same : n + x.mils + mils_total xs ≡ n + (x.mils + mils_total xs) = omega arith in
    renewed-at from to (n + x.mils) xs piece behind
    ∙ ap (λ m. Some (with_new_mils from to m piece)) (same ∙ ap (λ m. n + m) (sym (sum_by-cons mils x xs)))

-- each piece keeps its lot number, date, cost and free mark
pub renewed_keeps : (from to before : ℕ) (pieces : List Piece)
    → map without_mils (renewed_behind from to before pieces) ≡ map without_mils pieces
renewed_keeps from to before [] = refl
renewed_keeps from to before (x ∷ xs) = ap (λ ys. without_mils x ∷ ys) (renewed_keeps from to (before + x.mils) xs)

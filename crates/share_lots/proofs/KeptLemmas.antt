-- What a taking keeps of mils and cost.
use Rattle.std.proofs.Common.{◌≡◌, ◌==◌, ℕ, ◌+◌, ◌-◌, ◌*◌, ◌≤◌, true, false, cond, min, List, [], ◌∷◌, filter, map, sum_by, refl, sym, ap, ◌∙◌, inl, inr, arith}
use Rattle.std.specs.Prelude.{All}
use Rattle.std.proofs.lemmas.Bool.Decides.{leb_tells}
use Rattle.std.proofs.lemmas.List.Elements.{All-cons}
use Rattle.std.proofs.lemmas.List.Sums.{sum_by-cons, sum_by-append}
use Rattle.money_units.specs.Rounding.{half}
use Rattle.money_units.proofs.RoundingFacts.{half-mul}
use Rattle.share_lots.specs.declared.lot.Lot.{Lot}
use Rattle.share_lots.specs.declared.lot.Piece.{Piece}
use Rattle.share_lots.specs.Lots.{mils, HasLoose, hold_in, release_lot}
use Rattle.share_lots.specs.Taking.{piece_cost, lot_less, pieces_of, pieces, lots_less, has_mils}
use Rattle.share_lots.proofs.LotLemmas.{All-head, All-tail, half-le, mils-hold_in}

-- the mils and the cost of a lot's piece
sum-pieces_of : (lot : Lot) (quantity : ℕ) → sum_by (λ p. p.mils) (pieces_of lot quantity) ≡ quantity
sum-pieces_of lot quantity = elim (leb_tells 1 quantity) [
  | inl (t, _) ↦ rw t (omega arith)
  | inr (t, none) ↦ rw t (omega arith)
]

cost-pieces_of : (lot : Lot) (quantity : ℕ) → 1 ≤ mils lot → sum_by (λ p. p.cost) (pieces_of lot quantity) ≡ piece_cost lot quantity
cost-pieces_of lot quantity some = elim (leb_tells 1 quantity) [
  | inl (t, _) ↦ rw t (omega arith)
  | inr (t, none) ↦ rw t (let empty : quantity ≡ 0 = omega arith in let none : lot.cost * 0 ≡ 0 * mils lot = omega arith in rw empty (sym (ap (λ n. half n (mils lot)) none ∙ half-mul 0 (mils lot) some)))
]

-- the pieces sum to what is asked, where so much is loose
pub pieces-whole : (asked : ℕ) (lots : List Lot) → asked ≤ sum_by (λ l. l.loose) lots → sum_by (λ p. p.mils) (pieces asked lots) ≡ asked
unfolding pieces
pieces-whole asked [] h = omega arith
pieces-whole asked (x ∷ xs) h =
    let total = sum_by-cons (λ (l : Lot). l.loose) x xs in
    rw (sum_by-append (λ (p : Piece). p.mils) (pieces_of x (min x.loose asked)) (pieces (asked - x.loose) xs), sum-pieces_of x (min x.loose asked), pieces-whole (asked - x.loose) xs (omega arith)) (omega arith)

-- mils are kept
mils_kept : (asked : ℕ) (lots : List Lot) → sum_by (λ p. p.mils) (pieces asked lots) + sum_by mils (lots_less asked lots) ≡ sum_by mils lots
unfolding pieces lots_less
mils_kept asked [] = refl
mils_kept asked (x ∷ xs) =
    rw (sum_by-append (λ (p : Piece). p.mils) (pieces_of x (min x.loose asked)) (pieces (asked - x.loose) xs), sum-pieces_of x (min x.loose asked), sum_by-cons mils (lot_less x (min x.loose asked)) (lots_less (asked - x.loose) xs), sum_by-cons mils x xs)
    (omega (arith, mils_kept (asked - x.loose) xs))

-- and cost
cost_kept : (asked : ℕ) (lots : List Lot) → All (λ l. 1 ≤ mils l) lots → sum_by (λ p. p.cost) (pieces asked lots) + sum_by (λ l. l.cost) (lots_less asked lots) ≡ sum_by (λ l. l.cost) lots
unfolding pieces lots_less
cost_kept asked [] some = refl
cost_kept asked (x ∷ xs) some =
    let here = All-head (λ l. 1 ≤ mils l) x xs some in
    rw (sum_by-append (λ (p : Piece). p.cost) (pieces_of x (min x.loose asked)) (pieces (asked - x.loose) xs), cost-pieces_of x (min x.loose asked) here, sum_by-cons (λ (l : Lot). l.cost) (lot_less x (min x.loose asked)) (lots_less (asked - x.loose) xs), sum_by-cons (λ (l : Lot). l.cost) x xs)
    (omega (arith, half-le x.cost (min x.loose asked) (mils x) here (omega arith), cost_kept (asked - x.loose) xs (All-tail (λ l. 1 ≤ mils l) x xs some)))

-- lots without mils have no cost left
no_cost : (asked : ℕ) (lots : List Lot) → All (λ l. 1 ≤ mils l) lots → All (λ l. mils l ≡ 0 → l.cost ≡ 0) (lots_less asked lots)
unfolding lots_less
no_cost asked [] some = λ k d short. absurd (omega arith)
no_cost asked (x ∷ xs) some =
    All-cons (λ l. mils l ≡ 0 → l.cost ≡ 0) (lot_less x (min x.loose asked)) (lots_less (asked - x.loose) xs)
    (λ none. let all : min x.loose asked ≡ mils x = omega arith in
    let whole : piece_cost x (min x.loose asked) ≡ x.cost = rw all (half-mul x.cost (mils x) (All-head (λ l. 1 ≤ mils l) x xs some)) in omega arith)
    (no_cost (asked - x.loose) xs (All-tail (λ l. 1 ≤ mils l) x xs some))

pub sum-has_mils : (f : Lot → ℕ) (lots : List Lot) → All (λ l. mils l ≡ 0 → f l ≡ 0) lots → sum_by f (filter has_mils lots) ≡ sum_by f lots
sum-has_mils f [] none = refl
sum-has_mils f (x ∷ xs) none = elim (leb_tells 1 (mils x)) [
  | inl (t, _) ↦ rw (t, sum_by-cons f x (filter has_mils xs), sum_by-cons f x xs) (omega (arith, sum-has_mils f xs (All-tail (λ l. mils l ≡ 0 → f l ≡ 0) x xs none)))
  | inr (t, empty) ↦
      let here = All-head (λ l. mils l ≡ 0 → f l ≡ 0) x xs none (omega arith) in
      rw (t, sum_by-cons f x xs) (omega (arith, here, sum-has_mils f xs (All-tail (λ l. mils l ≡ 0 → f l ≡ 0) x xs none)))
]

pub taking-keeps_mils : (asked : ℕ) (lots : List Lot) → sum_by (λ p. p.mils) (pieces asked lots) + sum_by mils (filter has_mils (lots_less asked lots)) ≡ sum_by mils lots
taking-keeps_mils asked lots = rw (sum-has_mils mils (lots_less asked lots) (λ k d short none. none)) (mils_kept asked lots)

-- so the mils that are left are those before without the ones that are asked
pub mils-taken : (asked : ℕ) (lots : List Lot) → asked ≤ sum_by (λ l. l.loose) lots → sum_by mils lots - asked ≡ sum_by mils (filter has_mils (lots_less asked lots))
mils-taken asked lots enough = omega (arith, taking-keeps_mils asked lots, pieces-whole asked lots enough)

pub taking-keeps_cost : (asked : ℕ) (lots : List Lot) → All (λ l. 1 ≤ mils l) lots → sum_by (λ p. p.cost) (pieces asked lots) + sum_by (λ l. l.cost) (filter has_mils (lots_less asked lots)) ≡ sum_by (λ l. l.cost) lots
taking-keeps_cost asked lots some = rw (sum-has_mils (λ (l : Lot). l.cost) (lots_less asked lots) (no_cost asked lots some)) (cost_kept asked lots some)

-- holding back and releasing keep both
pub hold-keeps_mils : (number quantity : ℕ) (lots : List Lot) → HasLoose lots number quantity → sum_by mils (map (hold_in number quantity) lots) ≡ sum_by mils lots
hold-keeps_mils number quantity [] has = refl
hold-keeps_mils number quantity (x ∷ xs) has =
    let here = mils-hold_in number quantity x (All-head (λ l. l.number ≡ number → quantity ≤ l.loose) x xs has) in
    rw (sum_by-cons mils (hold_in number quantity x) (map (hold_in number quantity) xs), sum_by-cons mils x xs)
    (omega (arith, here, hold-keeps_mils number quantity xs (All-tail (λ l. l.number ≡ number → quantity ≤ l.loose) x xs has)))

cost-hold_in : (number quantity : ℕ) (lot : Lot) → (hold_in number quantity lot).cost ≡ lot.cost
cost-hold_in number quantity lot = elim (lot.number == number) as (λ b. (cond b (record lot { loose = lot.loose - quantity; held = lot.held + quantity }) lot).cost ≡ lot.cost) [ true ↦ refl | false ↦ refl ]

pub hold-keeps_cost : (number quantity : ℕ) (lots : List Lot) → sum_by (λ l. l.cost) (map (hold_in number quantity) lots) ≡ sum_by (λ l. l.cost) lots
hold-keeps_cost number quantity [] = refl
hold-keeps_cost number quantity (x ∷ xs) =
    rw (sum_by-cons (λ (l : Lot). l.cost) (hold_in number quantity x) (map (hold_in number quantity) xs), sum_by-cons (λ (l : Lot). l.cost) x xs)
    (omega (arith, cost-hold_in number quantity x, hold-keeps_cost number quantity xs))

pub release-keeps_mils : (lots : List Lot) → sum_by mils (map release_lot lots) ≡ sum_by mils lots
release-keeps_mils [] = refl
release-keeps_mils (x ∷ xs) = rw (sum_by-cons mils (release_lot x) (map release_lot xs), sum_by-cons mils x xs) (omega (arith, release-keeps_mils xs))

pub release-keeps_cost : (lots : List Lot) → sum_by (λ l. l.cost) (map release_lot lots) ≡ sum_by (λ l. l.cost) lots
release-keeps_cost [] = refl
release-keeps_cost (x ∷ xs) = rw (sum_by-cons (λ (l : Lot). l.cost) (release_lot x) (map release_lot xs), sum_by-cons (λ (l : Lot). l.cost) x xs) (omega (arith, release-keeps_cost xs))

-- the pieces have no more mils than the lots, and no more cost
pub pieces-mils : (asked : ℕ) (lots : List Lot) → sum_by (λ p. p.mils) (pieces asked lots) ≤ sum_by mils lots
pieces-mils asked lots = omega (arith, taking-keeps_mils asked lots)

pub pieces-cost : (asked : ℕ) (lots : List Lot) → All (λ l. 1 ≤ mils l) lots → sum_by (λ p. p.cost) (pieces asked lots) ≤ sum_by (λ l. l.cost) lots
pieces-cost asked lots some = omega (arith, taking-keeps_cost asked lots some)

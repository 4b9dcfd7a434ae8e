-- The parts of lots: a lot that isn't free counts by its loose mils and its held mils, and what an exchange brings into the
-- target its source has lost, all but one part at most.
use Rattle.std.proofs.Common.{All, Bool, List, None, Some, [], arith, cond, count_by, false, find, fold, inl, inr, map, min, nat_lt, not, option_map, refl, sum_by, true, ℕ, ◌+◌, ◌-◌, ◌<◌, ◌==◌, ◌∷◌, ◌≡◌, ◌≤◌}
use Rattle.std.proofs.lemmas.Bool.{cases_lt, eqb-true}
use Rattle.std.proofs.lemmas.List.Elements.{All-head, All-tail}
use Rattle.std.proofs.lemmas.List.Sums.{sum_by-append, sum_by-cons}
use Rattle.fund_exchange.specs.Exchange.{transfer_of, has_mils as carries_mils, with_new_mils, renewed_all, renewed_behind}
use Rattle.register_laws.proofs.Comparisons.{lt-yes}
use Rattle.register_laws.proofs.LotTotals.{free_of, frees, join-frees}
use Rattle.register_machine.specs.replay.Exchange.{holding_with_piece}
use Rattle.share_lots.proofs.LotLemmas.{sum-placed, sum_by-filter-le}
use Rattle.share_lots.specs.Lots.{Holding, shares_added, added_to, hold_in, hold_mils, join_free, mils, new_lot, release_all, release_lot, with_lot}
use Rattle.share_lots.specs.Taking.{after_paying, after_taking, has_mils, lot_less, lot_paying, lots_less, piece_of, pieces, pieces_of}
use Rattle.share_lots.specs.declared.lot.Lot.{Lot}
use Rattle.share_lots.specs.declared.lot.Piece.{Piece}

-- 1 where there are some, and 0 where there are none
pub some : ℕ → ℕ
some n = cond (nat_lt 0 n) 1 0

some-none : some 0 ≡ 0
unfolding some
some-none = refl

some-yes : (n : ℕ) → 0 < n → some n ≡ 1
unfolding some
some-yes n there = rw (lt-yes 0 n there) refl

some-le : (n : ℕ) → some n ≤ 1
unfolding some
some-le n = elim (nat_lt 0 n) as (λ b. cond b 1 0 ≤ 1) [ true ↦ omega arith | false ↦ omega arith ]

some-more : (m n : ℕ) → m ≤ n → some m ≤ some n
some-more m n le = elim (cases_lt 0 m) [
  | inl there ↦ omega (arith, some-le m, some-yes n (omega (arith, there, le)))
  | inr none ↦ let zero_is : m ≡ 0 = omega (arith, none) in rw zero_is (omega (arith, some-none))
]

some-both : (m n : ℕ) → some (m + n) ≤ some m + some n
some-both m n = elim (cases_lt 0 m) [
  | inl there ↦ omega (arith, some-le (m + n), some-yes m there)
  | inr none ↦ omega (arith, some-more (m + n) n (omega (arith, none)))
]

-- the parts of a lot
abbrev parts_of : Lot → ℕ
parts_of lot = cond lot.free 0 (some lot.loose + some lot.held)

abbrev pub parts : List Lot → ℕ
parts lots = sum_by parts_of lots

abbrev owned_of : Piece → ℕ
owned_of piece = cond piece.free 0 1

abbrev pub owned : List Piece → ℕ
owned given = sum_by owned_of given

-- ---- taking

-- of the lots that give, the last one alone keeps loose mils
split : (loose asked : ℕ) → some (min loose asked) + (some (loose - min loose asked) + some (asked - loose)) ≤ some loose + some asked
split loose asked = elim (cases_lt loose asked) [
  | inl less ↦
      let whole : min loose asked ≡ loose = omega (arith, less) in
      let none : loose - loose ≡ 0 = omega arith in
      rw (whole, none) (omega (arith, some-none, some-more (asked - loose) asked (omega arith)))
  | inr enough ↦
      let all : min loose asked ≡ asked = omega (arith, enough) in
      let none : asked - loose ≡ 0 = omega (arith, enough) in
      rw (all, none) (omega (arith, some-none, some-more (loose - asked) loose (omega arith)))
]

lot-split : (lot : Lot) (asked : ℕ) → cond lot.free 0 (some (min lot.loose asked)) + (parts_of (lot_less lot (min lot.loose asked)) + some (asked - lot.loose)) ≤ parts_of lot + some asked
lot-split lot asked = elim lot.free as (λ b. cond b 0 (some (min lot.loose asked)) + (cond b 0 (some (lot.loose - min lot.loose asked) + some lot.held) + some (asked - lot.loose)) ≤ cond b 0 (some lot.loose + some lot.held) + some asked) [
  | true ↦ omega (arith, some-more (asked - lot.loose) asked (omega arith))
  | false ↦ omega (arith, split lot.loose asked)
]

piece-owned : (lot : Lot) (quantity : ℕ) → owned (pieces_of lot quantity) ≡ cond lot.free 0 (some quantity)
unfolding some
piece-owned lot quantity = elim (nat_lt 0 quantity) as (λ b. owned (cond b (piece_of lot quantity ∷ []) []) ≡ cond lot.free 0 (cond b 1 0)) [
  | true ↦ omega (arith, sum_by-cons owned_of (piece_of lot quantity) [])
  | false ↦ elim lot.free as (λ b. ◌≡◌ {A = ℕ} 0 (cond b 0 0)) [ true ↦ refl | false ↦ refl ]
]

pub taking-parts : (asked : ℕ) (lots : List Lot) → owned (pieces asked lots) + parts (lots_less asked lots) ≤ parts lots + some asked
unfolding pieces lots_less
taking-parts asked [] = omega arith
taking-parts asked (x ∷ xs) =
    let given = min x.loose asked in
    omega (arith, sum_by-append owned_of (pieces_of x given) (pieces (asked - x.loose) xs), piece-owned x given, lot-split x asked, taking-parts (asked - x.loose) xs, sum_by-cons parts_of x xs, sum_by-cons parts_of (lot_less x given) (lots_less (asked - x.loose) xs))

-- what is taken comes with one part more at most
pub taken-parts : (h : Holding) (asked : ℕ) → owned (pieces asked h.lots) + parts (after_taking h asked).lots ≤ parts h.lots + 1
taken-parts h asked =
    omega (arith, taking-parts asked h.lots, sum_by-filter-le parts_of has_mils (lots_less asked h.lots), some-le asked)

renewed-owned : (from to before : ℕ) (given : List Piece) → owned (renewed_behind from to before given) ≡ owned given
renewed-owned from to before [] = refl
renewed-owned from to before (piece ∷ given) =
    omega (arith, renewed-owned from to (before + piece.mils) given, sum_by-cons owned_of piece given, sum_by-cons owned_of (with_new_mils from to before piece) (renewed_behind from to (before + piece.mils) given))

pub carried-owned : (from to : ℕ) (given : List Piece) → owned (transfer_of from to given).pieces ≤ owned given
carried-owned from to given =
    omega (arith, sum_by-filter-le owned_of carries_mils (renewed_all from to given), renewed-owned from to 0 given)

-- ---- adding

-- a new number for each lot that isn't free, or for the one free lot
pub record Grows (before after : Holding) (more : ℕ) : Type 0 where
  pub numbers : after.next_lot + frees before.lots ≡ before.next_lot + (more + frees after.lots)
  pub parts_le : parts after.lots ≤ parts before.lots + more

join-parts : (quantity cents : ℕ) (lots : List Lot) → parts (map (join_free quantity cents) lots) ≡ parts lots
join-parts quantity cents [] = refl
join-parts quantity cents (x ∷ xs) =
    omega (arith, one x, join-parts quantity cents xs, sum_by-cons parts_of x xs, sum_by-cons parts_of (join_free quantity cents x) (map (join_free quantity cents) xs))
  where
    one : (lot : Lot) → parts_of (join_free quantity cents lot) ≡ parts_of lot
    one lot = elim lot.free as (λ b. lot.free ≡ b → parts_of (cond b (record lot { loose = lot.loose + quantity; cost = lot.cost + cents }) lot) ≡ parts_of lot) [
      | true ↦ λ e. rw e refl
      | false ↦ λ e. refl
    ] refl

pub added-grows : (h : Holding) (day quantity cents : ℕ) (free : Bool) → Grows h (shares_added h day quantity cents free).holding (cond free 0 1)
added-grows h day quantity cents false =
    let lot = new_lot h day quantity cents false in
    record {
      numbers = omega (arith, sum-placed free_of lot h.lots);
      parts_le = omega (arith, sum-placed parts_of lot h.lots, some-le quantity, some-none);
    }
added-grows h day quantity cents true =
    let lot = new_lot h day quantity cents true in
    elim (find (λ (l : Lot). l.free) h.lots) as (λ found. Grows h (added_to h lot (option_map (λ (l : Lot). l.number) found)).holding 0) [
      | None ↦ record { numbers = omega (arith, sum-placed free_of lot h.lots); parts_le = omega (arith, sum-placed parts_of lot h.lots) }
      | Some other ↦ record { numbers = omega (arith, join-frees quantity cents h.lots); parts_le = omega (arith, join-parts quantity cents h.lots) }
    ]

pub pieces-grows : (given : List Piece) (h : Holding) → Grows h (fold holding_with_piece h given) (owned given)
pieces-grows [] h = record { numbers = omega arith; parts_le = omega arith }
pieces-grows (piece ∷ given) h =
    let here = added-grows h piece.day piece.mils piece.cost piece.free in
    let rest = pieces-grows given (holding_with_piece h piece) in
    let both = sum_by-cons owned_of piece given in
    record { numbers = omega (arith, here.numbers, rest.numbers, both); parts_le = omega (arith, here.parts_le, rest.parts_le, both) }

-- ---- holding back, releasing and paying

abbrev with_number : ℕ → Lot → ℕ
with_number number lot = cond (lot.number == number) 1 0

hold-one : (number quantity : ℕ) (lot : Lot) → parts_of (hold_in number quantity lot) ≤ parts_of lot + with_number number lot
hold-one number quantity lot = elim (lot.number == number) as (λ b. parts_of (cond b (record lot { loose = lot.loose - quantity; held = lot.held + quantity }) lot) ≤ parts_of lot + cond b 1 0) [
  | true ↦ elim lot.free as (λ b. cond b 0 (some (lot.loose - quantity) + some (lot.held + quantity)) ≤ cond b 0 (some lot.loose + some lot.held) + 1) [
    | true ↦ omega arith
    | false ↦ omega (arith, some-more (lot.loose - quantity) lot.loose (omega arith), some-le (lot.held + quantity))
  ]
  | false ↦ omega arith
]

hold-parts : (number quantity : ℕ) (lots : List Lot) → parts (map (hold_in number quantity) lots) ≤ parts lots + sum_by (with_number number) lots
hold-parts number quantity [] = omega arith
hold-parts number quantity (x ∷ xs) =
    omega (arith, hold-one number quantity x, hold-parts number quantity xs, sum_by-cons parts_of x xs, sum_by-cons (with_number number) x xs, sum_by-cons parts_of (hold_in number quantity x) (map (hold_in number quantity) xs))

with_number-le : (number : ℕ) (lot : Lot) → with_number number lot ≤ 1
with_number-le number lot = elim (lot.number == number) as (λ b. cond b 1 0 ≤ 1) [ true ↦ omega arith | false ↦ omega arith ]

none-numbered : (next : ℕ) (lots : List Lot) → All (λ (lot : Lot). lot.number < next) lots → sum_by (with_number next) lots ≡ 0
none-numbered next [] all = refl
none-numbered next (x ∷ xs) all =
    let below = All-head (λ (lot : Lot). lot.number < next) x xs all in
    omega (arith, one below, none-numbered next xs (All-tail (λ (lot : Lot). lot.number < next) x xs all), sum_by-cons (with_number next) x xs)
  where
    one : x.number < next → with_number next x ≡ 0
    one below = elim (x.number == next) as (λ b. (x.number == next) ≡ b → ◌≡◌ {A = ℕ} (cond b 1 0) 0) [
      | true ↦ λ e. let same = eqb-true x.number next e in absurd (omega (arith, same, below))
      | false ↦ λ e. refl
    ] refl

-- of a new lot some mils are held back
pub bought-parts : (h : Holding) (day quantity cents hold : ℕ) → All (λ (lot : Lot). lot.number < h.next_lot) h.lots → parts (hold_mils (shares_added h day quantity cents false).holding (shares_added h day quantity cents false).number hold).lots ≤ parts h.lots + 2
bought-parts h day quantity cents hold below =
    let lot = new_lot h day quantity cents false in
    omega (arith, hold-parts h.next_lot hold (with_lot h lot).lots, sum-placed (with_number h.next_lot) lot h.lots, with_number-le h.next_lot lot, none-numbered h.next_lot h.lots below, (added-grows h day quantity cents false).parts_le)

release-one : (lot : Lot) → parts_of (release_lot lot) ≤ parts_of lot
release-one lot = elim lot.free as (λ b. cond b 0 (some (lot.loose + lot.held) + some 0) ≤ cond b 0 (some lot.loose + some lot.held)) [
  | true ↦ omega arith
  | false ↦ omega (arith, some-both lot.loose lot.held, some-none)
]

pub release-parts : (lots : List Lot) → parts (map release_lot lots) ≤ parts lots
release-parts [] = omega arith
release-parts (x ∷ xs) =
    omega (arith, release-one x, release-parts xs, sum_by-cons parts_of x xs, sum_by-cons parts_of (release_lot x) (map release_lot xs))

paying-one : (all : List Lot) (asked : ℕ) (lot : Lot) → parts_of (lot_paying all asked lot) ≤ parts_of lot
paying-one all asked lot =
    let paid = lot_paying all asked lot in
    elim lot.free as (λ b. cond b 0 (some lot.loose + some paid.held) ≤ cond b 0 (some lot.loose + some lot.held)) [
      | true ↦ omega arith
      | false ↦ omega (arith, some-more paid.held lot.held (omega arith))
    ]

paying-parts : (all : List Lot) (asked : ℕ) (lots : List Lot) → parts (map (lot_paying all asked) lots) ≤ parts lots
paying-parts all asked [] = omega arith
paying-parts all asked (x ∷ xs) =
    omega (arith, paying-one all asked x, paying-parts all asked xs, sum_by-cons parts_of x xs, sum_by-cons parts_of (lot_paying all asked x) (map (lot_paying all asked) xs))

pub paid-parts : (h : Holding) (asked : ℕ) → parts (release_all (after_paying h asked)).lots ≤ parts h.lots
paid-parts h asked =
    omega (arith, release-parts (after_paying h asked).lots, sum_by-filter-le parts_of has_mils (map (lot_paying h.lots asked) h.lots), paying-parts h.lots asked h.lots)

-- ---- lots that have mils

-- a lot that isn't free
abbrev pub is_owned : Lot → Bool
is_owned lot = not lot.free

-- each of them that has mils has a part at least
pub owned-parts : (lots : List Lot) → All (λ (lot : Lot). 1 ≤ mils lot) lots → count_by is_owned lots ≤ parts lots
owned-parts [] some_mils = omega arith
owned-parts (x ∷ xs) some_mils =
    omega (arith, sum_by-cons (λ (lot : Lot). cond (is_owned lot) 1 0) x xs, sum_by-cons parts_of x xs, own (All-head (λ (lot : Lot). 1 ≤ mils lot) x xs some_mils), owned-parts xs (All-tail (λ (lot : Lot). 1 ≤ mils lot) x xs some_mils))
  where
    own : 1 ≤ mils x → cond (not x.free) 1 0 ≤ parts_of x
    own here = elim x.free as (λ b. cond (not b) 1 0 ≤ cond b 0 (some x.loose + some x.held)) [
      | true ↦ omega arith
      | false ↦ elim (cases_lt 0 x.loose) [
        | inl there ↦ omega (arith, some-yes x.loose there)
        | inr none ↦ omega (arith, some-yes x.held (omega (arith, here, none)))
      ]
    ]

-- Held mils by date and number, told by rank.
use Rattle.std.proofs.Common.{◌≡◌, ℕ, zero, suc, ◌+◌, ◌<◌, ◌≤◌, Bool, true, false, cond, List, [], ◌∷◌, length, get_or, find, map, filter, take, sum_by, Option, Some, None, refl, sym, ap, ◌∙◌, arith}
use Rattle.std.specs.Prelude.{All}
use Rattle.std.proofs.lemmas.List.Sums.{sum_by-cons, sum_by-le-sum_by, sum_by_more, sum_by_more_le}
use Rattle.share_lots.specs.declared.lot.Lot.{Lot}
use Rattle.share_lots.specs.Lots.{Holding, IsHolding, IsLot, AreRanked, before_by_date, ranks_before, most_mils}
use Rattle.share_lots.specs.Taking.{held_if_before, held_before, held_before_free, free_held, owned_held, before_of, lot_paying, has_mils}
use Rattle.share_lots.proofs.LotLemmas.{Follows, IsHolding-follows, All-has_mils, AllPairs-head, AllPairs-tail, All-head, All-tail, owned_behind}
use Rattle.share_lots.proofs.OrderLemmas.{before-itself, before-back, ranks-owned, ranks-dated}

if_before_le : (lot other : Lot) → held_if_before lot other ≤ other.held
if_before_le lot other = elim (before_by_date other lot) as (λ b. cond b other.held 0 ≤ other.held) [ true ↦ omega arith | false ↦ omega arith ]

owned_le : (lot : Lot) → owned_held lot ≤ lot.held
owned_le lot = elim lot.free as (λ b. cond b 0 lot.held ≤ lot.held) [ true ↦ omega arith | false ↦ omega arith ]

held_before-le : (lots : List Lot) (lot : Lot) → held_before lots lot ≤ sum_by (λ l. l.held) lots
held_before-le lots lot = sum_by-le-sum_by (held_if_before lot) (λ (l : Lot). l.held) lots (if_before_le lot)

pub before_free-le : (lots : List Lot) (free : Option Lot) → held_before_free lots free ≤ sum_by (λ l. l.held) lots
before_free-le lots None = omega arith
before_free-le lots (Some free) = held_before-le lots free

-- what is passed stays within the whole
pub passed-more : (lots : List Lot) (i passed : ℕ) (x : Lot) → i < length lots → x ≡ get_or lots i x → passed ≡ sum_by owned_held (take i lots) → sum_by (λ l. l.held) lots ≤ most_mils → (passed + owned_held x ≡ sum_by owned_held (take (i + 1) lots)) × (passed + owned_held x ≤ most_mils)
passed-more lots i passed x h is so total =
    let owned : sum_by owned_held lots ≤ sum_by (λ (l : Lot). l.held) lots = sum_by-le-sum_by owned_held (λ (l : Lot). l.held) lots owned_le in
    let same : owned_held (get_or lots i x) ≡ owned_held x = ap owned_held (sym is) in
    (omega (arith, sum_by_more owned_held lots i x h), omega (arith, sum_by_more_le owned_held lots i x h))

-- a free lot comes first, and is the one that is found
first_free : (lots : List Lot) (i : ℕ) (x : Lot) → AreRanked lots → i < length lots → x ≡ get_or lots i x → x.free ≡ true → find (λ l. l.free) lots ≡ Some x
first_free [] i x ranked h is free = absurd (omega arith)
first_free (y ∷ ys) zero x ranked h is free = ap (λ b. cond b (Some y) (find (λ l. l.free) ys)) (ap (λ (l : Lot). l.free) (sym is) ∙ free) ∙ ap Some (sym is)
first_free (y ∷ ys) (suc i) x ranked h is free =
    let owned : x.free ≡ false = ap (λ (l : Lot). l.free) is ∙ owned_behind y ys ranked i x (omega arith) in
    let clash : true ≡ false = sym free ∙ owned in cc

-- the free lot's part of what is held before a lot
free_if_before : Lot → Lot → ℕ
free_if_before lot other = cond other.free (held_if_before lot other) 0

owned_none : (lot : Lot) (lots : List Lot) → All (λ l. l.free ≡ false) lots → sum_by (free_if_before lot) lots ≡ 0
unfolding free_if_before
owned_none lot [] owned = refl
owned_none lot (x ∷ xs) owned =
    let here : free_if_before lot x ≡ 0 = ap (λ b. cond b (held_if_before lot x) 0) (All-head (λ l. l.free ≡ false) x xs owned) in
    rw (sum_by-cons (free_if_before lot) x xs) (omega (arith, here, owned_none lot xs (All-tail (λ l. l.free ≡ false) x xs owned)))

-- a part of the position is within its limits
pub free_bound : (lots : List Lot) (lot : Lot) → All IsLot lots → free_held (find (λ l. l.free) lots) lot ≤ most_mils
free_bound [] lot is = omega arith
free_bound (x ∷ xs) lot is = by (free_bound xs lot (All-tail IsLot x xs is)) x.free
  where
    by : free_held (find (λ l. l.free) xs) lot ≤ most_mils → (b : Bool) → free_held (cond b (Some x) (find (λ l. l.free) xs)) lot ≤ most_mils
    by later true = let few = All-head IsLot x xs is in omega (arith, few.few_mils, if_before_le lot x)
    by later false = later

-- what the free lot holds before a lot
free_part : (lot : Lot) (lots : List Lot) → AreRanked lots → sum_by (free_if_before lot) lots ≡ free_held (find (λ l. l.free) lots) lot
unfolding free_if_before
free_part lot [] ranked = refl
free_part lot (x ∷ xs) ranked = rw (sum_by-cons (free_if_before lot) x xs) (by (free_part lot xs (AllPairs-tail (λ a b. ranks_before a b ≡ true) x xs ranked)) x.free)
  where
    by : sum_by (free_if_before lot) xs ≡ free_held (find (λ l. l.free) xs) lot → (b : Bool) → cond b (held_if_before lot x) 0 + sum_by (free_if_before lot) xs ≡ free_held (cond b (Some x) (find (λ l. l.free) xs)) lot
    by later true = omega (arith, owned_none lot xs (owned_behind x xs ranked))
    by later false = omega (arith, later)

-- the lots behind one that isn't free stand behind it by date
none_behind : (x : Lot) (xs : List Lot) → x.free ≡ false → All (λ l. ranks_before x l ≡ true) xs → sum_by (held_if_before x) xs ≡ 0
none_behind x [] owned behind = refl
none_behind x (y ∷ ys) owned behind =
    let first = All-head (λ l. ranks_before x l ≡ true) y ys behind in
    let dated = sym (ranks-dated x y owned (ranks-owned x y first)) ∙ first in
    let here : held_if_before x y ≡ 0 = ap (λ b. cond b y.held 0) (before-back x y dated) in
    rw (sum_by-cons (held_if_before x) y ys) (omega (arith, here, none_behind x ys owned (All-tail (λ l. ranks_before x l ≡ true) y ys behind)))

-- a lot of lower rank holds before one that isn't free
split_before : (x y : Lot) (b : Bool) → y.free ≡ b → x.free ≡ false → ranks_before y x ≡ true → held_if_before x y ≡ owned_held y + free_if_before x y
unfolding free_if_before
split_before x y true free owned first =
    let none : owned_held y ≡ 0 = ap (λ b. cond b 0 y.held) free in
    let all : free_if_before x y ≡ held_if_before x y = ap (λ b. cond b (held_if_before x y) 0) free in
    omega arith
split_before x y false free owned first =
    let held : owned_held y ≡ y.held = ap (λ b. cond b 0 y.held) free in
    let none : free_if_before x y ≡ 0 = ap (λ b. cond b (held_if_before x y) 0) free in
    let all : held_if_before x y ≡ y.held = ap (λ b. cond b y.held 0) (sym (ranks-dated y x free owned) ∙ first) in
    omega arith

free_if_le : (lot other : Lot) → free_if_before lot other ≤ held_if_before lot other
unfolding free_if_before
free_if_le lot other = elim other.free as (λ b. cond b (held_if_before lot other) 0 ≤ held_if_before lot other) [ true ↦ omega arith | false ↦ omega arith ]

-- what is held before a lot that isn't free
owned_before : (lots : List Lot) (i : ℕ) (x : Lot) → AreRanked lots → i < length lots → x ≡ get_or lots i x → x.free ≡ false → held_before lots x ≡ sum_by owned_held (take i lots) + sum_by (free_if_before x) lots
owned_before [] i x ranked h is owned = absurd (omega arith)
owned_before (y ∷ ys) zero x ranked h is owned =
    let behind : All (λ l. ranks_before x l ≡ true) ys = rw (← is) at (AllPairs-head (λ a b. ranks_before a b ≡ true) y ys ranked) in
    let none = none_behind x ys owned behind in
    let free_none = sum_by-le-sum_by (free_if_before x) (held_if_before x) ys (free_if_le x) in
    let here : held_if_before x y ≡ 0 = ap (λ b. cond b y.held 0) (before-itself y x (sym is)) in
    rw (sum_by-cons (held_if_before x) y ys, sum_by-cons (free_if_before x) y ys) (omega (arith, free_if_le x y))
owned_before (y ∷ ys) (suc i) x ranked h is owned =
    let first : ranks_before y x ≡ true = rw (← is) at (AllPairs-head (λ a b. ranks_before a b ≡ true) y ys ranked i x (omega arith)) in
    let rest = owned_before ys i x (AllPairs-tail (λ a b. ranks_before a b ≡ true) y ys ranked) (omega arith) is owned in
    let here = split_before x y y.free refl owned first in
    rw (sum_by-cons (held_if_before x) y ys, sum_by-cons (free_if_before x) y ys, sum_by-cons owned_held y (take i ys)) (omega arith)

-- the held mils before a lot, told by rank
pub before_is : (lots : List Lot) (i : ℕ) (x : Lot) (passed : ℕ) → AreRanked lots → i < length lots → x ≡ get_or lots i x → passed ≡ sum_by owned_held (take i lots) → before_of x (find (λ l. l.free) lots) (held_before_free lots (find (λ l. l.free) lots)) passed ≡ held_before lots x
before_is lots i x passed ranked h is so = by x.free refl
  where
    by : (b : Bool) → x.free ≡ b → cond x.free (held_before_free lots (find (λ l. l.free) lots)) (passed + free_held (find (λ l. l.free) lots) x) ≡ held_before lots x
    by true free =
        ap (λ b. cond b (held_before_free lots (find (λ l. l.free) lots)) (passed + free_held (find (λ l. l.free) lots) x)) free
        ∙ ap (held_before_free lots) (first_free lots i x ranked h is free)
    by false owned =
        ap (λ b. cond b (held_before_free lots (find (λ l. l.free) lots)) (passed + free_held (find (λ l. l.free) lots) x)) owned
        ∙ (let all = owned_before lots i x ranked h is owned in let part = free_part x lots ranked in omega arith)

-- the position after held mils are paid
Follows-paying : (all : List Lot) (asked : ℕ) (lots : List Lot) → Follows lots (map (lot_paying all asked) lots)
Follows-paying all asked [] = tt
Follows-paying all asked (x ∷ xs) = (record { number = refl; day_is = refl; free_is = refl; mils_le = omega arith; cost_le = omega arith }, Follows-paying all asked xs)

pub IsHolding-paying : (h : Holding) (asked : ℕ) → IsHolding h → IsHolding (record { lots = filter has_mils (map (lot_paying h.lots asked) h.lots); next_lot = h.next_lot })
IsHolding-paying h asked is = IsHolding-follows h (map (lot_paying h.lots asked) h.lots) has_mils is (Follows-paying h.lots asked h.lots) (All-has_mils (map (lot_paying h.lots asked) h.lots))

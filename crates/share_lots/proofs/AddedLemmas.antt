-- What an addition leaves: the lot that took the mils has so many loose ones, and mils and cost grow by what is added.
use Rattle.std.proofs.Common.{Option, ◌≡◌, ◌≢◌, ℕ, ◌+◌, ◌<◌, ◌≤◌, Bool, true, false, cond, List, [], ◌∷◌, map, sum_by, refl, subst, sym, ap, ◌∙◌, arith, find, Some, None, option_map}
use Rattle.std.specs.Prelude.{All, AllPairs}
use Rattle.std.proofs.lemmas.List.Elements.{All-cons}
use Rattle.std.proofs.lemmas.List.Sums.{sum_by-cons}
use Rattle.share_lots.specs.declared.lot.Lot.{Lot}
use Rattle.share_lots.specs.Lots.{Holding, shares_added, added_to, new_lot, mils, AreRanked, HasLoose, join_free, lots_with, lot_joined, free_number}
use Rattle.share_lots.proofs.LotLemmas.{All-head, All-tail, AllPairs-head, All-placed, sum-placed, sum-mils, owned_behind, map-join_none, join-free}

-- where the first lot isn't free, none is
pub none_found : (lots : List Lot) → All (λ l. l.free ≡ false) lots → find (λ l. l.free) lots ≡ None
none_found [] owned = refl
none_found (x ∷ xs) owned =
    ap (λ b. cond b (Some x) (find (λ l. l.free) xs)) (All-head (λ l. l.free ≡ false) x xs owned)
    ∙ none_found xs (All-tail (λ l. l.free ≡ false) x xs owned)

first_free : (x : Lot) (xs : List Lot) (number : ℕ) (b : Bool) → x.free ≡ b → AreRanked (x ∷ xs)
    → free_number (x ∷ xs) ≡ Some number → (x.free ≡ true) × (x.number ≡ number)
first_free x xs number true free ranked found =
    let here = ap (λ b. option_map (λ (l : Lot). l.number) (cond b (Some x) (find (λ l. l.free) xs))) free in
    let same : Some x.number ≡ Some number = sym here ∙ found in
    (free, cc)
first_free x xs number false free ranked found =
    let here = ap (λ b. option_map (λ (l : Lot). l.number) (cond b (Some x) (find (λ l. l.free) xs))) free in
    let none = ap (option_map (λ (l : Lot). l.number)) (none_found xs (owned_behind x xs ranked)) in
    let clash : None ≡ Some number = sym none ∙ (sym here ∙ found) in
    absurd cc

lot_with : (lots : List Lot) (free : Bool) (number : ℕ) → lot_joined lots free ≡ Some number → free_number lots ≡ Some number
lot_with lots true number h = h
lot_with lots false number h = cc

-- the lot that free mils join has so many loose ones
pub joined-loose : (q c number : ℕ) (lots : List Lot) (free : Bool) → AreRanked lots → AllPairs (λ a b. a.number ≢ b.number) lots
    → lot_joined lots free ≡ Some number → HasLoose (map (join_free q c) lots) number q
joined-loose q c number [] free ranked apart h = λ k d short. absurd (omega arith)
joined-loose q c number (x ∷ xs) free ranked apart h =
    let first = first_free x xs number x.free refl ranked (lot_with (x ∷ xs) free number h) in
    let here : x.number ≡ number → q ≤ (join_free q c x).loose =
    λ same. rw (join-free q c x first.0) (omega arith) in
    let none = map-join_none q c xs (owned_behind x xs ranked) in
    subst (λ (ys : List Lot). HasLoose (join_free q c x ∷ ys) number q) (sym none)
    (All-cons (λ lot. lot.number ≡ number → q ≤ lot.loose) (join_free q c x) xs (λ same. here first.1)
    (λ k d short same. absurd (AllPairs-head (λ a b. a.number ≢ b.number) x xs apart k d short (first.1 ∙ sym same))))

-- what joins is added once
pub joined-sum : (f : Lot → ℕ) (more q c number : ℕ) (lots : List Lot) (free : Bool)
    → ((lot : Lot) → f (record lot { loose = lot.loose + q; cost = lot.cost + c }) ≡ f lot + more) → AreRanked lots
    → lot_joined lots free ≡ Some number → sum_by f (map (join_free q c) lots) ≡ sum_by f lots + more
joined-sum f more q c number [] free step ranked h = let found : None ≡ Some number = lot_with [] free number h in absurd cc
joined-sum f more q c number (x ∷ xs) free step ranked h =
    let first = first_free x xs number x.free refl ranked (lot_with (x ∷ xs) free number h) in
    let here : f (join_free q c x) ≡ f x + more = ap f (join-free q c x first.0) ∙ step x in
    let rest : sum_by f (map (join_free q c) xs) ≡ sum_by f xs = ap (sum_by f) (map-join_none q c xs (owned_behind x xs ranked)) in
    rw (sum_by-cons f (join_free q c x) (map (join_free q c) xs), sum_by-cons f x xs) (omega arith)

pub joined-mils : (q c number : ℕ) (lots : List Lot) (free : Bool) → AreRanked lots → lot_joined lots free ≡ Some number
    → sum_by (λ lot. lot.loose) (map (join_free q c) lots) + sum_by (λ lot. lot.held) (map (join_free q c) lots)
    ≡ sum_by (λ lot. lot.loose) lots + sum_by (λ lot. lot.held) lots + q
joined-mils q c number lots free ranked h =
    omega (arith, sum-mils lots, sum-mils (map (join_free q c) lots), joined-sum mils q q c number lots free (λ lot. omega arith) ranked h)

pub joined-cost : (q c number : ℕ) (lots : List Lot) (free : Bool) → AreRanked lots → lot_joined lots free ≡ Some number
    → sum_by (λ lot. lot.cost) (map (join_free q c) lots) ≡ sum_by (λ lot. lot.cost) lots + c
joined-cost q c number lots free ranked h = joined-sum (λ lot. lot.cost) c q c number lots free (λ lot. refl) ranked h

-- a new lot
pub placed-loose : (next q : ℕ) (lot : Lot) (lots : List Lot) → All (λ l. l.number < next) lots → lot.loose ≡ q
    → HasLoose (lots_with lot lots) next q
placed-loose next q lot lots below has =
    All-placed (λ l. l.number ≡ next → q ≤ l.loose) lot lots (λ same. omega arith)
    (λ k d short same. let less = below k d short in absurd (omega arith))

pub placed-mils : (q : ℕ) (lot : Lot) (lots : List Lot) → mils lot ≡ q
    → sum_by (λ l. l.loose) (lots_with lot lots) + sum_by (λ l. l.held) (lots_with lot lots)
    ≡ sum_by (λ l. l.loose) lots + sum_by (λ l. l.held) lots + q
placed-mils q lot lots has = omega (arith, sum-mils lots, sum-mils (lots_with lot lots), sum-placed mils lot lots)

pub placed-cost : (c : ℕ) (lot : Lot) (lots : List Lot) → lot.cost ≡ c
    → sum_by (λ l. l.cost) (lots_with lot lots) ≡ sum_by (λ l. l.cost) lots + c
placed-cost c lot lots has = omega (arith, sum-placed (λ (l : Lot). l.cost) lot lots)

-- a lot with so many loose mils has fewer too
pub HasLoose-fewer : (lots : List Lot) (number fewer q : ℕ) → fewer ≤ q → HasLoose lots number q → HasLoose lots number fewer
HasLoose-fewer lots number fewer q le has k d short same = let here = has k d short same in omega arith

-- the next number rises by one at most
pub next_added : (h : Holding) (day q c : ℕ) (free : Bool) → (shares_added h day q c free).holding.next_lot ≤ h.next_lot + 1
next_added h day q c free = at (lot_joined h.lots free)
  where
    at : (joins : Option ℕ) → (added_to h (new_lot h day q c free) joins).holding.next_lot ≤ h.next_lot + 1
    at None = omega arith
    at (Some number) = omega arith

-- and no lower one follows
pub next_kept : (h : Holding) (day q c : ℕ) (free : Bool) → h.next_lot ≤ (shares_added h day q c free).holding.next_lot
next_kept h day q c free = at (lot_joined h.lots free)
  where
    at : (joins : Option ℕ) → h.next_lot ≤ (added_to h (new_lot h day q c free) joins).holding.next_lot
    at None = omega arith
    at (Some number) = omega arith

-- Rising places: how many there are, one more among them, and those that are left of them.
use Rattle.std.proofs.Common.{Bool, Err, List, Ok, Result, IsOk, is_ok, [], ap, arith, cond, drop, false, filter, get_or, length, length-append, nat_lt, refl, subst, suc, sym, take, true, zero, ℕ, ◌++◌, ◌-◌, ◌<◌, ◌∙◌, ◌∷◌, ◌≡◌, ◌≤◌}
use Rattle.std.proofs.lemmas.Bool.{false≢true, ltb-true}
use Rattle.std.proofs.lemmas.List.{take-append-drop}
use Rattle.std.proofs.lemmas.List.Sorted.{searched}
use Rattle.std.specs.List.{insert}
use Rattle.std.specs.List.Sorted.{IsBinarySearchResult}
use Rattle.std.specs.Ordering.{nat_cmp}
use Rattle.register_laws.proofs.Comparisons.{lt-no, lt-yes}
use Rattle.standing_orders.specs.Places.{RisesWithin, with_place}

pub rises-length : (from to : ℕ) (xs : List ℕ) → RisesWithin from to xs → length xs ≤ to - from
rises-length from to [] rises = omega arith
rises-length from to (x ∷ xs) rises = omega (arith, rises.0, rises.1, rises-length (suc x) to xs rises.2)

pub rises-from : (lower from to : ℕ) (xs : List ℕ) → lower ≤ from → RisesWithin from to xs → RisesWithin lower to xs
rises-from lower from to [] low rises = tt
rises-from lower from to (x ∷ xs) low rises = (omega (arith, low, rises.0), rises.1, rises.2)

pub rises-to : (from to higher : ℕ) (xs : List ℕ) → to ≤ higher → RisesWithin from to xs → RisesWithin from higher xs
rises-to from to higher [] high rises = tt
rises-to from to higher (x ∷ xs) high rises = (rises.0, omega (arith, high, rises.1), rises-to (suc x) to higher xs high rises.2)

-- one more behind them
pub rises-behind : (from to : ℕ) (xs : List ℕ) → from ≤ to → RisesWithin from to xs → RisesWithin from (suc to) (xs ++ to ∷ [])
rises-behind from to [] low rises = (low, omega arith, tt)
rises-behind from to (x ∷ xs) low rises = (rises.0, omega (arith, rises.1), rises-behind (suc x) to xs rises.1 rises.2)

-- those that pass
pub rises-filter : (test : ℕ → Bool) (from to : ℕ) (xs : List ℕ) → RisesWithin from to xs → RisesWithin from to (filter test xs)
rises-filter test from to [] rises = tt
rises-filter test from to (x ∷ xs) rises = by_test (test x) (rises-filter test (suc x) to xs rises.2)
  where
    by_test : (is : Bool) → RisesWithin (suc x) to (filter test xs) → RisesWithin from to (cond is (x ∷ filter test xs) (filter test xs))
    by_test true rest = (rises.0, rises.1, rest)
    by_test false rest = rises-from from (suc x) to (filter test xs) (omega (arith, rises.0)) rest

-- ---- one more among them

pub rises-with : (place from to : ℕ) (xs : List ℕ) → from ≤ place → place < to → RisesWithin from to xs → RisesWithin from to (with_place place xs)
rises-with place from to [] low high rises = (low, high, tt)
rises-with place from to (x ∷ xs) low high rises = by_less (nat_lt x place) refl (λ less. rises-with place (suc x) to xs less high rises.2)
  where
    by_more : (is : Bool) → nat_lt place x ≡ is → nat_lt x place ≡ false → RisesWithin from to (cond is (place ∷ x ∷ xs) (x ∷ xs))
    by_more true e _ = (low, high, (ltb-true place x e, rises.1, rises.2))
    by_more false e _ = rises

    by_less : (is : Bool) → nat_lt x place ≡ is → (x < place → RisesWithin (suc x) to (with_place place xs)) → RisesWithin from to (cond is (x ∷ with_place place xs) (cond (nat_lt place x) (place ∷ x ∷ xs) (x ∷ xs)))
    by_less true e again = (rises.0, rises.1, again (ltb-true x place e))
    by_less false e again = by_more (nat_lt place x) refl e

-- put in where all before are less and all behind are greater
pub put-between : (place at : ℕ) (xs : List ℕ) → at ≤ length xs → ((k : ℕ) → k < at → get_or xs k 0 < place) → ((k : ℕ) → at ≤ k → k < length xs → place < get_or xs k 0) → insert xs at place ≡ with_place place xs
put-between place zero [] short less more = refl
put-between place (suc at) [] short less more = absurd (omega (arith, short))
put-between place zero (x ∷ xs) short less more =
    let greater : place < x = more 0 (omega arith) (omega arith) in
    sym (ap (λ is. cond is (x ∷ with_place place xs) (cond (nat_lt place x) (place ∷ x ∷ xs) (x ∷ xs))) (lt-no x place (omega (arith, greater)))
    ∙ ap (λ is. cond is (place ∷ x ∷ xs) (x ∷ xs)) (lt-yes place x greater))
put-between place (suc at) (x ∷ xs) short less more =
    ap (λ later. x ∷ later) (put-between place at xs (omega (arith, short)) (λ k low. less (suc k) (omega (arith, low))) (λ k high within. more (suc k) (omega (arith, high)) (omega (arith, within))))
    ∙ sym (ap (λ is. cond is (x ∷ with_place place xs) (cond (nat_lt place x) (place ∷ x ∷ xs) (x ∷ xs))) (lt-yes x place (less 0 (omega arith))))

pub least-first : (from to : ℕ) (xs : List ℕ) (k : ℕ) → RisesWithin from to xs → k < length xs → from ≤ get_or xs k 0
least-first from to [] k rises short = absurd (omega (arith, short))
least-first from to (x ∷ xs) zero rises short = rises.0
least-first from to (x ∷ xs) (suc k) rises short = omega (arith, rises.0, least-first (suc x) to xs k rises.2 (omega (arith, short)))

pub ascends : (from to : ℕ) (xs : List ℕ) → RisesWithin from to xs → (i j : ℕ) → i ≤ j → j < length xs → get_or xs i 0 ≤ get_or xs j 0
ascends from to [] rises i j le short = absurd (omega (arith, short))
ascends from to (x ∷ xs) rises zero zero le short = omega arith
ascends from to (x ∷ xs) rises zero (suc j) le short = omega (arith, least-first (suc x) to xs j rises.2 (omega (arith, short)))
ascends from to (x ∷ xs) rises (suc i) zero le short = absurd (omega (arith, le))
ascends from to (x ∷ xs) rises (suc i) (suc j) le short = ascends (suc x) to xs rises.2 i j (omega (arith, le)) (omega (arith, short))

-- nothing changes where it is among them
pub stays-among : (place at from to : ℕ) (xs : List ℕ) → RisesWithin from to xs → at < length xs → get_or xs at 0 ≡ place → with_place place xs ≡ xs
stays-among place at from to [] rises short there = absurd (omega (arith, short))
stays-among place zero from to (x ∷ xs) rises short there =
    ap (λ is. cond is (x ∷ with_place place xs) (cond (nat_lt place x) (place ∷ x ∷ xs) (x ∷ xs))) (lt-no x place (omega (arith, there)))
    ∙ ap (λ is. cond is (place ∷ x ∷ xs) (x ∷ xs)) (lt-no place x (omega (arith, there)))
stays-among place (suc at) from to (x ∷ xs) rises short there =
    ap (λ is. cond is (x ∷ with_place place xs) (cond (nat_lt place x) (place ∷ x ∷ xs) (x ∷ xs))) (lt-yes x place (omega (arith, there, least-first (suc x) to xs at rises.2 (omega (arith, short)))))
    ∙ ap (λ later. x ∷ later) (stays-among place at (suc x) to xs rises.2 (omega (arith, short)) there)

-- ---- what a search finds

pub found-between : (place to : ℕ) (xs shown : List ℕ) (at : ℕ) (found : Result ℕ ℕ) → shown ≡ xs → RisesWithin 0 to xs → IsBinarySearchResult (λ y. nat_cmp y place) shown found → found ≡ Err at → insert xs at place ≡ with_place place xs
found-between place to xs shown at found shown_is rises result is =
    let facts = searched xs place (Err at) (subst (λ (r : Result ℕ ℕ). IsBinarySearchResult (λ y. nat_cmp y place) xs r) is (subst (λ ys. IsBinarySearchResult (λ y. nat_cmp y place) ys found) shown_is result)) (ascends 0 to xs rises) in
    put-between place at xs facts.0 facts.1 facts.2

pub stays-found : (place to : ℕ) (xs shown : List ℕ) (at : ℕ) (found : Result ℕ ℕ) → shown ≡ xs → RisesWithin 0 to xs → IsBinarySearchResult (λ y. nat_cmp y place) shown found → found ≡ Ok at → with_place place xs ≡ xs
stays-found place to xs shown at found shown_is rises result is =
    let facts = searched xs place (Ok at) (subst (λ (r : Result ℕ ℕ). IsBinarySearchResult (λ y. nat_cmp y place) xs r) is (subst (λ ys. IsBinarySearchResult (λ y. nat_cmp y place) ys found) shown_is result)) (ascends 0 to xs rises) in
    stays-among place at 0 to xs rises facts.0 facts.1

-- one that isn't among them leaves room below the bound
pub room-between : (place to : ℕ) (xs : List ℕ) (at : ℕ) → RisesWithin 0 to xs → place < to → insert xs at place ≡ with_place place xs → length xs < to
room-between place to xs at rises within put =
    let longer = rises-length 0 to (with_place place xs) (rises-with place 0 to xs (omega arith) within rises) in
    let same = ap length put in
    let parts = length-append (take at xs) (place ∷ drop at xs) in
    let whole = length-append (take at xs) (drop at xs) in
    let back = ap length (take-append-drop at xs) in
    omega (arith, longer, same, parts, whole, back)

-- the bound itself comes behind them
pub with-behind : (from to : ℕ) (xs : List ℕ) → RisesWithin from to xs → with_place to xs ≡ xs ++ to ∷ []
with-behind from to [] rises = refl
with-behind from to (x ∷ xs) rises =
    ap (λ is. cond is (x ∷ with_place to xs) (cond (nat_lt to x) (to ∷ x ∷ xs) (x ∷ xs))) (lt-yes x to rises.1)
    ∙ ap (λ later. x ∷ later) (with-behind (suc x) to xs rises.2)

-- what a call that can't fail leaves
pub ok-leaves : {X E A : Type 0} (result : Result X E) (new done before : A) → IsOk result → new ≡ cond (is_ok result) done before → new ≡ done
ok-leaves (Ok x) new done before ok is = is
ok-leaves (Err e) new done before ok is = absurd (false≢true ok)

-- What look-ups say of tests over whole lists: what is found passes, and where keys differ at most one passes.
use Rattle.std.proofs.Common.{Bool, List, None, Some, [], cond, false, filter, find, is_some, length, nat_lt, not, option_map, position, refl, subst, suc, arith, sym, true, ℕ, ◌&&◌, ◌+◌, ◌==◌, ◌||◌, ◌∙◌, ◌∷◌, ◌≡◌, ◌≤◌, ◌≢◌}
use Rattle.std.proofs.lemmas.Bool.{eqb-true}
use Rattle.std.proofs.lemmas.Bool.Decides.{nat_tests}
use Rattle.std.specs.List.{list_any, prefix_len}
use Rattle.std.specs.Option.{option_map_or}
use Rattle.std.specs.Prelude.{All, AllPairs}
use Rattle.share_lots.proofs.LotLemmas.{All-head, All-tail, AllPairs-head, AllPairs-tail}
use Rattle.register_laws.proofs.Isolation.{some-map}
use Rattle.register_laws.proofs.Tests.{find-any}

pub found_any : {X Y : Type 0} (f : X → Y) (test : X → Bool) (xs : List X) → is_some (option_map f (find test xs)) ≡ list_any test xs
found_any f test xs = some-map f (find test xs) ∙ find-any test xs

some-where : (b : Bool) (n : ℕ) → is_some (cond b (Some n) None) ≡ b
some-where true n = refl
some-where false n = refl

pub below-next : (n m : ℕ) → nat_lt (1 + n) (suc m) ≡ nat_lt n m
below-next n m = grind (arith, nat_tests)

below-first : (m : ℕ) → nat_lt 0 (suc m) ≡ true
below-first m = grind (arith, nat_tests)

passes-within : {X : Type 0} (test : X → Bool) (xs : List X) → nat_lt (prefix_len (λ (x : X). not (test x)) xs) (length xs) ≡ list_any test xs
passes-within test [] = refl
passes-within {X = X} test (x ∷ xs) = by_test (test x) (passes-within test xs)
  where
    by_test : (b : Bool) → nat_lt (prefix_len (λ (y : X). not (test y)) xs) (length xs) ≡ list_any test xs → nat_lt (cond (not b) (1 + prefix_len (λ (y : X). not (test y)) xs) 0) (suc (length xs)) ≡ (b || list_any test xs)
    by_test true later = below-first (length xs)
    by_test false later = below-next (prefix_len (λ (y : X). not (test y)) xs) (length xs) ∙ later

pub place_any : {X : Type 0} (test : X → Bool) (xs : List X) → is_some (position test xs) ≡ list_any test xs
place_any {X = X} test xs =
    some-where (nat_lt (prefix_len (λ (x : X). not (test x)) xs) (length xs)) (prefix_len (λ (x : X). not (test x)) xs)
    ∙ passes-within test xs

-- where no other has the key, none passes a test on it
none-else : {X : Type 0} (key : X → ℕ) (more : X → Bool) (k : ℕ) (xs : List X) → All (λ (x : X). k ≢ key x) xs → list_any (λ (x : X). key x == k && more x) xs ≡ false
none-else key more k [] others = refl
none-else {X = X} key more k (x ∷ xs) others =
    by_test (key x == k) refl (none-else key more k xs (All-tail (λ (y : X). k ≢ key y) x xs others))
  where
    by_test : (b : Bool) → (key x == k) ≡ b → list_any (λ (y : X). key y == k && more y) xs ≡ false → (b && more x || list_any (λ (y : X). key y == k && more y) xs) ≡ false
    by_test true e later = absurd (All-head (λ (y : X). k ≢ key y) x xs others (sym (eqb-true (key x) k e)))
    by_test false e later = later

-- where keys differ, a test on a key and on more is one on what has the key
pub one_has : {X : Type 0} (key : X → ℕ) (more : X → Bool) (k : ℕ) (xs : List X) → AllPairs (λ (a b : X). key a ≢ key b) xs → list_any (λ (x : X). key x == k && more x) xs ≡ option_map_or more (find (λ (x : X). key x == k) xs) false
one_has key more k [] differ = refl
one_has {X = X} key more k (x ∷ xs) differ =
    by_test (key x == k) refl (one_has key more k xs (AllPairs-tail (λ (a b : X). key a ≢ key b) x xs differ))
  where
    late : (b c : Bool) → c ≡ false → (b || c) ≡ b
    late true c e = refl
    late false c e = e

    by_test : (b : Bool) → (key x == k) ≡ b → list_any (λ (y : X). key y == k && more y) xs ≡ option_map_or more (find (λ (y : X). key y == k) xs) false → (b && more x || list_any (λ (y : X). key y == k && more y) xs) ≡ option_map_or more (cond b (Some x) (find (λ (y : X). key y == k) xs)) false
    by_test true e later =
        late (more x) (list_any (λ (y : X). key y == k && more y) xs)
        (none-else key more k xs (subst (λ (n : ℕ). All (λ (y : X). n ≢ key y) xs) (eqb-true (key x) k e) (AllPairs-head (λ (a b : X). key a ≢ key b) x xs differ)))
    by_test false e later = later

-- a list of which at most one has the key
none-left : {X : Type 0} (key : X → ℕ) (more : X → Bool) (k : ℕ) (xs : List X) → length (filter (λ (x : X). key x == k) xs) ≡ 0 → list_any (λ (x : X). key x == k && more x) xs ≡ false
none-left key more k [] none = refl
none-left {X = X} key more k (x ∷ xs) none = by_test (key x == k) none (none-left key more k xs)
  where
    by_test : (b : Bool) → length (cond b (x ∷ filter (λ (y : X). key y == k) xs) (filter (λ (y : X). key y == k) xs)) ≡ 0 → (length (filter (λ (y : X). key y == k) xs) ≡ 0 → list_any (λ (y : X). key y == k && more y) xs ≡ false) → (b && more x || list_any (λ (y : X). key y == k && more y) xs) ≡ false
    by_test true none later = absurd (omega arith)
    by_test false none later = later none

pub one_of : {X : Type 0} (key : X → ℕ) (more : X → Bool) (k : ℕ) (xs : List X) → length (filter (λ (x : X). key x == k) xs) ≤ 1 → list_any (λ (x : X). key x == k && more x) xs ≡ option_map_or more (find (λ (x : X). key x == k) xs) false
one_of key more k [] few = refl
one_of {X = X} key more k (x ∷ xs) few = by_test (key x == k) few (none-left key more k xs) (one_of key more k xs)
  where
    late : (b c : Bool) → c ≡ false → (b || c) ≡ b
    late true c e = refl
    late false c e = e

    by_test : (b : Bool) → length (cond b (x ∷ filter (λ (y : X). key y == k) xs) (filter (λ (y : X). key y == k) xs)) ≤ 1 → (length (filter (λ (y : X). key y == k) xs) ≡ 0 → list_any (λ (y : X). key y == k && more y) xs ≡ false) → (length (filter (λ (y : X). key y == k) xs) ≤ 1 → list_any (λ (y : X). key y == k && more y) xs ≡ option_map_or more (find (λ (y : X). key y == k) xs) false) → (b && more x || list_any (λ (y : X). key y == k && more y) xs) ≡ option_map_or more (cond b (Some x) (find (λ (y : X). key y == k) xs)) false
    by_test true few none later = late (more x) (list_any (λ (y : X). key y == k && more y) xs) (none (omega arith))
    by_test false few none later = later few

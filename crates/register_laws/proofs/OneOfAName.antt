-- Where a list has one of a name at most, what holds of some of that name holds of the one that is found.
use Rattle.std.proofs.Common.{Bool, arith, List, Some, [], cond, false, filter, find, length, refl, sym, true, ◌&&◌, ◌++◌, ◌||◌, ◌∷◌, ◌≡◌, ◌≤◌}
use Rattle.std.proofs.lemmas.Bool.{true≢false}
use Rattle.std.specs.List.{list_any}

none-left : {X : Type 0} (named also : X → Bool) (xs : List X) → length (filter named xs) ≤ 0 → list_any (λ x. named x && also x) xs ≡ false
none-left named also [] few = refl
none-left {X = X} named also (x ∷ xs) few = by (named x) few (none-left named also xs)
  where
    by : (b : Bool) → length (cond b (x ∷ filter named xs) (filter named xs)) ≤ 0 → (length (filter named xs) ≤ 0 → list_any (λ y. named y && also y) xs ≡ false) → ((b && also x) || list_any (λ y. named y && also y) xs) ≡ false
    by true few later = absurd (omega (arith, few))
    by false few later = later few

pub or-same : (b : Bool) → (b || false) ≡ b
or-same true = refl
or-same false = refl

-- what passes among the first ones is found there, whatever comes behind
pub found-before : {X : Type 0} (test : X → Bool) (xs ys : List X) → list_any test xs ≡ true → find test (xs ++ ys) ≡ find test xs
found-before test [] ys some = absurd (true≢false (sym some))
found-before {X = X} test (x ∷ xs) ys some = by (test x) some (found-before test xs ys)
  where
    by : (b : Bool) → (b || list_any test xs) ≡ true → (list_any test xs ≡ true → find test (xs ++ ys) ≡ find test xs) → cond b (Some x) (find test (xs ++ ys)) ≡ cond b (Some x) (find test xs)
    by true some later = refl
    by false some later = later some

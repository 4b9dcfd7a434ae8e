-- Counts of what passes a test, and sums over one list that are sums over another.
use Rattle.std.proofs.Common.{All, Bool, List, [], arith, cond, count_by, false, get_or, length, refl, sum_by, true, ℕ, ◌*◌, ◌+◌, ◌||◌, ◌∷◌, ◌≡◌, ◌≤◌}
use Rattle.std.proofs.lemmas.Bool.{true≢false}
use Rattle.std.proofs.lemmas.List.Elements.{All-head, All-tail}
use Rattle.std.proofs.lemmas.List.Sums.{sum_by-cons, sum_by-le}
use Rattle.std.specs.List.{list_any}
use Rattle.register_laws.proofs.Sums.{sums-exchange}
use Rattle.register_machine.proofs.ListItems.{any-counted}

-- and what isn't there counts nothing
pub none-counted : {X : Type 0} (p : X → Bool) (xs : List X) → list_any p xs ≡ false → count_by p xs ≡ 0
none-counted p [] e = refl
none-counted {X = X} p (x ∷ xs) e = by (p x) e (none-counted p xs) (sum_by-cons (λ y. cond (p y) 1 0) x xs)
  where
    by : (is : Bool) → (is || list_any p xs) ≡ false → (list_any p xs ≡ false → count_by p xs ≡ 0) → count_by p (x ∷ xs) ≡ cond is 1 0 + count_by p xs → count_by p (x ∷ xs) ≡ 0
    by true h rest whole = absurd (true≢false h)
    by false h rest whole = omega (arith, whole, rest h)

-- what is there once at most counts one where it is there
pub counted-once : {X : Type 0} (p : X → Bool) (xs : List X) → count_by p xs ≤ 1 → count_by p xs ≤ cond (list_any p xs) 1 0
counted-once {X = X} p xs few = by (list_any p xs) refl
  where
    by : (is : Bool) → list_any p xs ≡ is → count_by p xs ≤ cond is 1 0
    by true e = few
    by false e = omega (arith, none-counted p xs e)

-- more pass a weaker test
pub counts-more : {X : Type 0} (p q : X → Bool) (xs : List X) → All (λ x. p x ≡ true → q x ≡ true) xs → count_by p xs ≤ count_by q xs
counts-more p q [] all = omega arith
counts-more {X = X} p q (x ∷ xs) all =
    omega (arith, one (p x) refl, counts-more p q xs (All-tail (λ y. p y ≡ true → q y ≡ true) x xs all), sum_by-cons (λ y. cond (p y) 1 0) x xs, sum_by-cons (λ y. cond (q y) 1 0) x xs)
  where
    one : (is : Bool) → p x ≡ is → cond is 1 0 ≤ cond (q x) 1 0
    one false e = omega arith
    one true e = rw (All-head (λ y. p y ≡ true → q y ≡ true) x xs all e) (omega arith)

-- a sum of larger terms
pub sum-within : {X : Type 0} (f g : X → ℕ) (xs : List X) → All (λ x. f x ≤ g x) xs → sum_by f xs ≤ sum_by g xs
sum-within f g [] all = omega arith
sum-within f g (x ∷ xs) all =
    omega (arith, All-head (λ y. f y ≤ g y) x xs all, sum-within f g xs (All-tail (λ y. f y ≤ g y) x xs all), sum_by-cons f x xs, sum_by-cons g x xs)

pub ones : {X : Type 0} (xs : List X) → sum_by (λ x. 1) xs ≡ length xs
ones [] = refl
ones (x ∷ xs) = omega (arith, ones xs, sum_by-cons (λ y. 1) x xs)

-- each element has a match among others: there are no more than all others match
pub matched : {X Y : Type 0} (m : X → Y → Bool) (xs : List X) (ys : List Y) → All (λ x. list_any (m x) ys ≡ true) xs → length xs ≤ sum_by (λ y. count_by (λ x. m x y) xs) ys
matched m xs ys there =
    let each = sum-within (λ x. 1) (λ x. sum_by (λ y. cond (m x y) 1 0) ys) xs (λ k d short. any-counted (m (get_or xs k d)) ys (there k d short)) in
    omega (arith, ones xs, each, sums-exchange (λ x y. cond (m x y) 1 0) xs ys)

-- and where each of the others matches few, there are few
pub few-matched : {X Y : Type 0} (m : X → Y → Bool) (most : ℕ) (xs : List X) (ys : List Y) → All (λ x. list_any (m x) ys ≡ true) xs → All (λ y. count_by (λ x. m x y) xs ≤ most) ys → length xs ≤ length ys * most
few-matched m most xs ys there few =
    omega (arith, matched m xs ys there, sum_by-le (λ y. count_by (λ x. m x y) xs) most ys few)

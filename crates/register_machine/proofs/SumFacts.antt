-- Sums over lists.
use Rattle.std.proofs.Common.{List, [], arith, refl, sum_by, ◌+◌, ◌∷◌, ◌≡◌, ℕ}
use Rattle.std.proofs.lemmas.List.Sums.{sum_by-cons}

pub zeros : {X : Type 0} (xs : List X) → sum_by (λ x. 0) xs ≡ 0
zeros [] = refl
zeros (x ∷ xs) = omega (arith, sum_by-cons (λ y. 0) x xs, zeros xs)

pub sum-plus : {X : Type 0} (f g h : X → ℕ) → ((x : X) → h x ≡ f x + g x) → (xs : List X) → sum_by h xs ≡ sum_by f xs + sum_by g xs
sum-plus f g h same [] = refl
sum-plus f g h same (x ∷ xs) =
    omega (arith, sum_by-cons f x xs, sum_by-cons g x xs, sum_by-cons h x xs, same x, sum-plus f g h same xs)

pub sums-exchange : {X Y : Type 0} (f : X → Y → ℕ) (xs : List X) (ys : List Y) → sum_by (λ x. sum_by (f x) ys) xs ≡ sum_by (λ y. sum_by (λ x. f x y) xs) ys
sums-exchange f xs [] = zeros xs
sums-exchange f xs (y ∷ ys) =
    let first = sum-plus (λ x. f x y) (λ x. sum_by (f x) ys) (λ x. sum_by (f x) (y ∷ ys)) (λ x. sum_by-cons (f x) y ys) xs in
    let rest = sums-exchange f xs ys in
    let both = sum_by-cons (λ z. sum_by (λ x. f x z) xs) y ys in
    omega (arith, first, rest, both)

pub sum-same : {X : Type 0} (f g : X → ℕ) → ((x : X) → f x ≡ g x) → (xs : List X) → sum_by f xs ≡ sum_by g xs
sum-same f g same [] = refl
sum-same f g same (x ∷ xs) = omega (arith, sum_by-cons f x xs, sum_by-cons g x xs, same x, sum-same f g same xs)

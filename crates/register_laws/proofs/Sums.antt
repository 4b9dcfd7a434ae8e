-- Sums and counts over what passes a test, and what a search finds.
use Rattle.std.proofs.Common.{All, Bool, List, Some, [], arith, cond, count_by, false, filter, find, map, refl, sum_by, sym, true, unwrap_or, ℕ, ◌*◌, ◌+◌, ◌∷◌, ◌≡◌, ◌≤◌}
use Rattle.std.proofs.lemmas.List.Elements.{All-head, All-tail}
use Rattle.std.proofs.lemmas.List.Sums.{sum_by-cons}
pub use Rattle.register_machine.proofs.ListItems.{found-is}
pub use Rattle.register_machine.proofs.SumFacts.{sum-plus, sum-same, sums-exchange, zeros}

-- a number for each that passes
pub passing : {X : Type 0} (p : X → Bool) (c : ℕ) (xs : List X) → sum_by (λ x. cond (p x) c 0) xs ≡ c * count_by p xs
passing p c [] = omega arith
passing p c (x ∷ xs) =
    let left = sum_by-cons (λ x. cond (p x) c 0) x xs in
    let right = sum_by-cons (λ x. cond (p x) 1 0) x xs in
    elim (p x) as (λ b. sum_by (λ x. cond (p x) c 0) (x ∷ xs) ≡ cond b c 0 + sum_by (λ x. cond (p x) c 0) xs → count_by p (x ∷ xs) ≡ cond b 1 0 + count_by p xs → sum_by (λ x. cond (p x) c 0) (x ∷ xs) ≡ c * count_by p (x ∷ xs)) [
      | true ↦ λ l r. rw (l, r) (omega (arith, passing p c xs))
      | false ↦ λ l r. rw (l, r) (omega (arith, passing p c xs))
    ] left right

pub sum-filtered : {X : Type 0} (f : X → ℕ) (p : X → Bool) (xs : List X) → sum_by f (filter p xs) ≡ sum_by (λ x. cond (p x) (f x) 0) xs
sum-filtered f p [] = refl
sum-filtered f p (x ∷ xs) =
    rw (sum_by-cons (λ y. cond (p y) (f y) 0) x xs) (elim (p x) as (λ b. sum_by f (cond b (x ∷ filter p xs) (filter p xs)) ≡ cond b (f x) 0 + sum_by (λ y. cond (p y) (f y) 0) xs) [
      | true ↦ rw (sum_by-cons f x (filter p xs)) (omega (arith, sum-filtered f p xs))
      | false ↦ omega (arith, sum-filtered f p xs)
    ])

pub sum-three : {X : Type 0} (f g h k : X → ℕ) → ((x : X) → f x + (g x + h x) ≡ k x) → (xs : List X) → sum_by f xs + (sum_by g xs + sum_by h xs) ≡ sum_by k xs
sum-three f g h k same [] = refl
sum-three f g h k same (x ∷ xs) =
    omega (arith, sum_by-cons f x xs, sum_by-cons g x xs, sum_by-cons h x xs, sum_by-cons k x xs, same x, sum-three f g h k same xs)

pub sum-mapped : {X Y : Type 0} (f : Y → ℕ) (g : X → Y) (xs : List X) → sum_by f (map g xs) ≡ sum_by (λ x. f (g x)) xs
sum-mapped f g [] = refl
sum-mapped f g (x ∷ xs) =
    omega (arith, sum-mapped f g xs, sum_by-cons f (g x) (map g xs), sum_by-cons (λ y. f (g y)) x xs)

pub count-map : {X Y : Type 0} (q : Y → Bool) (f : X → Y) (xs : List X) → count_by q (map f xs) ≡ count_by (λ x. q (f x)) xs
count-map q f [] = refl
count-map q f (x ∷ xs) =
    omega (arith, count-map q f xs, sum_by-cons (λ y. cond (q y) 1 0) (f x) (map f xs), sum_by-cons (λ y. cond (q (f y)) 1 0) x xs)

-- where none passes there is no sum
pub sum-none : {X : Type 0} (f : X → ℕ) (p : X → Bool) (xs : List X) → count_by p xs ≡ 0 → sum_by (λ x. cond (p x) (f x) 0) xs ≡ 0
sum-none f p [] none = refl
sum-none f p (x ∷ xs) none =
    let here = sum_by-cons (λ y. cond (p y) (f y) 0) x xs in
    let counted = sum_by-cons (λ y. cond (p y) 1 0) x xs in
    elim (p x) as (λ b. sum_by (λ y. cond (p y) (f y) 0) (x ∷ xs) ≡ cond b (f x) 0 + sum_by (λ y. cond (p y) (f y) 0) xs → count_by p (x ∷ xs) ≡ cond b 1 0 + count_by p xs → sum_by (λ y. cond (p y) (f y) 0) (x ∷ xs) ≡ 0) [
      | true ↦ λ h c. absurd (omega (arith, c, none))
      | false ↦ λ h c. omega (arith, h, sum-none f p xs (omega (arith, c, none)))
    ] here counted

-- where one at most passes, the sum is that of the one found
pub sum-found : {X : Type 0} (f : X → ℕ) (p : X → Bool) (d : X) → f d ≡ 0 → (xs : List X) → count_by p xs ≤ 1 → sum_by (λ x. cond (p x) (f x) 0) xs ≡ f (unwrap_or (find p xs) d)
sum-found f p d void [] few = sym void
sum-found f p d void (x ∷ xs) few =
    let here = sum_by-cons (λ y. cond (p y) (f y) 0) x xs in
    let counted = sum_by-cons (λ y. cond (p y) 1 0) x xs in
    elim (p x) as (λ b. sum_by (λ y. cond (p y) (f y) 0) (x ∷ xs) ≡ cond b (f x) 0 + sum_by (λ y. cond (p y) (f y) 0) xs → count_by p (x ∷ xs) ≡ cond b 1 0 + count_by p xs → sum_by (λ y. cond (p y) (f y) 0) (x ∷ xs) ≡ f (unwrap_or (cond b (Some x) (find p xs)) d)) [
      | true ↦ λ h c. omega (arith, h, sum-none f p xs (omega (arith, c, few)))
      | false ↦ λ h c. omega (arith, h, sum-found f p d void xs (omega (arith, c, few)))
    ] here counted

pub found-of : {X : Type 0} (P : X → Type 0) (p : X → Bool) (d : X) → P d → (xs : List X) → All P xs → P (unwrap_or (find p xs) d)
found-of P p d base [] all = base
found-of P p d base (x ∷ xs) all =
    elim (p x) as (λ b. P (unwrap_or (cond b (Some x) (find p xs)) d)) [
      | true ↦ All-head P x xs all
      | false ↦ found-of P p d base xs (All-tail P x xs all)
    ]

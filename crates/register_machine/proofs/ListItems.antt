-- Items of lists: where there is one, what holds of it, and what tests of all of them tell.
use Rattle.std.proofs.Common.{All, AllPairs, Bool, List, Some, [], arith, cond, count_by, false, find, length, refl, slice_get, subst, suc, sym, true, unwrap_or, zero, ◌+◌, ◌++◌, ◌<◌, ◌||◌, ◌∷◌, ◌≡◌, ◌≤◌, ℕ}
use Rattle.std.proofs.lemmas.Bool.{and_parts, or_parts, true≢false}
use Rattle.std.proofs.lemmas.List.Elements.{All-append, All-cons, All-head, All-nil, All-tail}
use Rattle.std.proofs.lemmas.List.Kept.{AllPairs-cons}
use Rattle.std.proofs.lemmas.List.Sums.{sum_by-cons}
use Rattle.std.specs.List.{list_all, list_any}
use Rattle.fund_calendar.proofs.ListFacts.{AllPairs-head, AllPairs-tail}

-- an item within a list
pub item-there : {X : Type 0} (xs : List X) (place : ℕ) → place < length xs → (x : X) × (slice_get xs place ≡ Some x)
item-there [] place within = absurd (omega (arith, within))
item-there (x ∷ xs) zero within = (x, refl)
item-there (x ∷ xs) (suc place) within = item-there xs place (omega (arith, within))

-- an item of a list all of whose items have a property has it
pub has-at : {X : Type 0} (P : X → Type 0) (xs : List X) (place : ℕ) (x : X) → All P xs → slice_get xs place ≡ Some x → P x
has-at P [] place x all there = cc
has-at P (first ∷ xs) zero x all there = let same : first ≡ x = cc in subst P same (All-head P first xs all)
has-at P (first ∷ xs) (suc place) x all there = has-at P xs place x (All-tail P first xs all) there

-- a test that all pass, and one that none does
pub all-of : {X : Type 0} (p : X → Bool) (xs : List X) → list_all p xs ≡ true → All (λ x. p x ≡ true) xs
all-of p [] e = All-nil (λ x. p x ≡ true)
all-of p (x ∷ xs) e =
    let parts = and_parts (p x) (list_all p xs) e in
    All-cons (λ y. p y ≡ true) x xs parts.0 (all-of p xs parts.1)

pub none-all : {X : Type 0} (test : X → Bool) (xs : List X) → list_any test xs ≡ false → All (λ x. test x ≡ false) xs
none-all test [] none = All-nil (λ x. test x ≡ false)
none-all test (x ∷ xs) none =
    let parts = or_parts (test x) (list_any test xs) none in
    All-cons (λ y. test y ≡ false) x xs parts.0 (none-all test xs parts.1)

-- what is there is counted
pub any-counted : {X : Type 0} (p : X → Bool) (xs : List X) → list_any p xs ≡ true → 1 ≤ count_by p xs
any-counted p [] e = absurd (true≢false (sym e))
any-counted {X = X} p (x ∷ xs) e = by (p x) e (any-counted p xs) (sum_by-cons (λ y. cond (p y) 1 0) x xs)
  where
    by : (is : Bool) → (is || list_any p xs) ≡ true → (list_any p xs ≡ true → 1 ≤ count_by p xs) → count_by p (x ∷ xs) ≡ cond is 1 0 + count_by p xs → 1 ≤ count_by p (x ∷ xs)
    by true h rest whole = omega (arith, whole)
    by false h rest whole = omega (arith, whole, rest h)

-- what is found, or else another
pub found-is : {X : Type 0} (P : X → Type 0) (p : X → Bool) (d : X) → ((x : X) → p x ≡ true → P x) → P d → (xs : List X) → P (unwrap_or (find p xs) d)
found-is P p d holds base [] = base
found-is P p d holds base (x ∷ xs) =
    elim (p x) as (λ b. p x ≡ b → P (unwrap_or (cond b (Some x) (find p xs)) d)) [
      | true ↦ λ e. holds x e
      | false ↦ λ e. found-is P p d holds base xs
    ] refl

-- pairs of lists that are joined
pub pairs-append : {X : Type 0} (R : X → X → Type 0) (xs ys : List X) → AllPairs R xs → AllPairs R ys → All (λ x. All (R x) ys) xs → AllPairs R (xs ++ ys)
pairs-append R [] ys left right across = right
pairs-append R (x ∷ xs) ys left right across =
    AllPairs-cons R x (xs ++ ys)
    (All-append (R x) xs ys (AllPairs-head R x xs left) (All-head (λ x. All (R x) ys) x xs across))
    (pairs-append R xs ys (AllPairs-tail R x xs left) right (All-tail (λ x. All (R x) ys) x xs across))

-- Lists of which all elements pass a test, or none, and tests within others and apart from them.
use Rattle.std.proofs.Common.{Bool, List, None, Some, [], ap, cond, false, filter, find, refl, sym, true, ◌∙◌, ◌∷◌, ◌≡◌}
use Rattle.std.proofs.lemmas.Bool.{true≢false}
use Rattle.std.proofs.lemmas.List.Elements.{All-head, All-tail}
use Rattle.std.specs.Prelude.{All}

pub filter-all : {X : Type 0} (p : X → Bool) (xs : List X) → All (λ x. p x ≡ true) xs → filter p xs ≡ xs
filter-all p [] all = refl
filter-all p (x ∷ xs) all =
    ap (λ c. cond c (x ∷ filter p xs) (filter p xs)) (All-head (λ y. p y ≡ true) x xs all)
    ∙ ap (λ ys. x ∷ ys) (filter-all p xs (All-tail (λ y. p y ≡ true) x xs all))

pub filter-none : {X : Type 0} (p : X → Bool) (xs : List X) → All (λ x. p x ≡ false) xs → filter p xs ≡ []
filter-none p [] all = refl
filter-none p (x ∷ xs) all =
    ap (λ c. cond c (x ∷ filter p xs) (filter p xs)) (All-head (λ y. p y ≡ false) x xs all)
    ∙ filter-none p xs (All-tail (λ y. p y ≡ false) x xs all)

-- what passes a test that is at least as strict
pub filter-within : {X : Type 0} (p q : X → Bool) → ((x : X) → q x ≡ true → p x ≡ true) → (xs : List X) → filter q (filter p xs) ≡ filter q xs
filter-within p q within [] = refl
filter-within p q within (x ∷ xs) = by (p x) (q x) refl refl (filter-within p q within xs)
  where
    by : (a b : Bool) → p x ≡ a → q x ≡ b → filter q (filter p xs) ≡ filter q xs → filter q (cond a (x ∷ filter p xs) (filter p xs)) ≡ cond b (x ∷ filter q xs) (filter q xs)
    by true b first second rest =
        ap (λ c. cond c (x ∷ filter q (filter p xs)) (filter q (filter p xs))) second
        ∙ ap (λ ys. cond b (x ∷ ys) ys) rest
    by false false first second rest = rest
    by false true first second rest = absurd (true≢false (sym (within x second) ∙ first))

-- what is found by it
pub found-within : {X : Type 0} (p q : X → Bool) → ((x : X) → q x ≡ true → p x ≡ true) → (xs : List X) → find q (filter p xs) ≡ find q xs
found-within p q within [] = refl
found-within p q within (x ∷ xs) = by (p x) (q x) refl refl (found-within p q within xs)
  where
    by : (a b : Bool) → p x ≡ a → q x ≡ b → find q (filter p xs) ≡ find q xs → find q (cond a (x ∷ filter p xs) (filter p xs)) ≡ cond b (Some x) (find q xs)
    by true b first second rest =
        ap (λ c. cond c (Some x) (find q (filter p xs))) second ∙ ap (λ found. cond b (Some x) found) rest
    by false false first second rest = rest
    by false true first second rest = absurd (true≢false (sym (within x second) ∙ first))

-- and nothing, where what passes fails the other
pub filter-apart : {X : Type 0} (p q : X → Bool) → ((x : X) → p x ≡ true → q x ≡ false) → (xs : List X) → filter q (filter p xs) ≡ []
filter-apart p q apart [] = refl
filter-apart p q apart (x ∷ xs) =
    elim (p x) as (λ b. p x ≡ b → filter q (cond b (x ∷ filter p xs) (filter p xs)) ≡ []) [
      | true ↦ λ e. ap (λ b. cond b (x ∷ filter q (filter p xs)) (filter q (filter p xs))) (apart x e) ∙ filter-apart p q apart xs
      | false ↦ λ e. filter-apart p q apart xs
    ] refl

pub found-apart : {X : Type 0} (p q : X → Bool) → ((x : X) → p x ≡ true → q x ≡ false) → (xs : List X) → find q (filter p xs) ≡ None
found-apart p q apart [] = refl
found-apart p q apart (x ∷ xs) =
    elim (p x) as (λ b. p x ≡ b → find q (cond b (x ∷ filter p xs) (filter p xs)) ≡ None) [
      | true ↦ λ e. ap (λ b. cond b (Some x) (find q (filter p xs))) (apart x e) ∙ found-apart p q apart xs
      | false ↦ λ e. found-apart p q apart xs
    ] refl

-- Lists of which all elements pass a test, or none.
use Rattle.std.proofs.Common.{All, Bool, List, None, Some, [], ap, cond, false, filter, find, get_or, length, map, not, refl, sym, take, true, ℕ, ◌++◌, ◌+◌, ◌<◌, ◌∙◌, ◌∷◌, ◌≡◌}
use Rattle.std.proofs.lemmas.List.{map-append, take_more}
use Rattle.std.proofs.lemmas.List.Elements.{All-head, All-tail, filter-append}
pub use Rattle.register_machine.proofs.FilterFacts.{filter-all, filter-none, filter-within}

pub find-none : {X : Type 0} (t : X → Bool) (xs : List X) → All (λ x. t x ≡ false) xs → find t xs ≡ None
find-none t [] all = refl
find-none t (x ∷ xs) all =
    ap (λ b. cond b (Some x) (find t xs)) (All-head (λ x. t x ≡ false) x xs all)
    ∙ find-none t xs (All-tail (λ x. t x ≡ false) x xs all)

-- nothing that passes is left among those that don't
pub find-not : {X : Type 0} (t : X → Bool) (xs : List X) → find t (filter (λ x. not (t x)) xs) ≡ None
find-not t [] = refl
find-not t (x ∷ xs) =
    elim (t x) as (λ b. t x ≡ b → find t (cond (not b) (x ∷ filter (λ y. not (t y)) xs) (filter (λ y. not (t y)) xs)) ≡ None) [
      | true ↦ λ e. find-not t xs
      | false ↦ λ e. ap (λ b. cond b (Some x) (find t (filter (λ y. not (t y)) xs))) e ∙ find-not t xs
    ] refl

-- what is gathered of the elements that pass, one element further
pub gathered-more : {X Y : Type 0} (f : X → Y) (t : X → Bool) (xs : List X) (i : ℕ) (x : X) → i < length xs → x ≡ get_or xs i x → map f (filter t (take (i + 1) xs)) ≡ map f (filter t (take i xs)) ++ cond (t x) (f x ∷ []) []
gathered-more f t xs i x short is =
    ap (λ ys. map f (filter t ys)) (take_more xs i x short)
    ∙ (ap (λ y. map f (filter t (take i xs ++ y ∷ []))) (sym is)
    ∙ (ap (map f) (filter-append t (take i xs) (x ∷ []))
    ∙ (map-append f (filter t (take i xs)) (filter t (x ∷ [])) ∙ ap (λ ys. map f (filter t (take i xs)) ++ ys) last)))
  where
    last : map f (filter t (x ∷ [])) ≡ cond (t x) (f x ∷ []) []
    last = elim (t x) as (λ b. map f (cond b (x ∷ []) []) ≡ cond b (f x ∷ []) []) [ true ↦ refl | false ↦ refl ]

-- What follows where no choice is made, and lists in which at most one passes.
use Rattle.std.proofs.Common.{Bool, List, None, Option, Some, [], ap, arith, cond, false, filter, length, length-append, option_map, refl, rules, true, ◌++◌, ◌+◌, ◌∙◌, ◌∷◌, ◌≡◌, ◌≤◌}
use Rattle.std.proofs.lemmas.Bool.{or_parts}
use Rattle.std.proofs.lemmas.List.Elements.{filter-append}
use Rattle.std.specs.List.{list_any}
use Rattle.register_machine.specs.journal.Choices.{first_some, when}

pub none_some : {X : Type 0} {x : X} → None ≡ Some x → ⊥
none_some e = cc

pub some_none : {X : Type 0} {x : X} → Some x ≡ None → ⊥
some_none e = cc

-- where the first of these values is none, each is none
unfoldable pub AllClear : {X : Type 0} → List (Option X) → Type 0
AllClear [] = Unit {0}
AllClear (x ∷ xs) = (x ≡ None) × AllClear xs

pub all_clear : {X : Type 0} (rules : List (Option X)) → first_some rules ≡ None → AllClear rules
unfolding AllClear
all_clear [] e = tt
all_clear (None ∷ rules) e = (refl, all_clear rules e)
all_clear (Some why ∷ rules) e = absurd (some_none e)

pub not_when : {X : Type 0} (b : Bool) (x : X) → when b x ≡ None → b ≡ false
not_when true x e = absurd (some_none e)
not_when false x e = refl

pub not_mapped : {X Y : Type 0} (f : X → Y) (found : Option X) → option_map f found ≡ None → found ≡ None
not_mapped f None e = refl
not_mapped f (Some x) e = absurd (some_none e)

-- where none passes, nothing is left
pub none_passes : {X : Type 0} (p : X → Bool) (xs : List X) → list_any p xs ≡ false → length (filter p xs) ≡ 0
none_passes p [] e = refl
none_passes p (x ∷ xs) e =
    let parts = or_parts (p x) (list_any p xs) e in
    rw parts.0 (none_passes p xs parts.1)

-- one more, where none passed if it does
pub at_most_one : {X : Type 0} (p : X → Bool) (xs : List X) (x : X) → length (filter p xs) ≤ 1 → (p x ≡ true → list_any p xs ≡ false) → length (filter p (xs ++ x ∷ [])) ≤ 1
at_most_one p xs x few none =
    let both = ap length (filter-append p xs (x ∷ [])) ∙ length-append (filter p xs) (filter p (x ∷ [])) in
    elim (p x) as (λ b. p x ≡ b → length (filter p (xs ++ x ∷ [])) ≡ length (filter p xs) + length (cond b (x ∷ []) []) → length (filter p (xs ++ x ∷ [])) ≤ 1) [
      | true ↦ λ e h. omega (arith, h, none_passes p xs (none e))
      | false ↦ λ _ h. omega (arith, h, few)
    ] refl both

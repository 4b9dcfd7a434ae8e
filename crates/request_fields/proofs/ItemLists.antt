-- A list that is read item by item.
use Rattle.std.proofs.Common.{◌≡◌, ℕ, ◌+◌, ◌<◌, List, [], ◌∷◌, ◌++◌, length, get_or, drop, map, Option, Some, None, Bor, refl, sym, ap, ◌∙◌, append_assoc, add-one, drop-cons}
use Rattle.std.specs.Prelude.{option_map}
use Rattle.std.proofs.lemmas.List.{drop-map}
use Rattle.agent_events.specs.Fields.{each}

-- what was read before, and what is still read
abbrev pub with_front : {A : Type 0} → List A → Option (List A) → Option (List A)
with_front front rest = option_map (λ xs. front ++ xs) rest

regroup : {A : Type 0} (front : List A) (x : A) (rest : Option (List A)) → with_front front (option_map (λ xs. x ∷ xs) rest) ≡ with_front (front ++ x ∷ []) rest
regroup front x None = refl
regroup front x (Some xs) = ap Some (sym (append_assoc front (x ∷ []) xs))

-- the texts that slices show
abbrev pub shown : List (Bor (List ℕ)) → List (List ℕ)
shown items = map (λ item. item.now) items

drop-shown : (items : List (Bor (List ℕ))) (i : ℕ) (d : Bor (List ℕ)) → i < length items → drop i (shown items) ≡ (get_or items i d).now ∷ drop (i + 1) (shown items)
drop-shown items i d inside = rw (drop-map (λ (item : Bor (List ℕ)). item.now) i items, drop-map (λ (item : Bor (List ℕ)). item.now) (i + 1) items, add-one, drop-cons items i d) refl

pub goes_on : {A : Type 0} (form : List ℕ → Option A) (front : List A) (items : List (Bor (List ℕ))) (i : ℕ) (d : Bor (List ℕ)) (x : A) (all : Option (List A))
    → i < length items → form (get_or items i d).now ≡ Some x → with_front front (each form (drop i (shown items))) ≡ all
    → with_front (front ++ x ∷ []) (each form (drop (i + 1) (shown items))) ≡ all
goes_on form front items i d x all inside h so_far =
    let one : with_front front (each form (drop i (shown items))) ≡ with_front (front ++ x ∷ []) (each form (drop (i + 1) (shown items))) =
    rw (drop-shown items i d inside, h) (regroup front x (each form (drop (i + 1) (shown items)))) in
    sym one ∙ so_far

pub stops : {A : Type 0} (form : List ℕ → Option A) (front : List A) (items : List (Bor (List ℕ))) (i : ℕ) (d : Bor (List ℕ)) (all : Option (List A))
    → i < length items → form (get_or items i d).now ≡ None → with_front front (each form (drop i (shown items))) ≡ all → None ≡ all
stops form front items i d all inside h so_far =
    let one : with_front front (each form (drop i (shown items))) ≡ None = rw (drop-shown items i d inside, h) refl in
    sym one ∙ so_far

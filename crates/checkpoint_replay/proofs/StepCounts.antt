-- The moves of the parts met so far and of the next one are never more than those of all.
use Rattle.std.proofs.Common.{List, ap, arith, length, length-append, ℕ, ◌+◌, ◌++◌, ◌∙◌, ◌∷◌, ◌≡◌, ◌≤◌}
use Rattle.std.proofs.lemmas.Grind.{flat_map-append}
use Rattle.std.proofs.lemmas.List.Concat.{flat_map-cons}
use Rattle.std.specs.List.{flat_map}

pub front-within : {A B : Type 0} (f : A → List B) (all front rest : List A) (x : A) → all ≡ front ++ x ∷ rest → length (flat_map f front) + length (f x) ≤ length (flat_map f all)
front-within f all front rest x is =
    let parted : length (flat_map f all) ≡ length (flat_map f front) + (length (f x) + length (flat_map f rest)) =
    ap (λ l. length (flat_map f l)) is
    ∙ ap length (flat_map-append f front (x ∷ rest))
    ∙ length-append (flat_map f front) (flat_map f (x ∷ rest))
    ∙ ap (λ l. length (flat_map f front) + length l) (flat_map-cons f x rest)
    ∙ ap (λ n. length (flat_map f front) + n) (length-append (f x) (flat_map f rest)) in
    omega (arith, parted)

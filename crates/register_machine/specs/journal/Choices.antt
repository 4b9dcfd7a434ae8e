-- Choices that the definitions make everywhere: the first value that is there, a value where a condition holds, and the last
-- item that passes.
use Rattle.std.specs.Option.{option_or}
use Rattle.std.specs.Prelude.{Bool, List, None, Option, Some, [], ◌∷◌, fold, if◌then◌else◌}

-- the first value that is there
abbrev pub first_some : {X : Type 0} → List (Option X) → Option X
first_some [] = None
first_some (x ∷ xs) = option_or x (first_some xs)

-- a value, where a condition holds
abbrev pub when : {X : Type 0} → Bool → X → Option X
when holds x = if holds then Some x else None

-- the last item that passes
abbrev pub last_of : {X : Type 0} → (X → Bool) → List X → Option X
last_of test xs = fold (λ found x. if test x then Some x else found) None xs

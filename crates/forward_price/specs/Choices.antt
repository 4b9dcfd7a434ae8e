-- The best of those elements of a list that pass a test, as a relation and as it is computed.
use Rattle.std.specs.Prelude.{◌≡◌, Bool, true, false, if◌then◌else◌, List, Option, Some, None, All, Contains, fold}

-- it is among them and passes, and none that passes is better
pub record IsBest {X : Type 0} (passes : X → Bool) (better : X → X
    → Bool) (xs : List X) (x : X) : Type 0 where
  pub among : Contains xs x
  pub here : passes x ≡ true
  pub best : All (λ other. passes other ≡ true → better other x ≡ false) xs

-- the best one, or none where none passes
abbrev pub IsChoice : {X : Type 0} → (X → Bool) → (X → X → Bool) → List X → Option X → Type 0
IsChoice passes better xs None = All (λ x. passes x ≡ false) xs
IsChoice passes better xs (Some x) = IsBest passes better xs x

-- the better of the one found so far and one more
abbrev pub found_or_better : {X : Type 0} → (X → X → Bool) → Option X → X → Option X
found_or_better better None x = Some x
found_or_better better (Some found) x = if better x found then Some x else Some found

abbrev pub best_so_far : {X : Type 0} → (X → Bool) → (X → X → Bool) → Option X → X → Option X
best_so_far passes better found x = if passes x then found_or_better better found x else found

-- the best one, and the first of those that tie
abbrev pub best : {X : Type 0} → (X → Bool) → (X → X → Bool) → List X → Option X
best passes better xs = fold (best_so_far passes better) None xs

-- the better of two, where there are two
abbrev pub better_of : {X : Type 0} → (X → X → Bool) → Option X → Option X → Option X
better_of better found None = found
better_of better found (Some x) = found_or_better better found x

-- What a search finds in its place.
use Rattle.std.specs.Prelude.{Bool, None, Option, Some, if◌then◌else◌}

-- what stands there, where it passes
abbrev pub if_passes : {X : Type 0} → (X → Bool) → Option X → Option X
if_passes passes None = None
if_passes passes (Some x) = if passes x then Some x else None

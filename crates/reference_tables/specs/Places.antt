-- A row put in its place in a list by number.
use Rattle.std.specs.Prelude.{Bool, List, [], find, if◌then◌else◌, is_some, ◌∷◌}

-- behind those that come before it, and in the stead of one that has its number
abbrev pub put_row : {R : Type 0} → (R → Bool) → (R → Bool) → R → List R → List R
put_row before same row [] = row ∷ []
put_row before same row (x ∷ xs) =
    if before x then x ∷ put_row before same row xs
    else (if same x then row ∷ xs else row ∷ x ∷ xs)

-- the same, unless one that has its number stands there
abbrev pub put_new : {R : Type 0} → (R → Bool) → (R → Bool) → R → List R → List R
put_new before same row rows = if is_some (find same rows) then rows else put_row before same row rows

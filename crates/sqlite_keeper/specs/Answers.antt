-- What the answers of the reading statements say.
use Rattle.std.specs.Prelude.{ℕ, pos, negsuc, List, [], ◌∷◌, Option, Some, None}
use Rattle.sqlite_value.specs.declared.value.Value.{Value}
use Rattle.sqlite_value.specs.declared.value.Value.TheVariants.{Null, Int, Real, Text, Blob}
use Rattle.sqlite_value.specs.Order.{Row, column}

-- a whole number that is no debt
abbrev pub number_of : Value → Option ℕ
number_of (Int (pos n)) = Some n
number_of (Int (negsuc n)) = None
number_of Null = None
number_of (Real x) = None
number_of (Text bytes) = None
number_of (Blob bytes) = None

abbrev pub blob_of : Value → Option (List ℕ)
blob_of (Blob bytes) = Some bytes
blob_of (Int n) = None
blob_of Null = None
blob_of (Real x) = None
blob_of (Text bytes) = None

-- the number that an answer gives: that of its one row
abbrev pub number_in : List Row → Option ℕ
number_in [] = None
number_in (row ∷ []) = number_of (column row 0)
number_in (row ∷ other ∷ rows) = None

-- what an answer of at most one row gives: nothing where there is no row, and the bytes of the row; no other answer is one
abbrev pub found_in : List Row → Option (Option (List ℕ))
found_in [] = Some None
found_in (row ∷ []) = elim (blob_of (column row 0)) [ Some bytes ↦ Some (Some bytes) | None ↦ None ]
found_in (row ∷ other ∷ rows) = None

-- A field is exact where what it reads is spelled so and in its range, and what is in its range is read again from its
-- spelling, whatever follows it. So each value has one spelling, and none is a proper prefix of another.
use Rattle.std.specs.Prelude.{◌≡◌, ℕ, ◌<◌, List, ◌++◌, Option, Some, get_or}

abbrev pub IsBytes : List ℕ → Type 0
IsBytes bytes = (i : ℕ) → get_or bytes i 0 < 256

pub record IsField {A : Type 0} (spell : A → List ℕ) (fits : A → Type 0) (read : List ℕ → Option (A × List ℕ)) : Type 0 where
  pub takes : (bytes : List ℕ) (x : A) (rest : List ℕ) → IsBytes bytes → read bytes ≡ Some (x, rest) → (bytes ≡ spell x ++ rest) × fits x
  pub again : (x : A) (rest : List ℕ) → fits x → read (spell x ++ rest) ≡ Some (x, rest)

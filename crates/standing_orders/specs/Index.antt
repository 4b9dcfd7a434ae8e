-- The index as its readers see it.
use Rattle.std.specs.Prelude.{List, ℕ}

-- the households of the rows of a book of orders in turn, the places of the rows that may wait, and how many rows more can
-- be begun without more memory
pub record OrderPlaces : Type 0 where
  pub owners : List ℕ
  pub waiting : List ℕ
  pub spare : ℕ

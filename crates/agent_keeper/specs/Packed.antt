-- Rows of bytes one behind the other, and the places where they end.
use Rattle.std.specs.Prelude.{ℕ, suc, zero, List, [], ◌∷◌, ◌+◌, ◌≡◌, ◌≤◌, length}
use Rattle.std.specs.List.{slice_range}

-- the rows that ends make of the bytes, the first row from a start, each other one from the end before it
abbrev pub rows_between : List ℕ → ℕ → List ℕ → List (List ℕ)
rows_between bytes start [] = []
rows_between bytes start (end ∷ ends) = slice_range bytes start end ∷ rows_between bytes end ends

-- the ends rise from a start, and the last is the number of bytes
abbrev pub AreEnds : ℕ → ℕ → List ℕ → Type 0
AreEnds count start [] = start ≡ count
AreEnds count start (end ∷ ends) = (start ≤ end) × AreEnds count end ends

-- where the row at a place begins
abbrev pub start_at : ℕ → List ℕ → ℕ → ℕ
start_at start ends zero = start
start_at start [] (suc place) = start
start_at start (end ∷ ends) (suc place) = start_at end ends place

-- how many bytes some rows have
abbrev pub bytes_in : List (List ℕ) → ℕ
bytes_in [] = 0
bytes_in (row ∷ rows) = length row + bytes_in rows

-- The list of a sheet: its classes with their net asset values.
use Rattle.std.specs.Prelude.{ℕ, Bool, ◌==◌, List, Option, find, option_map}
use Rattle.std.specs.List.{list_any, list_all}

abbrev pub lists_class : List (ℕ × ℕ) → ℕ → Bool
lists_class prices class = list_any (λ price. price.0 == class) prices

abbrev pub lists_all : List (ℕ × ℕ) → List ℕ → Bool
lists_all prices classes = list_all (λ class. lists_class prices class) classes

-- the net asset value of a class on a list
abbrev pub nav_on : List (ℕ × ℕ) → ℕ → Option ℕ
nav_on prices class = option_map (λ price. price.1) (find (λ price. price.0 == class) prices)

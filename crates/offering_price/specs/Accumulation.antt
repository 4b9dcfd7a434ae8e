-- The rate of a purchase: the breakpoint that it reaches together with what its household owns. Scheduled variations of a
-- load apply alike to all in the class that they name (17 CFR 270.22d-1), and Form N-1A, Item 12(a), asks for the
-- breakpoints and for rights of accumulation.
use Rattle.std.specs.Prelude.{ℕ, ◌*◌, max, nat_le, List, [], ◌∷◌, map, filter, sum_by, Option, Some, None}
use Rattle.money_units.specs.Rounding.{half}
use Rattle.class_terms.specs.declared.lists.Bracket.{Bracket}
use Rattle.offering_price.specs.declared.accumulation.Holding.{Holding}

-- the last of a list, or d where it is empty
abbrev pub last_or : {X : Type 0} → X → List X → X
last_or d [] = d
last_or d (x ∷ xs) = last_or x xs

-- the rows of a table whose breakpoint an amount reaches
abbrev pub rows_reached : List Bracket → ℕ → List Bracket
rows_reached rows amount = filter (λ (row : Bracket). nat_le row.floor amount) rows

-- the rate of an amount: that of the last row that it reaches
abbrev pub bracket : List Bracket → ℕ → ℕ
bracket rows amount = last_or 0 (map (λ (row : Bracket). row.rate) (rows_reached rows amount))

-- what a position is worth to its household's breakpoints: the greater of its cost and its value at the last NAV, or its
-- cost where there is no NAV yet
abbrev pub worth_at : ℕ → ℕ → Option ℕ → ℕ
worth_at mils cost None = cost
worth_at mils cost (Some nav) = max cost (half (mils * nav) 1000)

abbrev pub worth : Holding → ℕ
worth holding = worth_at holding.mils holding.cost holding.nav

-- the credit of the positions of a household
abbrev pub credit : List Holding → ℕ
credit holdings = sum_by worth holdings

-- The table of front-end loads of a class, as the fee table of Form N-1A, Item 12(a), shows it: a breakpoint in each row,
-- from which on a lower rate holds; and the schedule of deferred loads, a rate for each year since the purchase.
-- No rate passes 850 basis points, the ceiling of FINRA Rule 2341(d), and every one of the class has the same table
-- (17 CFR 270.22d-1).
use Rattle.std.specs.Prelude.{ℕ, ◌+◌, Bool, not, ◌&&◌, ◌||◌, ◌==◌, nat_lt, nat_le, if◌then◌else◌, List, [], ◌∷◌, length, Option, Some, None}
use Rattle.class_terms.specs.declared.lists.Bracket.{Bracket}

-- the place of the first item that can't follow the item before it, where so many items stand before these and `before`
-- is the last of them
abbrev pub first_broken : {X : Type 0} → (Option X → X → Bool) → ℕ → Option X → List X → Option ℕ
first_broken breaks place before [] = None
first_broken breaks place before (x ∷ xs) =
    if breaks before x then Some (place + 1) else first_broken breaks (place + 1) (Some x) xs

-- a row that can't follow the row before it: the first row begins at nothing, each later one has a greater floor and no
-- greater rate
abbrev pub breaks_table : Option Bracket → Bracket → Bool
breaks_table None row = not (row.floor == 0) || nat_lt 850 row.rate
breaks_table (Some before) row = nat_le row.floor before.floor || nat_lt 850 row.rate || nat_lt before.rate row.rate

-- what is wrong with a table of front-end loads: the place of its first bad row, or 0 where it hasn't 1 to 16 rows
abbrev pub front_fault : List Bracket → Option ℕ
front_fault rows = if nat_le 1 (length rows) && nat_le (length rows) 16 then first_broken breaks_table 0 None rows else Some 0

-- a deferred rate that can't follow the rate before it: it is greater
abbrev pub breaks_schedule : Option ℕ → ℕ → Bool
breaks_schedule None rate = nat_lt 850 rate
breaks_schedule (Some before) rate = nat_lt 850 rate || nat_lt before rate

-- what is wrong with a schedule of deferred loads: the place of its first bad rate, or 0 where it has more than 10
abbrev pub deferred_fault : List ℕ → Option ℕ
deferred_fault rates = if nat_le (length rates) 10 then first_broken breaks_schedule 0 None rates else Some 0

-- a row of a table of front-end loads: from this amount in cents on this rate
abbrev pub row_of : ℕ → ℕ → Bracket
row_of floor rate = record { floor = floor; rate = rate }

-- States at the limits of accounts and of lots, and one past them.
use Rattle.std.specs.Prelude.{ℕ, suc, zero, ◌+◌, false, true, List, [], ◌∷◌, ◌++◌, map, None}
use Rattle.agent_events.specs.declared.checkpoint.LotRow.{LotRow}
use Rattle.agent_events.specs.declared.checkpoint.PositionRow.{PositionRow}
use Rattle.agent_events.specs.declared.checkpoint.StateRow.{StateRow}

-- so many numbers from the first on
abbrev pub numbers_from : ℕ → ℕ → List ℕ
numbers_from zero first = []
numbers_from (suc count) first = first ∷ numbers_from count (first + 1)

-- a position whose one lot was sold: the next one has the number 2
abbrev pub position_without_lots : ℕ → PositionRow
position_without_lots account =
    record { account = account; class = 14; in_cash = false; next_lot = 2; letter = None; lots = [] }

-- a household with so many accounts, from 101 on
abbrev pub with_accounts : ℕ → StateRow
with_accounts count = record { household = 1; positions = map position_without_lots (numbers_from count 101) }

-- a lot of a mil that cost a cent, by its number
abbrev pub mil_lot : ℕ → LotRow
mil_lot number = record { number = number; day = 19905; loose = 1; held = 0; cost = 1; free = false }

-- the lots of a class of account 101: so many, and behind them a free one
abbrev pub free_lot : ℕ → LotRow
free_lot number = record (mil_lot number) { free = true }

abbrev pub with_lots_in : ℕ → ℕ → PositionRow
with_lots_in class count = record {
  account = 101;
  class = class;
  in_cash = false;
  next_lot = count + 2;
  letter = None;
  lots = map mil_lot (numbers_from count 1) ++ free_lot (count + 1) ∷ [];
}

-- so many lots in class 12, and so many in class 14
abbrev pub with_lots : ℕ → ℕ → StateRow
with_lots one other = record { household = 1; positions = with_lots_in 12 one ∷ with_lots_in 14 other ∷ [] }

-- a position whose next lot has this number
abbrev pub with_next_lot : ℕ → StateRow
with_next_lot number = record { household = 1; positions = record (position_without_lots 101) { next_lot = number } ∷ [] }

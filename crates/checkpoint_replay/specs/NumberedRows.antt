-- Orders under numbers that never fall: how they are kept, and the numbers that they have.
use Rattle.agent_events.specs.declared.order.Order.{Order}
use Rattle.checkpoint_replay.specs.Replays.{NumberedOrder}
use Rattle.std.specs.Prelude.{All, AllPairs, List, [], filter, length, not, ℕ, ◌==◌, ◌∷◌, ◌≡◌, ◌≤◌}

-- orders with their numbers beside them
abbrev pub orders_numbered : List ℕ → List Order → List NumberedOrder
orders_numbered [] orders = []
orders_numbered (number ∷ numbers) [] = []
orders_numbered (number ∷ numbers) (order ∷ orders) =
    record { number = number; order = order } ∷ orders_numbered numbers orders

-- each order has a number, and no number is lower than one before it
pub record AreKept (numbers : List ℕ) (orders : List Order) : Type 0 where
  pub each : length numbers ≡ length orders
  pub rise : AllPairs (λ a b. a ≤ b) numbers

-- the numbers of rows never fall
abbrev pub AreRising : List NumberedOrder → Type 0
AreRising rows = AllPairs (λ a b. a.number ≤ b.number) rows

-- no row has a number above this one
abbrev pub AreUpTo : ℕ → List NumberedOrder → Type 0
AreUpTo number rows = All (λ row. row.number ≤ number) rows

-- the numbers of rows, each once, in the order in which they come first
abbrev pub numbers_met : List NumberedOrder → List ℕ
numbers_met [] = []
numbers_met (row ∷ rows) =
    row.number ∷ filter (λ number. not (number == row.number)) (numbers_met rows)

-- When the orders of trades are executed: by sheet, on a sheet by receipt, and at equal receipts by place in the journal.
use Rattle.std.specs.Prelude.{Bool, List, Option, Some, nat_lt, option_map, true, ◌&&◌, ◌==◌, ◌||◌, ◌≡◌}
use Rattle.agent_events.specs.declared.order.OrderRow.{OrderRow}
use Rattle.agent_events.specs.declared.trade.Trade.{Trade}
use Rattle.desk_books.specs.declared.turns.Turn.{Turn}
use Rattle.register_laws.specs.TradesInTurn.{IsExecutedBefore}
use Rattle.register_machine.specs.pricing.CorrectedOrders.{order_named}

-- the turn of a trade on its sheet, by its order
abbrev pub turn_at : Trade → OrderRow → Turn
turn_at trade row = record { sheet = trade.sheet; receipt = row.receipt; place = row.place }

-- the turn of a trade among the orders of a book, where its order is one of them
abbrev pub turn_in : List OrderRow → Trade → Option Turn
turn_in orders trade = option_map (turn_at trade) (order_named orders trade.account trade.ref_no)

-- of one sheet, by receipt and then place
abbrev pub goes_before : Turn → Turn → Bool
goes_before turn other =
    nat_lt turn.receipt other.receipt || turn.receipt == other.receipt && nat_lt turn.place other.place

abbrev pub comes_before : Turn → Turn → Bool
comes_before turn other =
    nat_lt turn.sheet other.sheet || turn.sheet == other.sheet && goes_before turn other

-- Of two trades whose orders are in a book, the one with the earlier turn is executed before the other, and no other way round.
pub record TurnsTell (orders : List OrderRow) (trade later : Trade) : Type 0 where
  pub before : (turn other : Turn)
      → turn_in orders trade ≡ Some turn → turn_in orders later ≡ Some other
      → comes_before turn other ≡ true → IsExecutedBefore orders trade later
  pub only : (turn other : Turn)
      → turn_in orders trade ≡ Some turn → turn_in orders later ≡ Some other
      → IsExecutedBefore orders trade later → comes_before turn other ≡ true

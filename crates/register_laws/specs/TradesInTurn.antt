-- The trades of orders stand in the order of execution: by sheet, and on a sheet by receipt and then place in the journal. So
-- the first of some trades is told by their sheets and their orders' rows.
use Rattle.std.specs.Prelude.{AllPairs, List, Some, filter, length, ℕ, ◌<◌, ◌≡◌, ◌≤◌, ◌⊎◌}
use Rattle.agent_events.specs.declared.order.OrderRow.{OrderRow}
use Rattle.agent_events.specs.declared.trade.Trade.{Trade}
use Rattle.forward_price.specs.PriceTables.{AreNumbered}
use Rattle.forward_price.specs.declared.price_sheet.Sheet.{Sheet}
use Rattle.register_laws.specs.Priced.{GoesBefore, is_order_kind}
use Rattle.register_machine.specs.pricing.CorrectedBook.{Book}
use Rattle.register_machine.specs.pricing.CorrectedOrders.{is_named, order_named}
use Rattle.register_machine.specs.replay.Replay.{orders_on, priced_orders, replay}

-- no two orders have one name
abbrev pub NamesOnce : List OrderRow → Type 0
NamesOnce orders =
    (account ref_no : ℕ) → length (filter (λ row. is_named account ref_no row.order) orders) ≤ 1

-- the order of one trade is executed before that of another
pub record IsExecutedBefore (orders : List OrderRow) (trade later : Trade) : Type 0 where
  pub turn : (row other : OrderRow)
      → order_named orders trade.account trade.ref_no ≡ Some row
      → order_named orders later.account later.ref_no ≡ Some other
      → (trade.sheet < later.sheet) ⊎ ((trade.sheet ≡ later.sheet) × GoesBefore row other)

-- All trades of orders are executed in turn, in a book whose sheets are numbered and whose orders each have a name and go in turn.
abbrev pub TradesAreInTurn : Book → Type 0
TradesAreInTurn book =
    AreNumbered book.table.sheets → NamesOnce book.orders
    → ((sheet : Sheet) → AllPairs GoesBefore (orders_on (priced_orders book) sheet))
    → AllPairs (IsExecutedBefore book.orders) (filter (λ trade. is_order_kind trade.kind) (replay book).trades)

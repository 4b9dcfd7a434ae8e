-- The first order that a correction breaks, among the first ones of the households.
use Rattle.std.specs.Prelude.{AllPairs, List, Option, Some, ℕ, ◌≡◌, ◌⊎◌}
use Rattle.agent_events.specs.declared.order.Order.{Order}
use Rattle.agent_events.specs.declared.request.AccountForm.{AccountForm}
use Rattle.agent_events.specs.declared.trade.Trade.{Trade}
use Rattle.register_laws.specs.TradesInTurn.{IsExecutedBefore, NamesOnce}
use Rattle.forward_price.specs.PriceTables.{AreNumbered}
use Rattle.forward_price.specs.declared.price_sheet.Sheet.{Sheet}
use Rattle.register_laws.specs.BrokenByParts.{first_broken_in}
use Rattle.register_laws.specs.Households.{part_of}
use Rattle.register_laws.specs.Priced.{GoesBefore}
use Rattle.register_machine.specs.pricing.CorrectedBook.{Book}
use Rattle.register_machine.specs.replay.Replay.{orders_on, priced_orders, replay}
use Rattle.register_machine.specs.replay.Trades.{Day}

-- Of the first orders that the households' parts break, the first of all is the one that is executed before all others.
abbrev pub IsFirstOfAll : Book → Option Order → Day → List AccountForm → ℕ → Type 0
IsFirstOfAll book order before accounts household =
    (trade least : Trade)
    → first_broken_in order (part_of accounts household before) (part_of accounts household (replay book)) ≡ Some trade
    → first_broken_in order before (replay book) ≡ Some least
    → (trade ≡ least) ⊎ IsExecutedBefore book.orders least trade

abbrev pub FirstBrokenIsFirst : Book → Option Order → Day → List AccountForm → ℕ → Type 0
FirstBrokenIsFirst book order before accounts household =
    AreNumbered book.table.sheets → NamesOnce book.orders
    → ((sheet : Sheet) → AllPairs GoesBefore (orders_on (priced_orders book) sheet))
    → IsFirstOfAll book order before accounts household

-- What the laws of trades say: proceeds and charge make the gross of a purchase, and shares come and go by trades alone.
use Rattle.std.specs.Option.{option_map_or}
use Rattle.std.specs.Prelude.{All, Bool, Contains, Some, count_by, false, filter, sum_by, true, ℕ, ◌+◌, ◌==◌, ◌≡◌, ◌≤◌}
use Rattle.agent_events.specs.declared.order.Body.{Body}
use Rattle.agent_events.specs.declared.order.OrderRow.{OrderRow}
use Rattle.forward_price.specs.PriceTables.{AreNumbered}
use Rattle.forward_price.specs.declared.price_sheet.Sheet.{Sheet}
use Rattle.offering_price.specs.Accumulation.{bracket}
use Rattle.offering_price.specs.Purchase.{split_of}
use Rattle.offering_price.specs.declared.purchase.Split.{Split}
use Rattle.share_lots.specs.Lots.{mils}
use Rattle.register_machine.specs.corrections.Cash.{outstanding}
use Rattle.register_machine.specs.pricing.CorrectedBook.{Book, front_of}
use Rattle.register_machine.specs.pricing.CorrectedOrders.{stands}
use Rattle.register_machine.specs.pricing.OrderClasses.{class_of, target_of}
use Rattle.register_machine.specs.replay.Movements.{mils_brought, mils_taken}
use Rattle.register_machine.specs.replay.Replay.{priced_in, replay}
use Rattle.agent_events.specs.declared.trade.Outcome.{Outcome}
use Rattle.agent_events.specs.declared.trade.Trade.{Trade}
use Rattle.agent_events.specs.declared.trade.TradeKind.{TradeKind}
use Rattle.register_machine.specs.replay.Trades.{Day, nav_of}
use Rattle.register_machine.specs.rules.Limits.{most_orders}

-- ---- Purchases.

abbrev pub is_purchase : TradeKind → Bool
is_purchase TradeKind.Buy = true
is_purchase _ = false

-- A filled purchase of a gross is its split at the net asset value of its sheet and at the rate of a breakpoint that an
-- amount reaches, the gross at least; proceeds and charge of the split make the gross, which is the trade's cash.
pub record IsDivided (book : Book) (sheet : Sheet) (gross : ℕ) (trade : Trade) : Type 0 where
  pub amount : ℕ
  pub reached : gross ≤ amount
  pub split : Split
  pub divided : split_of gross (nav_of sheet trade.class) (bracket (front_of book trade.class) amount) ≡ Some split
  pub cash : trade.cash ≡ gross
  pub parts : trade.cash ≡ split.proceeds + split.charge
  pub charge : trade.charge ≡ split.charge
  pub price : trade.price ≡ split.price
  pub mils : trade.mils ≡ split.mils

-- an unfilled one has nothing of it
pub record HasNothing (trade : Trade) : Type 0 where
  pub cash : trade.cash ≡ 0
  pub charge : trade.charge ≡ 0
  pub price : trade.price ≡ 0
  pub mils : trade.mils ≡ 0

abbrev pub IsDone : Book → Sheet → ℕ → Trade → Outcome → Type 0
IsDone book sheet gross trade Outcome.Filled = IsDivided book sheet gross trade
IsDone book sheet gross trade (Outcome.Unfilled why) = HasNothing trade

-- A purchase of a book: the standing order that asks for it, whose next price is that of this sheet, and its outcome.
pub record IsPurchase (book : Book) (trade : Trade) : Type 0 where
  pub row : OrderRow
  pub ordered : Contains (filter stands book.orders) row
  pub account : trade.account ≡ row.order.account
  pub ref_no : trade.ref_no ≡ row.order.ref_no
  pub gross : ℕ
  pub body : row.order.body ≡ Body.Buy trade.class gross
  pub sheet : Sheet
  pub published : Contains book.table.sheets sheet
  pub number : trade.sheet ≡ sheet.number
  pub priced : (priced_in book.table.sheets row).sheet ≡ Some sheet.number
  pub done : IsDone book sheet gross trade trade.outcome

-- Of every purchase proceeds and charge make the gross.
abbrev pub GrossIsWhole : Book → Trade → Type 0
GrossIsWhole book trade = is_purchase trade.kind ≡ true → IsPurchase book trade

-- ---- Shares.

-- The outstanding mils of a class are those that trades brought it less those that they took from it.
abbrev pub IsOutstandingByTrades : ℕ → Day → Type 0
IsOutstandingByTrades class day =
    outstanding day.register class + sum_by (mils_taken class) day.trades ≡ sum_by (mils_brought class) day.trades

-- an exchange of a class into itself
abbrev pub stays_in_class : Body → Bool
stays_in_class body = option_map_or (λ to. to == class_of body) (target_of body) false

pub record LeavesItsClass (row : OrderRow) : Type 0 where
  pub elsewhere : stays_in_class row.order.body ≡ false

abbrev pub is_order_of : ℕ → OrderRow → Bool
is_order_of account row = row.order.account == account

-- A book as the machine keeps it: its sheets are numbered 1, 2, 3 .., and of its standing orders none exchanges a class
-- into itself and no account has more than the machine lets it have.
pub record IsOrderly (book : Book) : Type 0 where
  pub numbered : AreNumbered book.table.sheets
  pub elsewhere : All LeavesItsClass (filter stands book.orders)
  pub few_orders : (account : ℕ) → count_by (is_order_of account) (filter stands book.orders) ≤ most_orders

-- In such a book shares come and go by trades alone.
abbrev pub SharesGoByTrades : Book → ℕ → Type 0
SharesGoByTrades book class = IsOrderly book → IsOutstandingByTrades class (replay book)

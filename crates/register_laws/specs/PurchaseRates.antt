-- The rate of each purchase: that of its gross and its household's credit on that sheet, or of an open letter's amount.
use Rattle.std.specs.Prelude.{All, Bool, Some, false, true, ℕ, ◌+◌, ◌≡◌}
use Rattle.agent_events.specs.declared.order.Body.{Body}
use Rattle.forward_price.specs.declared.price_sheet.Sheet.{Sheet}
use Rattle.offering_price.specs.Accumulation.{bracket}
use Rattle.offering_price.specs.Purchase.{split_of}
use Rattle.offering_price.specs.declared.purchase.Split.{Split}
use Rattle.register_laws.specs.OrderTurns.{OrderTurn, register_at}
use Rattle.register_machine.specs.pricing.CorrectedBook.{Book, front_of}
use Rattle.register_machine.specs.replay.Positions.{PositionKey, Register, position_at}
use Rattle.register_machine.specs.replay.Purchase.{amount_rated, credit_of}
use Rattle.register_machine.specs.replay.Replay.{replay}
use Rattle.agent_events.specs.declared.trade.Outcome.{Outcome}
use Rattle.agent_events.specs.declared.trade.Trade.{Trade}
use Rattle.agent_events.specs.declared.trade.TradeKind.{TradeKind}
use Rattle.register_machine.specs.replay.Trades.{nav_of}

-- the amount whose breakpoint gives the rate of a purchase of this gross, for this account and class
abbrev pub amount_at : Book → Sheet → Register → PositionKey → ℕ → ℕ
amount_at book sheet register key gross =
    amount_rated (position_at register key).letter (gross + credit_of book sheet register key.account)

abbrev pub key_of_trade : Trade → PositionKey
key_of_trade trade = record { account = trade.account; class = trade.class }

-- A filled purchase is that of the order whose turn it is, at the split of its gross by the rate of that amount.
pub record IsRated (book : Book) (trade : Trade) : Type 0 where
  pub turn : OrderTurn book
  pub number : trade.sheet ≡ turn.sheet.number
  pub account : trade.account ≡ turn.row.order.account
  pub ref_no : trade.ref_no ≡ turn.row.order.ref_no
  pub gross : ℕ
  pub body : turn.row.order.body ≡ Body.Buy trade.class gross
  pub amount : ℕ
  pub rated : amount ≡ amount_at book turn.sheet (register_at book turn) (key_of_trade trade) gross
  pub rate : ℕ
  pub reached : rate ≡ bracket (front_of book trade.class) amount
  pub split : Split
  pub divided : split_of gross (nav_of turn.sheet trade.class) rate ≡ Some split
  pub price : trade.price ≡ split.price
  pub mils : trade.mils ≡ split.mils
  pub cash : trade.cash ≡ gross
  pub charge : trade.charge ≡ split.charge

abbrev pub is_filled_purchase : Outcome → TradeKind → Bool
is_filled_purchase Outcome.Filled TradeKind.Buy = true
is_filled_purchase _ _ = false

abbrev pub IsRatedPurchase : Book → Trade → Type 0
IsRatedPurchase book trade = is_filled_purchase trade.outcome trade.kind ≡ true → IsRated book trade

-- So is every filled purchase of a replay.
abbrev pub PurchasesHaveTheirRate : Book → Type 0
PurchasesHaveTheirRate book = All (IsRatedPurchase book) (replay book).trades

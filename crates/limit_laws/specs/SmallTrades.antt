-- How much one trade moves at most, and how many trades a sheet makes.
use Rattle.std.specs.Prelude.{All, Bool, List, Some, false, length, slice_get, true, ℕ, ◌*◌, ◌++◌, ◌+◌, ◌^◌, ◌≡◌, ◌≤◌}
use Rattle.agent_events.specs.declared.trade.Trade.{Trade}
use Rattle.agent_events.specs.declared.trade.TradeKind.{TradeKind}
use Rattle.forward_price.specs.declared.price_sheet.Sheet.{Sheet}
use Rattle.limit_laws.specs.Limited.{IsLimited}
use Rattle.register_machine.specs.pricing.CorrectedBook.{Book}
use Rattle.register_machine.specs.replay.Replay.{orders_on, priced_orders, replay, replay_to}
use Rattle.share_lots.specs.Lots.{most_cost, most_mils}

-- The most cents of a trade. A purchase brings no more than a position may cost; a redemption and an exchange are worth at most
-- 10^12 mils at a price of 10^7 cents; the load that a letter missed is at most 850 basis points of 10^12 cents; and a dividend
-- is at most 10^9 millionths of a dollar on each of 10^12 mils.
abbrev pub most_cash_by : TradeKind → ℕ
most_cash_by TradeKind.Buy = most_cost
most_cash_by TradeKind.Sell = 10 ^ 16
most_cash_by TradeKind.Exchange = 10 ^ 16
most_cash_by TradeKind.Letter = 10 ^ 12
most_cash_by TradeKind.LetterReached = 0
most_cash_by TradeKind.LetterEnded = 85000000000
most_cash_by TradeKind.ElectCash = 0
most_cash_by TradeKind.ElectShares = 0
most_cash_by TradeKind.DividendShares = 10 ^ 14
most_cash_by TradeKind.DividendCash = 10 ^ 14

-- and no more mils than a position may have
pub record IsSmallTrade (trade : Trade) : Type 0 where
  pub cash : trade.cash ≤ most_cash_by trade.kind
  pub mils : trade.mils ≤ most_mils
  pub to_mils : trade.to_mils ≤ most_mils

-- Every trade of a limited book is small.
abbrev pub TradesAreSmall : Book → Type 0
TradesAreSmall book = IsLimited book → All IsSmallTrade (replay book).trades

-- ---- What a sheet adds.

abbrev pub is_dividend : TradeKind → Bool
is_dividend TradeKind.DividendShares = true
is_dividend TradeKind.DividendCash = true
is_dividend _ = false

-- the payment of a dividend, and a letter that ends by date
pub record IsPayment (trade : Trade) : Type 0 where
  pub kind : is_dividend trade.kind ≡ true
  pub small : IsSmallTrade trade

pub record IsLettersEnd (trade : Trade) : Type 0 where
  pub kind : trade.kind ≡ TradeKind.LetterEnded
  pub small : IsSmallTrade trade

-- A sheet pays one dividend and ends one letter at most for each account and price on it, and makes one trade of each order,
-- two where a purchase reaches its letter's amount.
pub record AddsFewTrades (book : Book) (sheet : Sheet) (before after : List Trade) : Type 0 where
  pub payments : List Trade
  pub ends : List Trade
  pub of_orders : List Trade
  pub trades : after ≡ before ++ (payments ++ (ends ++ of_orders))
  pub are_payments : All IsPayment payments
  pub are_ends : All IsLettersEnd ends
  pub are_small : All IsSmallTrade of_orders
  pub few_payments : length payments ≤ length sheet.prices * length book.accounts
  pub few_ends : length ends ≤ length sheet.prices * length book.accounts
  pub few_of_orders : length of_orders ≤ 2 * length (orders_on (priced_orders book) sheet)

abbrev pub SheetsAddFewTrades : Book → Type 0
SheetsAddFewTrades book =
    IsLimited book
    → (place : ℕ) (sheet : Sheet) → slice_get book.table.sheets place ≡ Some sheet
    → AddsFewTrades book sheet (replay_to book place).trades (replay_to book (place + 1)).trades

-- The price of each trade of a replay, kind by kind.
use Rattle.std.specs.Prelude.{All, Contains, ℕ, ◌≡◌, ◌≤◌}
use Rattle.agent_events.specs.declared.trade.Outcome.{Outcome}
use Rattle.agent_events.specs.declared.trade.Trade.{Trade}
use Rattle.agent_events.specs.declared.trade.TradeKind.{TradeKind}
use Rattle.forward_price.specs.declared.price_sheet.Sheet.{Sheet}
use Rattle.offering_price.specs.Accumulation.{bracket}
use Rattle.offering_price.specs.Purchase.{offering_price}
use Rattle.register_machine.specs.pricing.CorrectedBook.{Book, front_of}
use Rattle.register_machine.specs.replay.Replay.{replay}
use Rattle.register_machine.specs.replay.Trades.{nav_of}

-- the offering price of its class at the rate of a breakpoint that an amount reaches, its gross at least
pub record HasOfferingPrice (book : Book) (sheet : Sheet) (trade : Trade) : Type 0 where
  pub amount : ℕ
  pub reached : trade.cash ≤ amount
  pub price : trade.price ≡ offering_price (nav_of sheet trade.class) (bracket (front_of book trade.class) amount)

-- the net asset value of its class, for an exchange of the class that it leaves
abbrev pub HasNav : Sheet → Trade → Type 0
HasNav sheet trade = trade.price ≡ nav_of sheet trade.class

abbrev pub HasNoPrice : Trade → Type 0
HasNoPrice trade = trade.price ≡ 0

-- A purchase has the offering price. A redemption, an exchange, a letter that ends by date and a dividend that is reinvested
-- have the net asset value. A letter that begins or is reached, an election and a dividend in cash have none.
abbrev pub HasPriceOf : TradeKind → Book → Sheet → Trade → Type 0
HasPriceOf TradeKind.Buy book sheet trade = HasOfferingPrice book sheet trade
HasPriceOf TradeKind.Sell book sheet trade = HasNav sheet trade
HasPriceOf TradeKind.Exchange book sheet trade = HasNav sheet trade
HasPriceOf TradeKind.Letter book sheet trade = HasNoPrice trade
HasPriceOf TradeKind.LetterReached book sheet trade = HasNoPrice trade
HasPriceOf TradeKind.LetterEnded book sheet trade = HasNav sheet trade
HasPriceOf TradeKind.ElectCash book sheet trade = HasNoPrice trade
HasPriceOf TradeKind.ElectShares book sheet trade = HasNoPrice trade
HasPriceOf TradeKind.DividendShares book sheet trade = HasNav sheet trade
HasPriceOf TradeKind.DividendCash book sheet trade = HasNoPrice trade

-- and an order that is unfilled has none
abbrev pub HasPriceBy : Outcome → Book → Sheet → Trade → Type 0
HasPriceBy Outcome.Filled book sheet trade = HasPriceOf trade.kind book sheet trade
HasPriceBy (Outcome.Unfilled why) book sheet trade = HasNoPrice trade

-- A trade is of a published sheet, with its number, its moment and its day, and has its price by its kind.
pub record HasItsPrice (book : Book) (trade : Trade) : Type 0 where
  pub sheet : Sheet
  pub published : Contains book.table.sheets sheet
  pub number : trade.sheet ≡ sheet.number
  pub moment : trade.moment ≡ sheet.moment
  pub day : trade.day ≡ sheet.day
  pub price : HasPriceBy trade.outcome book sheet trade

abbrev pub TradesHaveTheirPrices : Book → Type 0
TradesHaveTheirPrices book = All (HasItsPrice book) (replay book).trades

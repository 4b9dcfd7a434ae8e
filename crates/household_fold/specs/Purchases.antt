-- A purchase under the facts that a step reads, in the parts in which it is done.
use Rattle.agent_events.specs.declared.order.Order.{Order}
use Rattle.agent_events.specs.declared.trade.Trade.{Trade}
use Rattle.agent_events.specs.declared.trade.TradeKind.{TradeKind}
use Rattle.household_fold.specs.Facts.{Known, book_of_facts, sheet_at_hand}
use Rattle.letter_of_intent.specs.Letters.{new_letter}
use Rattle.offering_price.specs.declared.purchase.Split.{Split}
use Rattle.register_machine.specs.pricing.CorrectedBook.{front_of}
use Rattle.register_machine.specs.pricing.OrderClasses.{class_of}
use Rattle.register_machine.specs.replay.Letter.{day_after_letter}
use Rattle.register_machine.specs.replay.Positions.{Position, position_of}
use Rattle.register_machine.specs.replay.Purchase.{credit_of, day_after_purchase, day_at_split, day_with_lot, purchase_rate, purchase_trade}
use Rattle.register_machine.specs.replay.Trades.{Day, day_after_trade, order_trade}
use Rattle.share_lots.specs.Lots.{Added, shares_added}
use Rattle.std.specs.Prelude.{Some, false, ℕ}

-- the position of an order
abbrev pub position_in : Day → Order → Position
position_in day order = position_of day.register order.account (class_of order.body)

abbrev pub rate_known : Known → Day → Order → ℕ → ℕ
rate_known known day order gross =
    purchase_rate (book_of_facts known) (sheet_at_hand known) day.register (position_in day order) gross

-- the lot of the purchase, its trade, and the day with both
abbrev pub lot_bought : Known → Day → Order → ℕ → Split → Added
lot_bought known day order gross split =
    shares_added (position_in day order).holding (sheet_at_hand known).day split.mils gross false

abbrev pub trade_of_purchase : Known → Order → ℕ → Split → Trade
trade_of_purchase known order gross split =
    purchase_trade (order_trade (sheet_at_hand known) order TradeKind.Buy) gross split

abbrev pub day_with_purchase : Known → Day → Order → ℕ → Split → Day
day_with_purchase known day order gross split =
    day_with_lot (sheet_at_hand known) day (position_in day order) (lot_bought known day order gross split)
    (position_in day order).letter gross split (trade_of_purchase known order gross split)

-- the day after the order at its split
abbrev pub day_by_split : Known → Day → Order → ℕ → Split → Day
day_by_split known day order gross split =
    day_at_split (sheet_at_hand known) day (position_in day order) gross (Some split)
    (order_trade (sheet_at_hand known) order TradeKind.Buy)

-- the whole purchase
abbrev pub purchase_known : Known → Day → Order → ℕ → Day
purchase_known known day order gross = day_after_purchase (book_of_facts known) (sheet_at_hand known) day order gross

-- the day with a letter that begins
abbrev pub day_with_letter : Known → Day → Order → ℕ → Day
day_with_letter known day order amount =
    let position = position_in day order in
    let sheet = sheet_at_hand known in
    let start = credit_of (book_of_facts known) sheet day.register order.account in
    day_after_trade day
    (record position { letter = Some (new_letter amount sheet.day start (front_of (book_of_facts known) position.class)) })
    (record (order_trade sheet order TradeKind.Letter) { cash = amount })

-- a letter that begins, unless one is open
abbrev pub letter_known : Known → Day → Order → ℕ → Day
letter_known known day order amount = day_after_letter (book_of_facts known) (sheet_at_hand known) day order amount

-- Open letters stay within their limits over each order that begins none.
use Rattle.std.proofs.Common.{Bool, List, None, Option, Some, [], ℕ, ◌*◌, ◌==◌, ◌∷◌}
use Rattle.agent_events.specs.declared.order.Order.{Order}
use Rattle.agent_events.specs.declared.trade.Trade.{Trade}
use Rattle.agent_events.specs.declared.trade.TradeKind.{TradeKind}
use Rattle.agent_events.specs.declared.trade.Why.{Why}
use Rattle.forward_price.specs.declared.price_sheet.Sheet.{Sheet}
use Rattle.fund_exchange.specs.Exchange.{transfer_of}
use Rattle.household_fold.proofs.PutFacts.{letter-found, letters-put}
use Rattle.household_fold.specs.Limits.{AreLettersWithin}
use Rattle.money_units.specs.Rounding.{half}
use Rattle.register_machine.specs.journal.Choices.{first_some, when}
use Rattle.register_machine.specs.pricing.CorrectedBook.{Book}
use Rattle.register_machine.specs.pricing.OrderClasses.{class_of}
use Rattle.register_machine.specs.replay.DayStep.{day_after_election}
use Rattle.register_machine.specs.replay.Exchange.{day_after_exchange, exchange_reasons, exchange_trade, position_with_pieces}
use Rattle.register_machine.specs.replay.Positions.{position_of, put}
use Rattle.register_machine.specs.replay.Redemption.{day_after_redemption, day_after_redemption_for, day_after_sale, position_less, short_of}
use Rattle.register_machine.specs.replay.Trades.{Day, day_after_trade, day_unless, day_unless_any, nav_of, order_trade, with_position}
use Rattle.share_lots.specs.Taking.{pieces}

-- ---- the kinds of order

unless-within : (reasons : List (Option Why)) (day : Day) (trade : Trade) (done : Day) → AreLettersWithin day.register → AreLettersWithin done.register → AreLettersWithin (day_unless_any reasons day trade done).register
unless-within reasons day trade done here there =
    elim (first_some reasons) as (λ o. AreLettersWithin (day_unless o day trade done).register) [
      | None ↦ there
      | Some why ↦ here
    ]

pub sold-letters : (book : Book) (sheet : Sheet) (day : Day) (order : Order) (asked : ℕ) → AreLettersWithin day.register → AreLettersWithin (day_after_redemption book sheet day order asked).register
sold-letters book sheet day order asked all =
    let position = position_of day.register order.account (class_of order.body) in
    let trade = order_trade sheet order TradeKind.Sell in
    unless-within (short_of position.holding asked ∷ []) day trade (day_after_sale book sheet day position asked trade) all
    (letters-put (position_less position asked) day.register all (letter-found day.register order.account (class_of order.body) all))

pub sold-for-letters : (book : Book) (sheet : Sheet) (day : Day) (order : Order) (amount : ℕ) → AreLettersWithin day.register → AreLettersWithin (day_after_redemption_for book sheet day order amount).register
sold-for-letters book sheet day order amount all =
    let position = position_of day.register order.account (class_of order.body) in
    let asked = half (1000 * amount) (nav_of sheet position.class) in
    let trade = order_trade sheet order TradeKind.Sell in
    unless-within (when (asked == 0) Why.TooSmall ∷ short_of position.holding asked ∷ []) day trade (day_after_sale book sheet day position asked trade) all
    (letters-put (position_less position asked) day.register all (letter-found day.register order.account (class_of order.body) all))

pub exchange-letters : (sheet : Sheet) (day : Day) (order : Order) (to asked : ℕ) → AreLettersWithin day.register → AreLettersWithin (day_after_exchange sheet day order to asked).register
exchange-letters sheet day order to asked all =
    let position = position_of day.register order.account (class_of order.body) in
    let target = position_of day.register order.account to in
    let nav = nav_of sheet position.class in
    let moved = transfer_of nav (nav_of sheet to) (pieces asked position.holding.lots) in
    let trade = order_trade sheet order TradeKind.Exchange in
    unless-within (exchange_reasons position target asked moved) day trade
    (day_after_trade (with_position day (position_less position asked)) (position_with_pieces target moved.pieces) (exchange_trade trade nav asked moved)) all
    (letters-put (position_with_pieces target moved.pieces) (put (position_less position asked) day.register)
    (letters-put (position_less position asked) day.register all (letter-found day.register order.account (class_of order.body) all))
    (letter-found day.register order.account to all))

pub elected-letters : (sheet : Sheet) (day : Day) (order : Order) (in_cash : Bool) → AreLettersWithin day.register → AreLettersWithin (day_after_election sheet day order in_cash).register
elected-letters sheet day order in_cash all =
    let position = position_of day.register order.account (class_of order.body) in
    letters-put (record position { in_cash = in_cash }) day.register all (letter-found day.register order.account (class_of order.body) all)

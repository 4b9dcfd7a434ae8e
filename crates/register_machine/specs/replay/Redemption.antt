-- A redemption on its sheet. Shares free of a charge go first, then those held longest, and it has the deferred charge of its
-- class (17 CFR 270.6c-10(a)(1)).
use Rattle.std.specs.Prelude.{Option, [], ℕ, ◌*◌, ◌==◌, ◌||◌, ◌∷◌, nat_lt}
use Rattle.agent_events.specs.declared.order.Order.{Order}
use Rattle.contingent_charge.specs.DeferredCharge.{charge_of_pieces}
use Rattle.contingent_charge.specs.declared.charging.Charged.{Charged}
use Rattle.forward_price.specs.declared.price_sheet.Sheet.{Sheet}
use Rattle.money_units.specs.Rounding.{half}
use Rattle.share_lots.specs.Lots.{Holding, loose_total}
use Rattle.share_lots.specs.Taking.{after_taking, pieces}
use Rattle.register_machine.specs.journal.Choices.{when}
use Rattle.register_machine.specs.pricing.CorrectedBook.{Book, schedule_of}
use Rattle.register_machine.specs.pricing.OrderClasses.{class_of}
use Rattle.register_machine.specs.replay.Positions.{Position, position_of, with_holding}
use Rattle.agent_events.specs.declared.trade.Trade.{Trade}
use Rattle.agent_events.specs.declared.trade.TradeKind.{TradeKind}
use Rattle.agent_events.specs.declared.trade.Why.{Why}
use Rattle.register_machine.specs.replay.Trades.{Day, day_after_trade, day_unless_any, nav_of, order_trade}

-- more than the loose mils is asked for, or all of none
abbrev pub short_of : Holding → ℕ → Option Why
short_of holding asked =
    when (asked == 0 || nat_lt (loose_total holding) asked) (Why.Short (loose_total holding))

abbrev pub redemption_trade : Trade → ℕ → ℕ → Charged → Trade
redemption_trade trade nav asked day_after_redemption =
    record trade { price = nav; mils = asked; cash = day_after_redemption.value; charge = day_after_redemption.charge }

abbrev pub position_less : Position → ℕ → Position
position_less position asked = with_holding position (after_taking position.holding asked)

-- so many mils are redeemed
abbrev pub day_after_sale : Book → Sheet → Day → Position → ℕ → Trade → Day
day_after_sale book sheet day position asked trade =
    let nav = nav_of sheet position.class in
    day_after_trade day (position_less position asked)
    (redemption_trade trade nav asked
    (charge_of_pieces (pieces asked position.holding.lots) nav sheet.day (schedule_of book position.class)))

-- a redemption of so many mils, or of those that an amount asks for
abbrev pub day_after_redemption : Book → Sheet → Day → Order → ℕ → Day
day_after_redemption book sheet day order asked =
    let position = position_of day.register order.account (class_of order.body) in
    let trade = order_trade sheet order TradeKind.Sell in
    day_unless_any (short_of position.holding asked ∷ []) day trade (day_after_sale book sheet day position asked trade)

abbrev pub day_after_redemption_for : Book → Sheet → Day → Order → ℕ → Day
day_after_redemption_for book sheet day order amount =
    let position = position_of day.register order.account (class_of order.body) in
    let asked = half (1000 * amount) (nav_of sheet position.class) in
    let trade = order_trade sheet order TradeKind.Sell in
    day_unless_any (when (asked == 0) Why.TooSmall ∷ short_of position.holding asked ∷ []) day trade
    (day_after_sale book sheet day position asked trade)

abbrev pub loose_of : Day → Order → ℕ
loose_of day order = loose_total (position_of day.register order.account (class_of order.body)).holding

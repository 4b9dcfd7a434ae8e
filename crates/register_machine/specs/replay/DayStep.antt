-- One sheet over the whole register, in its three phases: dividends by class and then account, letters that end by date by
-- account and then class, and orders in the order in which they are handed in. Each phase goes over keys or orders that are
-- fixed when it begins, and looks each position up when its turn comes.
use Rattle.std.specs.Prelude.{Bool, List, fold, if◌then◌else◌}
use Rattle.agent_events.specs.declared.order.Body.{Body}
use Rattle.agent_events.specs.declared.order.Order.{Order}
use Rattle.agent_events.specs.declared.order.OrderRow.{OrderRow}
use Rattle.forward_price.specs.declared.price_sheet.Sheet.{Sheet}
use Rattle.register_machine.specs.pricing.CorrectedBook.{Book}
use Rattle.register_machine.specs.pricing.OrderClasses.{class_of}
use Rattle.register_machine.specs.replay.Dividend.{day_after_dividends}
use Rattle.register_machine.specs.replay.Exchange.{day_after_exchange}
use Rattle.register_machine.specs.replay.Letter.{day_after_letter, day_after_letter_ends}
use Rattle.register_machine.specs.replay.Positions.{position_of}
use Rattle.register_machine.specs.replay.Purchase.{day_after_purchase}
use Rattle.register_machine.specs.replay.Redemption.{day_after_redemption, day_after_redemption_for, loose_of}
use Rattle.agent_events.specs.declared.trade.TradeKind.{TradeKind}
use Rattle.register_machine.specs.replay.Trades.{Day, day_after_trade, order_trade}

abbrev pub day_after_election : Sheet → Day → Order → Bool → Day
day_after_election sheet day order in_cash =
    let position = position_of day.register order.account (class_of order.body) in
    day_after_trade day (record position { in_cash = in_cash })
    (order_trade sheet order (if in_cash then TradeKind.ElectCash else TradeKind.ElectShares))

abbrev pub day_after_body : Book → Sheet → Day → Order → Body → Day
day_after_body book sheet day order (Body.Buy class gross) = day_after_purchase book sheet day order gross
day_after_body book sheet day order (Body.Sell class mils) = day_after_redemption book sheet day order mils
day_after_body book sheet day order (Body.SellCash class amount) = day_after_redemption_for book sheet day order amount
day_after_body book sheet day order (Body.SellAll class) = day_after_redemption book sheet day order (loose_of day order)
day_after_body book sheet day order (Body.Exchange class to mils) = day_after_exchange sheet day order to mils
day_after_body book sheet day order (Body.ExchangeAll class to) = day_after_exchange sheet day order to (loose_of day order)
day_after_body book sheet day order (Body.Letter class amount) = day_after_letter book sheet day order amount
day_after_body book sheet day order (Body.Elect class in_cash) = day_after_election sheet day order in_cash

abbrev pub day_after_order : Book → Sheet → Day → OrderRow → Day
day_after_order book sheet day row = day_after_body book sheet day row.order row.order.body

abbrev pub day_after_orders : Book → Sheet → List OrderRow → Day → Day
day_after_orders book sheet rows day = fold (day_after_order book sheet) day rows

unfoldable pub day_step : Book → Sheet → List OrderRow → Day → Day
day_step book sheet rows day =
    day_after_orders book sheet rows (day_after_letter_ends book sheet (day_after_dividends book sheet day))

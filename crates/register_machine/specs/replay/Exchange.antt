-- An exchange on its sheet: pieces go over to another class of the family, each with its own date and cost, without a charge.
use Rattle.std.specs.Prelude.{List, Option, [], ℕ, ◌==◌, ◌∷◌, fold, not}
use Rattle.agent_events.specs.declared.order.Order.{Order}
use Rattle.forward_price.specs.declared.price_sheet.Sheet.{Sheet}
use Rattle.fund_exchange.specs.Exchange.{transfer_of}
use Rattle.fund_exchange.specs.declared.carrying.Carried.{Carried}
use Rattle.share_lots.specs.Lots.{Holding, shares_added}
use Rattle.share_lots.specs.Taking.{pieces}
use Rattle.share_lots.specs.declared.lot.Piece.{Piece}
use Rattle.register_machine.specs.journal.Choices.{when}
use Rattle.register_machine.specs.pricing.OrderClasses.{class_of}
use Rattle.register_machine.specs.replay.Positions.{Position, has_room, position_of, with_holding}
use Rattle.register_machine.specs.replay.Redemption.{position_less, short_of}
use Rattle.agent_events.specs.declared.trade.Trade.{Trade}
use Rattle.agent_events.specs.declared.trade.TradeKind.{TradeKind}
use Rattle.agent_events.specs.declared.trade.Why.{Why}
use Rattle.register_machine.specs.replay.Trades.{Day, day_after_trade, day_unless_any, nav_of, order_trade, with_position}

-- a piece comes into the target: as a lot with its own date and cost, or into the free lot
abbrev pub holding_with_piece : Holding → Piece → Holding
holding_with_piece holding piece = (shares_added holding piece.day piece.mils piece.cost piece.free).holding

abbrev pub position_with_pieces : Position → List Piece → Position
position_with_pieces position given = with_holding position (fold holding_with_piece position.holding given)

abbrev pub exchange_trade : Trade → ℕ → ℕ → Carried → Trade
exchange_trade trade nav asked moved =
    record trade { price = nav; mils = asked; to_mils = moved.mils; cash = moved.value }

-- too few loose mils, no new mils, or no room in the target
abbrev pub exchange_reasons : Position → Position → ℕ → Carried → List (Option Why)
exchange_reasons position target asked moved =
    short_of position.holding asked ∷ when (moved.mils == 0) Why.TooSmall
    ∷ when (not (has_room target.holding moved.mils moved.cost)) Why.Ceiling ∷ []

-- an exchange of so many mils into another class
abbrev pub day_after_exchange : Sheet → Day → Order → ℕ → ℕ → Day
day_after_exchange sheet day order to asked =
    let position = position_of day.register order.account (class_of order.body) in
    let target = position_of day.register order.account to in
    let nav = nav_of sheet position.class in
    let moved = transfer_of nav (nav_of sheet to) (pieces asked position.holding.lots) in
    let trade = order_trade sheet order TradeKind.Exchange in
    day_unless_any (exchange_reasons position target asked moved) day trade
    (day_after_trade (with_position day (position_less position asked)) (position_with_pieces target moved.pieces)
    (exchange_trade trade nav asked moved))

-- An exchange on the sheet at hand, in its parts.
use Rattle.agent_events.specs.declared.order.Order.{Order}
use Rattle.agent_events.specs.declared.trade.Trade.{Trade}
use Rattle.fund_exchange.specs.Exchange.{transfer_of}
use Rattle.fund_exchange.specs.declared.carrying.Carried.{Carried}
use Rattle.household_fold.specs.Facts.{Known, sheet_at_hand}
use Rattle.household_fold.specs.declared.exchange.Move.{Move}
use Rattle.register_machine.specs.replay.Exchange.{day_after_exchange, exchange_reasons, exchange_trade, position_with_pieces}
use Rattle.register_machine.specs.replay.Positions.{Position, Register, position_of}
use Rattle.register_machine.specs.replay.Redemption.{position_less}
use Rattle.register_machine.specs.replay.Trades.{Day, day_after_trade, day_unless_any, nav_of, with_position}
use Rattle.share_lots.specs.Taking.{pieces}
use Rattle.std.specs.Prelude.{if◌then◌else◌, ℕ, ◌==◌}

-- the position that shares leave, and the one that they come into
abbrev pub source_of : Register → Move → Position
source_of register move = position_of register move.account move.class

abbrev pub target_of : Register → Move → Position
target_of register move = position_of register move.account move.to

-- what goes over
abbrev pub moved_known : Known → Register → Move → Carried
moved_known known register move =
    let sheet = sheet_at_hand known in
    transfer_of (nav_of sheet move.class) (nav_of sheet move.to) (pieces move.asked (source_of register move).holding.lots)

-- the day on which the source has given its shares; within one class the target stands in its stead
abbrev pub day_given : Day → Move → Day
day_given day move =
    if move.class == move.to then day else with_position day (position_less (source_of day.register move) move.asked)

-- the day after an exchange that is filled
abbrev pub day_moved : Known → Day → Trade → Move → Carried → Day
day_moved known day trade move moved =
    day_after_trade (with_position day (position_less (source_of day.register move) move.asked))
    (position_with_pieces (target_of day.register move) moved.pieces)
    (exchange_trade trade (nav_of (sheet_at_hand known) move.class) move.asked moved)

-- the day after it, filled or not
abbrev pub day_by_move : Known → Day → Trade → Move → Carried → Day
day_by_move known day trade move moved =
    day_unless_any (exchange_reasons (source_of day.register move) (target_of day.register move) move.asked moved) day trade
    (day_moved known day trade move moved)

-- the whole exchange
abbrev pub exchange_known : Known → Day → Order → ℕ → ℕ → Day
exchange_known known day order to asked = day_after_exchange (sheet_at_hand known) day order to asked

-- A redemption under the facts that a step reads, in its parts.
use Rattle.std.specs.Prelude.{List, ℕ}
use Rattle.agent_events.specs.declared.order.Order.{Order}
use Rattle.agent_events.specs.declared.trade.Trade.{Trade}
use Rattle.contingent_charge.specs.DeferredCharge.{charge_of_pieces}
use Rattle.contingent_charge.specs.declared.charging.Charged.{Charged}
use Rattle.household_fold.specs.Facts.{Known, book_of_facts, sheet_at_hand}
use Rattle.register_machine.specs.pricing.CorrectedBook.{schedule_of}
use Rattle.register_machine.specs.replay.Positions.{Position, position_of}
use Rattle.register_machine.specs.replay.Redemption.{day_after_redemption, day_after_redemption_for, day_after_sale, loose_of, redemption_trade}
use Rattle.register_machine.specs.replay.Trades.{Day, nav_of}
use Rattle.share_lots.specs.Taking.{pieces}
use Rattle.share_lots.specs.declared.lot.Piece.{Piece}

-- of so many mils, for an amount, and of all loose ones
abbrev pub redeemed_known : Known → Day → Order → ℕ → Day
redeemed_known known day order asked = day_after_redemption (book_of_facts known) (sheet_at_hand known) day order asked

abbrev pub redeemed_for_known : Known → Day → Order → ℕ → Day
redeemed_for_known known day order amount =
    day_after_redemption_for (book_of_facts known) (sheet_at_hand known) day order amount

abbrev pub redeemed_all_known : Known → Day → Order → Day
redeemed_all_known known day order = redeemed_known known day order (loose_of day order)

-- the position of a trade
abbrev pub position_of_trade : Day → Trade → Position
position_of_trade day trade = position_of day.register trade.account trade.class

-- the day after its loose mils were sold
abbrev pub sale_known : Known → Day → Trade → ℕ → Day
sale_known known day trade asked =
    day_after_sale (book_of_facts known) (sheet_at_hand known) day (position_of_trade day trade) asked trade

-- what pieces of a class bring, and what is charged
abbrev pub charged_known : Known → ℕ → List Piece → Charged
charged_known known class taken =
    charge_of_pieces taken (nav_of (sheet_at_hand known) class) (sheet_at_hand known).day (schedule_of (book_of_facts known) class)

abbrev pub charged_of : Known → Position → ℕ → Charged
charged_of known position asked = charged_known known position.class (pieces asked position.holding.lots)

-- the trade of a redemption that is filled
abbrev pub trade_of_sale : Known → Trade → ℕ → Charged → Trade
trade_of_sale known trade asked sold = redemption_trade trade (nav_of (sheet_at_hand known) trade.class) asked sold

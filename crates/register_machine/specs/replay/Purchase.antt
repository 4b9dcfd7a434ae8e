-- A purchase on its sheet: its rate by what the household owns (rights of accumulation, Form N-1A, Item 12(a)), its split
-- into shares, proceeds and charge, its lot, and what an open letter holds of it.
use Rattle.std.specs.Option.{option_map_or}
use Rattle.std.specs.Prelude.{Bool, None, Option, Some, [], ℕ, ◌&&◌, ◌+◌, ◌==◌, ◌∷◌, false, filter, if◌then◌else◌, map, max, not}
use Rattle.agent_events.specs.declared.order.Order.{Order}
use Rattle.forward_price.specs.PriceTables.{price_before}
use Rattle.forward_price.specs.declared.price_sheet.Sheet.{Sheet}
use Rattle.letter_of_intent.specs.Letters.{after_purchase, note_of_purchase}
use Rattle.letter_of_intent.specs.declared.letter.Letter.{Letter}
use Rattle.offering_price.specs.Accumulation.{bracket, credit}
use Rattle.offering_price.specs.Purchase.{split_of}
use Rattle.offering_price.specs.declared.accumulation.Holding.{Holding as Worth}
use Rattle.offering_price.specs.declared.purchase.Split.{Split}
use Rattle.share_lots.specs.Lots.{Added, shares_added, cost_total, hold_mils, release_all}
use Rattle.register_machine.specs.journal.Choices.{when}
use Rattle.register_machine.specs.journal.Kinds.{household_of}
use Rattle.register_machine.specs.pricing.CorrectedBook.{Book, counts, front_of}
use Rattle.register_machine.specs.pricing.OrderClasses.{class_of}
use Rattle.register_machine.specs.replay.Positions.{Position, Register, has_room, mils_of, position_of, with_holding}
use Rattle.agent_events.specs.declared.trade.Trade.{Trade}
use Rattle.agent_events.specs.declared.trade.TradeKind.{TradeKind}
use Rattle.agent_events.specs.declared.trade.Why.{Why}
use Rattle.register_machine.specs.replay.Trades.{Day, day_after_trade, day_unless_any, nav_of, order_trade, plain_trade}

-- a position as its household's breakpoints see it: its mils, its cost, and the last net asset value before the sheet
abbrev pub worth_on : Book → Sheet → Position → Worth
worth_on book sheet position = record {
  mils = mils_of position.holding;
  cost = cost_total position.holding;
  nav = price_before book.table.sheets position.class sheet.moment;
}

-- the position is of this household, in a class that counts
abbrev pub is_counted : Book → Option ℕ → Position → Bool
is_counted book household position =
    counts book position.class
    && option_map_or (λ owner. option_map_or (λ other. other == owner) (household_of book.accounts position.account) false) household false

-- the credit of an account: over all positions of its household, as they stand when the order's turn comes
abbrev pub credit_of : Book → Sheet → Register → ℕ → ℕ
credit_of book sheet register account =
    let household = household_of book.accounts account in
    credit (map (worth_on book sheet) (filter (is_counted book household) register))

-- the amount whose breakpoint gives the rate: gross and credit, or the letter's amount where that is greater
abbrev pub amount_rated : Option Letter → ℕ → ℕ
amount_rated None amount = amount
amount_rated (Some letter) amount = max letter.amount amount

abbrev pub purchase_rate : Book → Sheet → Register → Position → ℕ → ℕ
purchase_rate book sheet register position gross =
    bracket (front_of book position.class)
    (amount_rated position.letter (gross + credit_of book sheet register position.account))

abbrev pub purchase_trade : Trade → ℕ → Split → Trade
purchase_trade trade gross split =
    record trade { price = split.price; mils = split.mils; cash = gross; charge = split.charge }

-- a letter that is reached ends: all held mils become loose
abbrev pub day_after_reaching : Sheet → Position → Day → Day
day_after_reaching sheet position day =
    day_after_trade day (record position { holding = release_all position.holding; letter = None })
    (plain_trade sheet position.account position.class TradeKind.LetterReached)

-- what an open letter does with the new lot: it holds a part of it, and notes the purchase
abbrev pub position_after_note : Position → Added → Letter → ℕ → Split → Position
position_after_note position shares_added letter gross split = record position {
  holding = hold_mils shares_added.holding shares_added.number (note_of_purchase letter gross split.price split.mils).hold;
  letter = Some (after_purchase letter gross split.price split.mils);
}

abbrev pub day_if_reached : Bool → Sheet → Position → Day → Day
day_if_reached reached sheet position day = if reached then day_after_reaching sheet position day else day

-- and where the purchase brings it to its amount, it ends behind that purchase
abbrev pub day_after_note : Sheet → Day → Position → Added → Letter → ℕ → Split → Trade → Day
day_after_note sheet day position shares_added letter gross split trade =
    let kept = position_after_note position shares_added letter gross split in
    day_if_reached (note_of_purchase letter gross split.price split.mils).reached sheet kept (day_after_trade day kept trade)

abbrev pub day_with_lot : Sheet → Day → Position → Added → Option Letter → ℕ → Split → Trade → Day
day_with_lot sheet day position shares_added None gross split trade = day_after_trade day (with_holding position shares_added.holding) trade
day_with_lot sheet day position shares_added (Some letter) gross split trade =
    day_after_note sheet day position shares_added letter gross split trade

-- the purchase at its split: too small without a mil, and unfilled where the position would pass its ceiling
abbrev pub day_at_split : Sheet → Day → Position → ℕ → Option Split → Trade → Day
day_at_split sheet day position gross None trade = day_unless_any (Some Why.TooSmall ∷ []) day trade day
day_at_split sheet day position gross (Some split) trade =
    day_unless_any (when (not (has_room position.holding split.mils gross)) Why.Ceiling ∷ []) day trade
    (day_with_lot sheet day position (shares_added position.holding sheet.day split.mils gross false) position.letter gross split
    (purchase_trade trade gross split))

abbrev pub day_after_purchase : Book → Sheet → Day → Order → ℕ → Day
day_after_purchase book sheet day order gross =
    let position = position_of day.register order.account (class_of order.body) in
    day_at_split sheet day position gross
    (split_of gross (nav_of sheet position.class) (purchase_rate book sheet day.register position gross))
    (order_trade sheet order TradeKind.Buy)

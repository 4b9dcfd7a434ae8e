-- Letters of intent on a sheet: those that end by date, and one that begins.
use Rattle.std.specs.Prelude.{Bool, List, None, Option, Some, [], ℕ, ◌&&◌, ◌∷◌, false, filter, fold, is_some, map}
use Rattle.agent_events.specs.declared.order.Order.{Order}
use Rattle.forward_price.specs.Sheets.{lists_class}
use Rattle.forward_price.specs.declared.price_sheet.Sheet.{Sheet}
use Rattle.letter_of_intent.specs.Letters.{new_letter, has_expired, settlement}
use Rattle.letter_of_intent.specs.declared.letter.Letter.{Letter}
use Rattle.letter_of_intent.specs.declared.letter.Settlement.{Settlement}
use Rattle.share_lots.specs.Lots.{held_total, release_all}
use Rattle.share_lots.specs.Taking.{after_paying}
use Rattle.register_machine.specs.journal.Choices.{when}
use Rattle.register_machine.specs.pricing.CorrectedBook.{Book, front_of}
use Rattle.register_machine.specs.pricing.OrderClasses.{class_of}
use Rattle.register_machine.specs.replay.Positions.{Position, PositionKey, Register, key_of, position_at, position_of}
use Rattle.register_machine.specs.replay.Purchase.{credit_of}
use Rattle.agent_events.specs.declared.trade.Trade.{Trade}
use Rattle.agent_events.specs.declared.trade.TradeKind.{TradeKind}
use Rattle.agent_events.specs.declared.trade.Why.{Why}
use Rattle.register_machine.specs.replay.Trades.{Day, day_after_trade, day_unless_any, nav_of, order_trade, plain_trade}

abbrev pub letter_is_over : Sheet → Option Letter → Bool
letter_is_over sheet None = false
letter_is_over sheet (Some letter) = has_expired letter sheet.day

-- the position has an open letter, the sheet is dated after its 13 months, and the class is of the sheet's calendar
abbrev pub has_letter_over : Sheet → Position → Bool
has_letter_over sheet position = lists_class sheet.prices position.class && letter_is_over sheet position.letter

abbrev pub letter_end_trade : Sheet → Position → Settlement → Trade
letter_end_trade sheet position settled =
    record (plain_trade sheet position.account position.class TradeKind.LetterEnded) {
      price = nav_of sheet position.class;
      mils = settled.paid;
      cash = settled.cash;
      charge = settled.waived;
    }

-- the load that is missing is paid of the held mils, and the others become loose
abbrev pub day_after_settlement : Sheet → Day → Position → Settlement → Day
day_after_settlement sheet day position settled =
    day_after_trade day (record position { holding = release_all (after_paying position.holding settled.paid); letter = None })
    (letter_end_trade sheet position settled)

abbrev pub day_after_end_of : Book → Sheet → Day → Position → Option Letter → Day
day_after_end_of book sheet day position None = day
day_after_end_of book sheet day position (Some letter) =
    day_after_settlement sheet day position
    (settlement (front_of book position.class) letter (nav_of sheet position.class) (held_total position.holding))

-- the letter of a key's position, where one is open
abbrev pub day_after_letter_end : Book → Sheet → Day → PositionKey → Day
day_after_letter_end book sheet day key =
    let position = position_at day.register key in day_after_end_of book sheet day position position.letter

abbrev pub keys_of_letters_over : Sheet → Register → List PositionKey
keys_of_letters_over sheet register = map key_of (filter (has_letter_over sheet) register)

abbrev pub day_after_letter_ends : Book → Sheet → Day → Day
day_after_letter_ends book sheet day =
    fold (day_after_letter_end book sheet) day (keys_of_letters_over sheet day.register)

-- a letter begins with its household's credit, unless one is open
abbrev pub day_after_letter : Book → Sheet → Day → Order → ℕ → Day
day_after_letter book sheet day order amount =
    let position = position_of day.register order.account (class_of order.body) in
    let trade = order_trade sheet order TradeKind.Letter in
    let start = credit_of book sheet day.register order.account in
    day_unless_any (when (is_some position.letter) Why.LetterOpen ∷ []) day trade
    (day_after_trade day (record position { letter = Some (new_letter amount sheet.day start (front_of book position.class)) })
    (record trade { cash = amount }))

-- A purchase: what its parts make of the day of the definitions.
use Rattle.agent_events.specs.declared.order.Order.{Order}
use Rattle.agent_events.specs.declared.trade.Outcome.{Outcome}
use Rattle.agent_events.specs.declared.trade.Trade.{Trade}
use Rattle.agent_events.specs.declared.trade.TradeKind.{TradeKind}
use Rattle.agent_events.specs.declared.trade.Why.{Why}
use Rattle.class_terms.specs.declared.lists.Bracket.{Bracket}
use Rattle.forward_price.specs.declared.price_sheet.Sheet.{Sheet}
use Rattle.household_fold.proofs.PutFacts.{letter-found, letters-put, letters-put-over, next-within}
use Rattle.household_fold.specs.Facts.{Known, book_of_facts, sheet_at_hand}
use Rattle.household_fold.specs.Limits.{AreLettersWithin, AreLotsWithin, IsLetterWithin}
use Rattle.household_fold.specs.Purchases.{day_by_split, day_with_purchase, lot_bought, position_in, purchase_known, rate_known, trade_of_purchase}
use Rattle.household_positions.proofs.DayFacts.{close-back}
use Rattle.household_positions.specs.Register.{day_without, without}
use Rattle.letter_of_intent.specs.Letters.{IsLetter, after_purchase, note_of_purchase}
use Rattle.letter_of_intent.specs.declared.letter.Letter.{Letter}
use Rattle.offering_price.specs.Accumulation.{bracket}
use Rattle.offering_price.specs.Purchase.{split_of}
use Rattle.offering_price.specs.declared.purchase.Split.{Split}
use Rattle.register_machine.proofs.FoundFacts.{found-own, own-account, own-class}
use Rattle.register_machine.specs.journal.Choices.{when}
use Rattle.register_machine.specs.pricing.CorrectedBook.{front_of}
use Rattle.register_machine.specs.pricing.OrderClasses.{class_of}
use Rattle.register_machine.specs.replay.Positions.{Position, has_room, position_of, put, with_holding}
use Rattle.register_machine.specs.replay.Purchase.{amount_rated, credit_of, day_at_split, day_if_reached, day_with_lot, position_after_note}
use Rattle.register_machine.specs.replay.Trades.{Day, day_after_trade, day_unless_any, nav_of, order_trade, with_trade}
use Rattle.share_lots.specs.Lots.{Added, hold_in, new_lot, lots_with, ranks_before, release_all, release_lot}
use Rattle.share_lots.specs.declared.lot.Lot.{Lot}
use Rattle.std.proofs.Common.{Bool, List, None, Option, Some, [], ap, arith, false, filter, length, length-append, map, not, refl, sym, true, ℕ, ◌++◌, ◌+◌, ◌<◌, ◌==◌, ◌∙◌, ◌∷◌, ◌≡◌, ◌≤◌}
use Rattle.letter_of_intent.proofs.LetterFacts.{stays-after}
use Rattle.std.proofs.lemmas.Bool.{leb-false, ne_eqb}
use Rattle.std.proofs.lemmas.List.{length-map}

-- a lot put in its place is there
pub placed-some : (lot : Lot) (lots : List Lot) → (length (lots_with lot lots) == 0) ≡ false
placed-some lot lots =
    ne_eqb (length (lots_with lot lots)) 0 (λ e.
    (let low = filter (λ other. ranks_before other lot) lots in
    let high = filter (λ other. not (ranks_before other lot)) lots in
    let whole = length-append (low ++ lot ∷ []) high in
    let joined = length-append low (lot ∷ high) in
    omega arith))

same-length : (xs : List Lot) (f : Lot → Lot) → (length xs == 0) ≡ false → (length (map f xs) == 0) ≡ false
same-length xs f some = ap (λ n. n == 0) (length-map xs f) ∙ some

-- an order is unfilled where its one reason holds
pub unless-held : (b : Bool) (why : Why) (day : Day) (trade : Trade) (done : Day) → b ≡ true → day_unless_any (when b why ∷ []) day trade done ≡ with_trade day (record trade { outcome = Outcome.Unfilled why })
unless-held b why day trade done e = ap (λ x. day_unless_any (when x why ∷ []) day trade done) e

pub unless-one : (b : Bool) (why : Why) (day : Day) (trade : Trade) (done : Day) → b ≡ false → day_unless_any (when b why ∷ []) day trade done ≡ done
unless-one b why day trade done e = ap (λ x. day_unless_any (when x why ∷ []) day trade done) e

-- with room for it the purchase is done
pub with-room : (known : Known) (day : Day) (order : Order) (gross : ℕ) (split : Split) → has_room (position_in day order).holding split.mils gross ≡ true → day_by_split known day order gross split ≡ day_with_purchase known day order gross split
with-room known day order gross split room =
    unless-one (not (has_room (position_in day order).holding split.mils gross)) Why.Ceiling day
    (order_trade (sheet_at_hand known) order TradeKind.Buy) (day_with_purchase known day order gross split) (ap not room)

-- the number of the next lot before the purchase
next-by : (sheet : Sheet) (day : Day) (position : Position) (lot : Added) (o : Option Letter) (gross : ℕ) (split : Split) (trade : Trade) → (length lot.holding.lots == 0) ≡ false → AreLotsWithin (day_with_lot sheet day position lot o gross split trade).register → lot.holding.next_lot ≤ 4294967295
next-by sheet day position lot None gross split trade some within = next-within (with_holding position lot.holding) day.register some within
next-by sheet day position lot (Some letter) gross split trade some within =
    let kept = position_after_note position lot letter gross split in
    let held : (length kept.holding.lots == 0) ≡ false = same-length lot.holding.lots (hold_in lot.number (note_of_purchase letter gross split.price split.mils).hold) some in
    elim (note_of_purchase letter gross split.price split.mils).reached as (λ b. AreLotsWithin (day_if_reached b sheet kept (day_after_trade day kept trade)).register → lot.holding.next_lot ≤ 4294967295) [
      | true ↦ λ all. next-within (record kept { holding = release_all kept.holding; letter = None }) (put kept day.register) (same-length kept.holding.lots release_lot held) all
      | false ↦ λ all. next-within kept day.register held all
    ] within

pub next-before : (known : Known) (day : Day) (order : Order) (gross : ℕ) (split : Split) → AreLotsWithin (day_with_purchase known day order gross split).register → (position_in day order).holding.next_lot < 4294967295
next-before known day order gross split within =
    let position = position_in day order in
    let sheet = sheet_at_hand known in
    let some = placed-some (new_lot position.holding sheet.day split.mils gross false) position.holding.lots in
    let next = next-by sheet day position (lot_bought known day order gross split) position.letter gross split (trade_of_purchase known order gross split) some within in
    omega arith

-- the rate
pub rate-is : (known : Known) (day : Day) (order : Order) (gross : ℕ) (front : List Bracket) (letter : Option Letter) (credit : ℕ) → front ≡ front_of (book_of_facts known) (class_of order.body) → letter ≡ (position_in day order).letter → credit ≡ credit_of (book_of_facts known) (sheet_at_hand known) day.register order.account → bracket front (amount_rated letter (gross + credit)) ≡ rate_known known day order gross
rate-is known day order gross front letter credit by_front by_letter by_credit =
    let book = book_of_facts known in
    let sheet = sheet_at_hand known in
    let position = position_in day order in
    ap (λ rows. bracket rows (amount_rated letter (gross + credit))) (by_front ∙ ap (front_of book) (sym (own-class day.register order.account (class_of order.body))))
    ∙ ap (λ o. bracket (front_of book position.class) (amount_rated o (gross + credit))) by_letter
    ∙ ap (λ n. bracket (front_of book position.class) (amount_rated position.letter (gross + n))) (by_credit ∙ ap (credit_of book sheet day.register) (sym (own-account day.register order.account (class_of order.body))))

-- a purchase without a letter
pub plain-is : (known : Known) (day : Day) (order : Order) (gross : ℕ) (split : Split) → (position_in day order).letter ≡ None → day_after_trade (day_without order.account (class_of order.body) day) (with_holding (position_in day order) (lot_bought known day order gross split).holding) (trade_of_purchase known order gross split) ≡ day_with_purchase known day order gross split
plain-is known day order gross split none =
    let position = position_in day order in
    let lot = lot_bought known day order gross split in
    let trade = trade_of_purchase known order gross split in
    close-back day order.account (class_of order.body) (with_holding position lot.holding) trade
    (own-account day.register order.account (class_of order.body)) (own-class day.register order.account (class_of order.body))
    ∙ sym (ap (λ o. day_with_lot (sheet_at_hand known) day position lot o gross split trade) none)

-- and under one
pub kept-is : (position bought : Position) (lot : Added) (number : ℕ) (letter : Letter) (gross : ℕ) (split : Split) → bought ≡ with_holding position lot.holding → number ≡ lot.number → position_after_note bought (record { number = number; holding = bought.holding }) letter gross split ≡ position_after_note position lot letter gross split
kept-is position bought lot number letter gross split by_lot by_number =
    ap (λ (b : Position). position_after_note b (record { number = number; holding = b.holding }) letter gross split) by_lot
    ∙ ap (λ n. position_after_note (with_holding position lot.holding) (record { number = n; holding = lot.holding }) letter gross split) by_number

abbrev pub kept_in : Known → Day → Order → Letter → ℕ → Split → Position
kept_in known day order letter gross split =
    position_after_note (position_in day order) (lot_bought known day order gross split) letter gross split

pub under-letter : (known : Known) (day : Day) (order : Order) (gross : ℕ) (split : Split) (letter : Letter) (b : Bool) → (position_in day order).letter ≡ Some letter → b ≡ (note_of_purchase letter gross split.price split.mils).reached → day_if_reached b (sheet_at_hand known) (kept_in known day order letter gross split) (day_after_trade (day_without order.account (class_of order.body) day) (kept_in known day order letter gross split) (trade_of_purchase known order gross split)) ≡ day_with_purchase known day order gross split
under-letter known day order gross split letter b is reached =
    let position = position_in day order in
    let sheet = sheet_at_hand known in
    let lot = lot_bought known day order gross split in
    let trade = trade_of_purchase known order gross split in
    let kept = kept_in known day order letter gross split in
    ap (λ d. day_if_reached b sheet kept d)
    (close-back day order.account (class_of order.body) kept trade
    (own-account day.register order.account (class_of order.body)) (own-class day.register order.account (class_of order.body)))
    ∙ ap (λ x. day_if_reached x sheet kept (day_after_trade day kept trade)) reached
    ∙ sym (ap (λ o. day_with_lot sheet day position lot o gross split trade) is)

-- the position of an order after its trade
pub position-kept : (known : Known) (day : Day) (order : Order) (gross : ℕ) (split : Split) (letter : Letter) (trade : Trade) → position_in (day_after_trade (day_without order.account (class_of order.body) day) (kept_in known day order letter gross split) trade) order ≡ kept_in known day order letter gross split
position-kept known day order gross split letter trade =
    let kept = kept_in known day order letter gross split in
    let register = without order.account (class_of order.body) day.register in
    ap (λ a. position_of (put kept register) a (class_of order.body)) (sym (own-account day.register order.account (class_of order.body)))
    ∙ ap (λ c. position_of (put kept register) kept.account c) (sym (own-class day.register order.account (class_of order.body)))
    ∙ found-own kept register

-- the letters after the purchase
stays : (letter : Letter) (gross price mils : ℕ) → IsLetter letter → (note_of_purchase letter gross price mils).reached ≡ false → IsLetter (after_purchase letter gross price mils)
stays letter gross price mils is e = stays-after letter (record { gross = gross; price = price; mils = mils }) is (leb-false letter.amount (letter.bought + gross) e)

within-by : (sheet : Sheet) (day : Day) (position : Position) (lot : Added) (o : Option Letter) (gross : ℕ) (split : Split) (trade : Trade) → AreLettersWithin day.register → IsLetterWithin position.letter → IsLetterWithin o → AreLettersWithin (day_with_lot sheet day position lot o gross split trade).register
within-by sheet day position lot None gross split trade all own within = letters-put (with_holding position lot.holding) day.register all own
within-by sheet day position lot (Some letter) gross split trade all own within =
    let kept = position_after_note position lot letter gross split in
    elim (note_of_purchase letter gross split.price split.mils).reached as (λ b. (note_of_purchase letter gross split.price split.mils).reached ≡ b → AreLettersWithin (day_if_reached b sheet kept (day_after_trade day kept trade)).register) [
      | true ↦ λ e. letters-put-over (record kept { holding = release_all kept.holding; letter = None }) kept day.register refl refl all tt
      | false ↦ λ e. letters-put kept day.register all (stays letter gross split.price split.mils within e)
    ] refl

pub letters-bought : (known : Known) (day : Day) (order : Order) (gross : ℕ) (split : Split) → AreLettersWithin day.register → AreLettersWithin (day_with_purchase known day order gross split).register
letters-bought known day order gross split all =
    let position = position_in day order in
    let own = letter-found day.register order.account (class_of order.body) all in
    within-by (sheet_at_hand known) day position (lot_bought known day order gross split) position.letter gross split (trade_of_purchase known order gross split) all own own

-- the whole purchase, by its split
pub by-split-is : (known : Known) (day : Day) (order : Order) (gross : ℕ) (o : Option Split) (nav rate : ℕ) → o ≡ split_of gross nav rate → nav ≡ nav_of (sheet_at_hand known) (class_of order.body) → rate ≡ rate_known known day order gross → day_at_split (sheet_at_hand known) day (position_in day order) gross o (order_trade (sheet_at_hand known) order TradeKind.Buy) ≡ purchase_known known day order gross
by-split-is known day order gross o nav rate by_split by_nav by_rate =
    let sheet = sheet_at_hand known in
    let position = position_in day order in
    ap (λ x. day_at_split sheet day position gross x (order_trade sheet order TradeKind.Buy))
    (by_split
    ∙ ap (λ n. split_of gross n rate) (by_nav ∙ ap (nav_of sheet) (sym (own-class day.register order.account (class_of order.body))))
    ∙ ap (split_of gross (nav_of sheet position.class)) by_rate)

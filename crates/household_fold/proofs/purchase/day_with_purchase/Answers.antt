-- That `day_with_purchase` keeps its contract.
use Rattle.std.proofs.Common.{None, Some, ap, false, subst, sym, ℕ, ◌<◌, ◌∙◌, ◌≡◌}
use Rattle.register_machine.specs.pricing.OrderClasses.{class_of}
use Rattle.register_machine.specs.replay.Positions.{Position, position_of, with_holding}
use Rattle.register_machine.specs.replay.Purchase.{day_if_reached}
use Rattle.register_machine.specs.replay.Trades.{Day, day_after_trade}
use Rattle.share_lots.specs.Lots.{shares_added}
use Rattle.household_positions.specs.Register.{day_without}
use Rattle.household_fold.specs.Facts.{sheet_at_hand}
use Rattle.household_fold.specs.Limits.{AreLettersWithin, IsLetterWithin}
use Rattle.household_fold.specs.Purchases.{day_with_purchase, lot_bought, position_in, trade_of_purchase}
use Rattle.household_fold.proofs.LetterSteps.{closed-by, place-at, without-at}
use Rattle.household_fold.proofs.PurchaseFacts.{kept-is, kept_in, letters-bought, next-before, plain-is, position-kept, under-letter}
use Rattle.household_fold.proofs.PutFacts.{letter-found}
use Rattle.household_fold.proofs.purchase.day_with_purchase.Goals as goal

pub position_with_lot-requires-clause-next : goal.position_with_lot-requires-clause-next
position_with_lot-requires-clause-next c =
    let P : Position → Type 0 = λ p. p.holding.next_lot < 4294967295 in
    subst P (sym (c.in_ok-position.ensures.position ∙ place-at c.args.day.now.register _ _ _ _ c.number-account.ensures.value c.class_number-class.ensures))
    (next-before c.args.facts.now c.args.day.now c.args.order.now c.args.gross.now c.args.split.now c.requires.lots)

pub position_after_note-requires-clause-letter : goal.position_after_note-requires-clause-letter
position_after_note-requires-clause-letter c =
    subst IsLetterWithin (sym c.letter_of-letter.ensures ∙ c.in-Some.is)
    (letter-found c.register.result.now c.number-account.result c.class_number-class.result (subst AreLettersWithin (sym c.register.ensures) c.requires.letters))

-- without a letter
plain-day : (c : goal.In_ok-close_trade-in-None) → c.close_trade-in-None.new.self ≡ day_with_purchase c.args.facts.now c.args.day.now c.args.order.now c.args.gross.now c.args.split.now
plain-day c =
    let known = c.args.facts.now in
    let day = c.args.day.now in
    let order = c.args.order.now in
    let gross = c.args.gross.now in
    let split = c.args.split.now in
    let account = c.number-account.ensures.value in
    let class = c.class_number-class.ensures in
    let there = c.in_ok-position.ensures.position ∙ place-at day.register _ _ _ _ account class in
    let bought : Position → ℕ → Position = λ p d. with_holding p (shares_added p.holding d split.mils gross false).holding in
    let none : (position_in day order).letter ≡ None =
    (sym (c.letter_of-letter.ensures ∙ ap (λ r. (position_of r c.number-account.result c.class_number-class.result).letter) c.register.ensures
    ∙ ap (λ (p : Position). p.letter) (place-at day.register _ _ _ _ account class)) ∙ c.in-None.is) in
    c.in_ok-close_trade-in-None.ensures
    ∙ closed-by _ (day_without order.account (class_of order.body) day) _ (with_holding (position_in day order) (lot_bought known day order gross split).holding) _ (trade_of_purchase known order gross split)
    (c.take_out.ensures.rest ∙ without-at day _ _ _ _ account class)
    (c.in_ok-bought.ensures.lot ∙ ap (λ p. bought p c.day.result) there ∙ ap (bought (position_in day order)) c.day.ensures)
    c.trade_of_purchase-trade.ensures
    ∙ plain-is known day order gross split none

pub returns-in_ok-close_trade-in-None-clause-day : goal.returns-in_ok-close_trade-in-None-clause-day
returns-in_ok-close_trade-in-None-clause-day c = plain-day c

pub returns-in_ok-close_trade-in-None-clause-within : goal.returns-in_ok-close_trade-in-None-clause-within
returns-in_ok-close_trade-in-None-clause-within c =
    let P : Day → Type 0 = λ d. AreLettersWithin d.register in
    subst P (sym (plain-day c)) (letters-bought c.args.facts.now c.args.day.now c.args.order.now c.args.gross.now c.args.split.now c.requires.letters)

-- under a letter
letter-there : (c : goal.In_ok-day_if_reached-in-Some) → (position_in c.args.day.now c.args.order.now).letter ≡ Some c.in-Some.letter
letter-there c =
    let day = c.args.day.now in
    sym (c.letter_of-letter.ensures ∙ ap (λ r. (position_of r c.number-account.result c.class_number-class.result).letter) c.register.ensures
    ∙ ap (λ (p : Position). p.letter) (place-at day.register _ _ _ _ c.number-account.ensures.value c.class_number-class.ensures)) ∙ c.in-Some.is

noted-day : (c : goal.In_ok-day_if_reached-in-Some) → c.close_trade.new.self ≡ day_after_trade (day_without c.args.order.now.account (class_of c.args.order.now.body) c.args.day.now) (kept_in c.args.facts.now c.args.day.now c.args.order.now c.in-Some.letter c.args.gross.now c.args.split.now) (trade_of_purchase c.args.facts.now c.args.order.now c.args.gross.now c.args.split.now)
noted-day c =
    let known = c.args.facts.now in
    let day = c.args.day.now in
    let order = c.args.order.now in
    let gross = c.args.gross.now in
    let split = c.args.split.now in
    let account = c.number-account.ensures.value in
    let class = c.class_number-class.ensures in
    let there = c.in_ok-position.ensures.position ∙ place-at day.register _ _ _ _ account class in
    let bought : Position → ℕ → Position = λ p d. with_holding p (shares_added p.holding d split.mils gross false).holding in
    let number : Position → ℕ → ℕ = λ p d. (shares_added p.holding d split.mils gross false).number in
    c.in_ok-close_trade-in-Some.ensures
    ∙ closed-by _ (day_without order.account (class_of order.body) day) _ (kept_in known day order c.in-Some.letter gross split) _ (trade_of_purchase known order gross split)
    (c.take_out.ensures.rest ∙ without-at day _ _ _ _ account class)
    (c.in_ok-kept-in-Some.ensures.kept
    ∙ kept-is (position_in day order) c.in_ok-bought.bought (lot_bought known day order gross split) c.in_ok-bought.number c.in-Some.letter gross split
    (c.in_ok-bought.ensures.lot ∙ ap (λ p. bought p c.day.result) there ∙ ap (bought (position_in day order)) c.day.ensures)
    (c.in_ok-bought.ensures.number ∙ ap (λ p. number p c.day.result) there ∙ ap (number (position_in day order)) c.day.ensures))
    c.trade_of_purchase-trade.ensures

noted-is : (c : goal.In_ok-day_if_reached-in-Some) → c.day_if_reached.new.day ≡ day_with_purchase c.args.facts.now c.args.day.now c.args.order.now c.args.gross.now c.args.split.now
noted-is c =
    let known = c.args.facts.now in
    let day = c.args.day.now in
    let order = c.args.order.now in
    let gross = c.args.gross.now in
    let split = c.args.split.now in
    let sheet = sheet_at_hand known in
    let reached = c.in_ok-kept-in-Some.reached in
    let trade = trade_of_purchase known order gross split in
    let closed = day_after_trade (day_without order.account (class_of order.body) day) (kept_in known day order c.in-Some.letter gross split) trade in
    c.in_ok-day_if_reached-in-Some.ensures
    ∙ ap (λ d. day_if_reached reached sheet (position_in d order) d) (noted-day c)
    ∙ ap (λ p. day_if_reached reached sheet p closed) (position-kept known day order gross split c.in-Some.letter trade)
    ∙ under-letter known day order gross split c.in-Some.letter reached (letter-there c) c.in_ok-kept-in-Some.ensures.reached

pub returns-in_ok-day_if_reached-in-Some-clause-day : goal.returns-in_ok-day_if_reached-in-Some-clause-day
returns-in_ok-day_if_reached-in-Some-clause-day c = noted-is c

pub returns-in_ok-day_if_reached-in-Some-clause-within : goal.returns-in_ok-day_if_reached-in-Some-clause-within
returns-in_ok-day_if_reached-in-Some-clause-within c =
    let P : Day → Type 0 = λ d. AreLettersWithin d.register in
    subst P (sym (noted-is c)) (letters-bought c.args.facts.now c.args.day.now c.args.order.now c.args.gross.now c.args.split.now c.requires.letters)

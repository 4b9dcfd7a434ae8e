-- That `after_sheet` keeps its contract.
use Rattle.std.proofs.Common.{ap, subst, sym, ◌∙◌, ◌≡◌}
use Rattle.household_fold.proofs.OrdersInTurn.{orders-owned}
use Rattle.household_fold.proofs.SheetSteps.{dividends-letters, dividends-owned, ends-owned, numbers-after_dividends, step-parts}
use Rattle.household_fold.specs.Dividends.{dividends_known}
use Rattle.household_fold.specs.Facts.{book_of_facts, sheet_at_hand}
use Rattle.household_fold.specs.Households.{AreOwned, first_of, orders_known}
use Rattle.household_fold.specs.Limits.{AreLettersWithin}
use Rattle.household_fold.specs.Numbers.{AreNumbersWithin}
use Rattle.register_machine.specs.replay.Letter.{day_after_letter_ends}
use Rattle.register_machine.specs.replay.Positions.{Register}
use Rattle.register_machine.specs.replay.Trades.{Day}
use Rattle.household_fold.proofs.state.after_sheet.Goals as goal

pub day_after_dividends-requires-clause-lots : goal.day_after_dividends-requires-clause-lots
day_after_dividends-requires-clause-lots c =
    let known = c.args.facts.now in
    let orders = c.args.orders.now in
    let P : Day → Type 0 = λ d. AreNumbersWithin d.register in
    let Q : Day → Type 0 = λ d. AreNumbersWithin (dividends_known known d).register in
    subst Q (sym c.begin-day.ensures)
    (numbers-after_dividends known orders (dividends_known known (first_of c.args.register)) (subst P (step-parts known orders c.args.register) c.requires.lots))

pub day_after_letter_ends-requires-clause-letters : goal.day_after_letter_ends-requires-clause-letters
day_after_letter_ends-requires-clause-letters c =
    let known = c.args.facts.now in
    let paid : c.day_after_dividends.new.day ≡ dividends_known known (first_of c.args.register) = c.in_ok-day_after_dividends.ensures ∙ ap (dividends_known known) c.begin-day.ensures in
    let P : Day → Type 0 = λ d. AreLettersWithin d.register in
    subst P (sym paid) (dividends-letters (book_of_facts known) (sheet_at_hand known) (first_of c.args.register) c.requires.letters)

pub follow_orders-requires-clause-owned : goal.follow_orders-requires-clause-owned
follow_orders-requires-clause-owned c =
    let known = c.args.facts.now in
    let household = c.args.household in
    let first = first_of c.args.register in
    let paid : c.day_after_dividends.new.day ≡ dividends_known known first = c.in_ok-day_after_dividends.ensures ∙ ap (dividends_known known) c.begin-day.ensures in
    let ended = c.in_ok-day_after_letter_ends.ensures.day ∙ ap (day_after_letter_ends (book_of_facts known) (sheet_at_hand known)) paid in
    let P : Day → Type 0 = λ d. AreOwned known household d.register in
    subst P (sym ended)
    (ends-owned known household (book_of_facts known) (sheet_at_hand known) (dividends_known known first)
    (dividends-owned known household (book_of_facts known) (sheet_at_hand known) first c.requires.owned))

pub follow_orders-requires-clause-lots : goal.follow_orders-requires-clause-lots
follow_orders-requires-clause-lots c =
    let known = c.args.facts.now in
    let orders = c.args.orders.now in
    let first = first_of c.args.register in
    let paid : c.day_after_dividends.new.day ≡ dividends_known known first = c.in_ok-day_after_dividends.ensures ∙ ap (dividends_known known) c.begin-day.ensures in
    let ended = c.in_ok-day_after_letter_ends.ensures.day ∙ ap (day_after_letter_ends (book_of_facts known) (sheet_at_hand known)) paid in
    let P : Day → Type 0 = λ d. AreNumbersWithin d.register in
    let Q : Day → Type 0 = λ d. AreNumbersWithin (orders_known known orders d).register in
    subst Q (sym ended) (subst P (step-parts known orders c.args.register) c.requires.lots)

pub returns-clause-register : goal.returns-clause-register
returns-clause-register c =
    let known = c.args.facts.now in
    let orders = c.args.orders.now in
    let first = first_of c.args.register in
    let paid : c.day_after_dividends.new.day ≡ dividends_known known first = c.in_ok-day_after_dividends.ensures ∙ ap (dividends_known known) c.begin-day.ensures in
    let ended = c.in_ok-day_after_letter_ends.ensures.day ∙ ap (day_after_letter_ends (book_of_facts known) (sheet_at_hand known)) paid in
    let done = c.in_ok-follow_orders.ensures.day ∙ (ap (orders_known known orders) ended ∙ sym (step-parts known orders c.args.register)) in
    c.into_parts.ensures.register ∙ ap (λ (d : Day). d.register) done

pub returns-clause-trades : goal.returns-clause-trades
returns-clause-trades c =
    let known = c.args.facts.now in
    let orders = c.args.orders.now in
    let first = first_of c.args.register in
    let paid : c.day_after_dividends.new.day ≡ dividends_known known first = c.in_ok-day_after_dividends.ensures ∙ ap (dividends_known known) c.begin-day.ensures in
    let ended = c.in_ok-day_after_letter_ends.ensures.day ∙ ap (day_after_letter_ends (book_of_facts known) (sheet_at_hand known)) paid in
    let done = c.in_ok-follow_orders.ensures.day ∙ (ap (orders_known known orders) ended ∙ sym (step-parts known orders c.args.register)) in
    c.into_parts.ensures.trades ∙ ap (λ (d : Day). d.trades) done

pub returns-clause-owned : goal.returns-clause-owned
returns-clause-owned c =
    let known = c.args.facts.now in
    let household = c.args.household in
    let orders = c.args.orders.now in
    let first = first_of c.args.register in
    let paid : c.day_after_dividends.new.day ≡ dividends_known known first = c.in_ok-day_after_dividends.ensures ∙ ap (dividends_known known) c.begin-day.ensures in
    let ended = c.in_ok-day_after_letter_ends.ensures.day ∙ ap (day_after_letter_ends (book_of_facts known) (sheet_at_hand known)) paid in
    let done = c.in_ok-follow_orders.ensures.day ∙ ap (orders_known known orders) ended in
    let P : Day → Type 0 = λ d. AreOwned known household d.register in
    let Q : Register → Type 0 = λ r. AreOwned known household r in
    subst Q (sym c.into_parts.ensures.register)
    (subst P (sym done)
    (orders-owned known household orders (day_after_letter_ends (book_of_facts known) (sheet_at_hand known) (dividends_known known first)) c.requires.facts c.requires.orders
    (ends-owned known household (book_of_facts known) (sheet_at_hand known) (dividends_known known first)
    (dividends-owned known household (book_of_facts known) (sheet_at_hand known) first c.requires.owned))))

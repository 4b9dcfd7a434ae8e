-- That `rate_of_purchase` keeps its contract.
use Rattle.std.proofs.Common.{ap, refl, ◌+◌, ◌∙◌, ◌≡◌}
use Rattle.offering_price.specs.Accumulation.{bracket}
use Rattle.register_machine.specs.pricing.CorrectedBook.{front_of}
use Rattle.register_machine.specs.pricing.OrderClasses.{class_of}
use Rattle.register_machine.specs.replay.Purchase.{amount_rated, credit_of}
use Rattle.household_fold.specs.Facts.{book_of_facts, sheet_at_hand}
use Rattle.household_fold.specs.Purchases.{position_in}
use Rattle.household_fold.proofs.PurchaseFacts.{rate-is}
use Rattle.household_fold.proofs.purchase.rate_of_purchase.Goals as goal

pub returns-clause-rate : goal.returns-clause-rate
returns-clause-rate c =
    let book = book_of_facts c.args.facts.now in
    let sheet = sheet_at_hand c.args.facts.now in
    let day = c.args.day.now in
    let order = c.args.order.now in
    let front : c.terms_of-terms.result.now.front ≡ front_of book (class_of order.body) = cc in
    let letter : c.letter_of-letter.result ≡ (position_in day order).letter = cc in
    let credit : c.credit_of-credit.result ≡ credit_of book sheet day.register order.account = cc in
    let e = rate-is c.args.facts.now day order c.args.gross.now c.terms_of-terms.result.now.front c.letter_of-letter.result c.credit_of-credit.result front letter credit in
    let amount : c.amount_rated.result ≡ amount_rated c.letter_of-letter.result (c.args.gross.now + c.credit_of-credit.result) = cc in
    c.bracket-2.ensures.rate ∙ ap (bracket c.terms_of-terms.result.now.front) amount ∙ e

-- where all amounts have one rate
pub returns-then-has_one_rate-clause-rate : goal.returns-then-has_one_rate-clause-rate
returns-then-has_one_rate-clause-rate c =
    let book = book_of_facts c.args.facts.now in
    let sheet = sheet_at_hand c.args.facts.now in
    let day = c.args.day.now in
    let order = c.args.order.now in
    let gross = c.args.gross.now in
    let letter = (position_in day order).letter in
    let credit = credit_of book sheet day.register order.account in
    let front : c.terms_of-terms.result.now.front ≡ front_of book (class_of order.body) = cc in
    let one = c.has_one_rate.ensures c.if-has_one_rate.true gross (amount_rated letter (gross + credit)) in
    let e = rate-is c.args.facts.now day order gross c.terms_of-terms.result.now.front letter credit front refl refl in
    cc

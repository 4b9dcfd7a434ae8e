-- That `day_with_letter` keeps its contract.
use Rattle.std.proofs.Common.{ap, arith, subst, sym, ◌∙◌, ◌≡◌, ◌≤◌, ℕ}
use Rattle.agent_events.specs.declared.trade.Trade.{Trade}
use Rattle.agent_events.specs.declared.trade.TradeKind.{TradeKind}
use Rattle.letter_of_intent.specs.Letters.{new_letter}
use Rattle.register_machine.specs.pricing.CorrectedBook.{front_of}
use Rattle.register_machine.specs.pricing.OrderClasses.{class_of}
use Rattle.register_machine.specs.replay.Purchase.{credit_of}
use Rattle.register_machine.specs.replay.Trades.{Day, order_trade}
use Rattle.household_fold.specs.Facts.{book_of_facts, sheet_at_hand}
use Rattle.household_fold.specs.Limits.{AreLettersWithin}
use Rattle.household_fold.specs.Purchases.{day_with_letter}
use Rattle.household_fold.proofs.LetterSteps.{begun-is, begun-within, place-at, with_letter, without-at}
use Rattle.household_fold.proofs.letters.day_with_letter.Goals as goal

begins-is : (c : goal.In_ok-close_trade) → c.begin-letter.result ≡ new_letter c.args.amount.now (sheet_at_hand c.args.facts.now).day (credit_of (book_of_facts c.args.facts.now) (sheet_at_hand c.args.facts.now) c.args.day.now.register c.args.order.now.account) (front_of (book_of_facts c.args.facts.now) (class_of c.args.order.now.body))
begins-is c =
    let book = book_of_facts c.args.facts.now in
    let sheet = sheet_at_hand c.args.facts.now in
    let register = c.args.day.now.register in
    let order = c.args.order.now in
    let start = c.credit_of-start.result in
    let rows = c.terms_of.result.now.front in
    let credit : start ≡ credit_of book sheet register order.account =
    (c.credit_of-start.ensures.value
    ∙ ap (λ r. credit_of book sheet r c.number-account.result) (c.positions.ensures.positions ∙ c.register.ensures)
    ∙ ap (λ a. credit_of book sheet register a) c.number-account.ensures.value) in
    let front : rows ≡ front_of book (class_of order.body) = c.terms_of.ensures.front ∙ ap (front_of book) c.class_number-class.ensures in
    c.begin-letter.ensures.letter
    ∙ ap (λ n. new_letter n c.day.result start rows) c.cents.ensures.value
    ∙ ap (λ d. new_letter c.args.amount.now d start rows) c.day.ensures
    ∙ ap (λ s. new_letter c.args.amount.now sheet.day s rows) credit
    ∙ ap (λ f. new_letter c.args.amount.now sheet.day (credit_of book sheet register order.account) f) front

day-is : (c : goal.In_ok-close_trade) → c.close_trade.new.self ≡ day_with_letter c.args.facts.now c.args.day.now c.args.order.now c.args.amount.now
day-is c =
    let sheet = sheet_at_hand c.args.facts.now in
    let day = c.args.day.now in
    let order = c.args.order.now in
    let account = c.number-account.ensures.value in
    let class = c.class_number-class.ensures in
    let letter = c.begin-letter.result in
    let cash : ℕ → Trade → Trade = λ n t. record t { cash = n } in
    c.in_ok-close_trade.ensures
    ∙ begun-is c.args.facts.now day order c.args.amount.now letter c.take_out.new.self _ _
    (c.take_out.ensures.rest ∙ without-at day _ _ _ _ account class)
    (ap (with_letter letter) (c.position.view_is ∙ c.in_ok-position.ensures.position ∙ place-at day.register _ _ _ _ account class))
    (begins-is c)
    (ap (cash c.cents-2.result) c.order_trade-trade.ensures ∙ ap (λ n. cash n (order_trade sheet order TradeKind.Letter)) c.cents-2.ensures.value)

pub returns-clause-day : goal.returns-clause-day
returns-clause-day c = day-is c

pub returns-clause-within : goal.returns-clause-within
returns-clause-within c =
    let P : Day → Type 0 = λ d. AreLettersWithin d.register in
    let most : c.credit_of-start.result ≤ 1000000000000000000000 = omega (arith, c.credit_of-start.ensures.most) in
    subst P (sym (day-is c))
    (begun-within c.args.facts.now c.args.day.now c.args.order.now c.args.amount.now c.begin-letter.result c.requires.letters (begins-is c)
    (c.begin-letter.ensures.limits c.cents.ensures.least c.cents.ensures.most most))

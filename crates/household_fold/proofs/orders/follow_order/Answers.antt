-- That `follow_order` keeps its contract.
use Rattle.std.proofs.Common.{ap, subst, sym, ◌∙◌}
use Rattle.agent_events.specs.declared.order.Body.{Body}
use Rattle.household_fold.proofs.LettersStay.{elected-letters, exchange-letters, sold-for-letters, sold-letters}
use Rattle.household_fold.proofs.LotNumbers.{numbers-within}
use Rattle.household_fold.specs.Facts.{book_of_facts, sheet_at_hand}
use Rattle.household_fold.specs.Households.{IsTargetListed}
use Rattle.household_fold.specs.Limits.{AreLettersWithin, AreLotsWithin}
use Rattle.register_machine.specs.replay.DayStep.{day_after_body}
use Rattle.register_machine.specs.replay.Redemption.{loose_of}
use Rattle.register_machine.specs.replay.Trades.{Day}
use Rattle.household_fold.proofs.orders.follow_order.Goals as goal

pub day_after_purchase-requires-clause-lots : goal.day_after_purchase-requires-clause-lots
day_after_purchase-requires-clause-lots c =
    let P : Body → Type 0 = λ b. AreLotsWithin (day_after_body (book_of_facts c.args.facts.now) (sheet_at_hand c.args.facts.now) c.args.day.now c.args.order.now b).register in
    subst P c.in-Buy.is c.requires.lots

pub exchange-requires-clause-target : goal.exchange-requires-clause-target
exchange-requires-clause-target c =
    let P : Body → Type 0 = λ b. IsTargetListed c.args.facts.now b in
    rw c.number.ensures.value (subst P c.in-Exchange.is c.requires.target)

pub exchange-requires-clause-lots : goal.exchange-requires-clause-lots
exchange-requires-clause-lots c =
    let P : Body → Type 0 = λ b. AreLotsWithin (day_after_body (book_of_facts c.args.facts.now) (sheet_at_hand c.args.facts.now) c.args.day.now c.args.order.now b).register in
    rw (c.number.ensures.value, c.mils-in-Exchange.ensures.value) (numbers-within _ (subst P c.in-Exchange.is c.requires.lots))

pub exchange_all-requires-clause-target : goal.exchange_all-requires-clause-target
exchange_all-requires-clause-target c =
    let P : Body → Type 0 = λ b. IsTargetListed c.args.facts.now b in
    rw c.number-in-ExchangeAll.ensures.value (subst P c.in-ExchangeAll.is c.requires.target)

pub exchange_all-requires-clause-lots : goal.exchange_all-requires-clause-lots
exchange_all-requires-clause-lots c =
    let P : Body → Type 0 = λ b. AreLotsWithin (day_after_body (book_of_facts c.args.facts.now) (sheet_at_hand c.args.facts.now) c.args.day.now c.args.order.now b).register in
    rw c.number-in-ExchangeAll.ensures.value (numbers-within _ (subst P c.in-ExchangeAll.is c.requires.lots))

pub returns-in_ok-redeem-in-Sell-clause-letters : goal.returns-in_ok-redeem-in-Sell-clause-letters
returns-in_ok-redeem-in-Sell-clause-letters c =
    let known = c.args.facts.now in
    let P : Day → Type 0 = λ d. AreLettersWithin d.register in
    subst P (sym c.in_ok-redeem-in-Sell.ensures) (sold-letters (book_of_facts known) (sheet_at_hand known) c.args.day.now c.args.order.now c.mils.result c.requires.letters)

pub returns-in_ok-redeem_for-in-SellCash-clause-letters : goal.returns-in_ok-redeem_for-in-SellCash-clause-letters
returns-in_ok-redeem_for-in-SellCash-clause-letters c =
    let known = c.args.facts.now in
    let P : Day → Type 0 = λ d. AreLettersWithin d.register in
    subst P (sym c.in_ok-redeem_for-in-SellCash.ensures) (sold-for-letters (book_of_facts known) (sheet_at_hand known) c.args.day.now c.args.order.now c.in-SellCash.amount c.requires.letters)

pub returns-in_ok-redeem_all-in-SellAll-clause-letters : goal.returns-in_ok-redeem_all-in-SellAll-clause-letters
returns-in_ok-redeem_all-in-SellAll-clause-letters c =
    let known = c.args.facts.now in
    let P : Day → Type 0 = λ d. AreLettersWithin d.register in
    subst P (sym c.in_ok-redeem_all-in-SellAll.ensures) (sold-letters (book_of_facts known) (sheet_at_hand known) c.args.day.now c.args.order.now (loose_of c.args.day.now c.args.order.now) c.requires.letters)

pub returns-in_ok-exchange-in-Exchange-clause-letters : goal.returns-in_ok-exchange-in-Exchange-clause-letters
returns-in_ok-exchange-in-Exchange-clause-letters c =
    let known = c.args.facts.now in
    let P : Day → Type 0 = λ d. AreLettersWithin d.register in
    subst P (sym c.in_ok-exchange-in-Exchange.ensures) (exchange-letters (sheet_at_hand known) c.args.day.now c.args.order.now c.number.result c.mils-in-Exchange.result c.requires.letters)

pub returns-in_ok-exchange_all-in-ExchangeAll-clause-letters : goal.returns-in_ok-exchange_all-in-ExchangeAll-clause-letters
returns-in_ok-exchange_all-in-ExchangeAll-clause-letters c =
    let known = c.args.facts.now in
    let P : Day → Type 0 = λ d. AreLettersWithin d.register in
    subst P (sym c.in_ok-exchange_all-in-ExchangeAll.ensures) (exchange-letters (sheet_at_hand known) c.args.day.now c.args.order.now c.number-in-ExchangeAll.result (loose_of c.args.day.now c.args.order.now) c.requires.letters)

pub returns-in_ok-elect-in-Elect-clause-letters : goal.returns-in_ok-elect-in-Elect-clause-letters
returns-in_ok-elect-in-Elect-clause-letters c =
    let known = c.args.facts.now in
    let P : Day → Type 0 = λ d. AreLettersWithin d.register in
    subst P (sym c.in_ok-elect-in-Elect.ensures) (elected-letters (sheet_at_hand known) c.args.day.now c.args.order.now c.in-Elect.in_cash c.requires.letters)

pub returns-in_ok-day_after_letter-in-Letter-clause-day : goal.returns-in_ok-day_after_letter-in-Letter-clause-day
returns-in_ok-day_after_letter-in-Letter-clause-day c =
    let body_is = λ (b : Body). day_after_body (book_of_facts c.args.facts.now) (sheet_at_hand c.args.facts.now) c.args.day.now c.args.order.now b in
    c.in_ok-day_after_letter-in-Letter.ensures.day ∙ ap body_is (sym c.in-Letter.is)

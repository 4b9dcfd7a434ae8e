-- That `redeem_for` keeps its contract.
use Rattle.std.proofs.Common.{ap, ◌*◌, ◌∙◌, ◌≡◌}
use Rattle.agent_events.specs.declared.trade.Outcome.{Outcome}
use Rattle.agent_events.specs.declared.trade.Trade.{Trade}
use Rattle.agent_events.specs.declared.trade.Why.{Why}
use Rattle.money_units.specs.Rounding.{half}
use Rattle.register_machine.specs.pricing.OrderClasses.{class_of}
use Rattle.register_machine.specs.replay.Trades.{nav_of, with_trade}
use Rattle.household_fold.specs.Facts.{book_of_facts, sheet_at_hand}
use Rattle.household_fold.proofs.RedemptionFacts.{by-amount-is, too-small-is}
use Rattle.household_fold.proofs.redemption.redeem_for.Goals as goal

pub returns-in_ok-add_unfilled : goal.returns-in_ok-add_unfilled
returns-in_ok-add_unfilled c =
    let sheet = sheet_at_hand c.args.facts.now in
    let order = c.args.order.now in
    let asked : c.mils_for-asked.result ≡ half (1000 * c.args.amount.now) (nav_of sheet (class_of order.body)) =
    c.mils_for-asked.ensures ∙ ap (λ k. half (1000 * c.args.amount.now) (nav_of sheet k)) c.class_number.ensures in
    c.in_ok-add_unfilled.ensures
    ∙ (ap (λ (t : Trade). with_trade c.args.day.now (record t { outcome = Outcome.Unfilled Why.TooSmall })) c.order_trade.ensures
    ∙ too-small-is (book_of_facts c.args.facts.now) sheet c.args.day.now order c.args.amount.now c.mils_for-asked.result asked c.if-asked-eq0.true)

pub returns-in_ok-redeem : goal.returns-in_ok-redeem
returns-in_ok-redeem c =
    let sheet = sheet_at_hand c.args.facts.now in
    let order = c.args.order.now in
    let asked : c.mils_for-asked.result ≡ half (1000 * c.args.amount.now) (nav_of sheet (class_of order.body)) =
    c.mils_for-asked.ensures ∙ ap (λ k. half (1000 * c.args.amount.now) (nav_of sheet k)) c.class_number.ensures in
    c.in_ok-redeem.ensures
    ∙ by-amount-is (book_of_facts c.args.facts.now) sheet c.args.day.now order c.args.amount.now c.mils_for-asked.result asked c.if-asked-eq0.false

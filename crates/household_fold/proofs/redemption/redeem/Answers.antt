-- That `redeem` keeps its contract.
use Rattle.std.proofs.Common.{None, ap, ◌∙◌, ◌≡◌}
use Rattle.agent_events.specs.declared.trade.Trade.{Trade}
use Rattle.register_machine.specs.pricing.OrderClasses.{class_of}
use Rattle.register_machine.specs.replay.Positions.{position_of}
use Rattle.register_machine.specs.replay.Redemption.{day_after_sale, short_of}
use Rattle.household_fold.specs.Facts.{book_of_facts, sheet_at_hand}
use Rattle.household_fold.proofs.RedemptionFacts.{sold-is}
use Rattle.household_fold.proofs.redemption.redeem.Goals as goal

pub returns-in_ok-sell-in-None : goal.returns-in_ok-sell-in-None
returns-in_ok-sell-in-None c =
    let sheet = sheet_at_hand c.args.facts.now in
    let book = book_of_facts c.args.facts.now in
    let day = c.args.day.now in
    let order = c.args.order.now in
    let none : None ≡ short_of (position_of day.register order.account (class_of order.body)).holding c.args.asked =
    c.in-None.ensures
    ∙ (ap (λ n. short_of (position_of day.register n c.class_number.result).holding c.args.asked) c.number.ensures.value
    ∙ ap (λ k. short_of (position_of day.register order.account k).holding c.args.asked) c.class_number.ensures) in
    c.in_ok-sell-in-None.ensures
    ∙ (ap (λ (t : Trade). day_after_sale book sheet day (position_of day.register t.account t.class) c.args.asked t) c.order_trade-trade.ensures
    ∙ sold-is book sheet day order c.args.asked none)

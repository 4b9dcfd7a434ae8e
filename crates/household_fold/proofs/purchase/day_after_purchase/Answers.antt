-- That `day_after_purchase` keeps its contract.
use Rattle.std.proofs.Common.{None, Some, ap, subst, sym, ◌∙◌}
use Rattle.agent_events.specs.declared.trade.Outcome.{Outcome}
use Rattle.agent_events.specs.declared.trade.Trade.{Trade}
use Rattle.agent_events.specs.declared.trade.Why.{Why}
use Rattle.offering_price.specs.Purchase.{split_of}
use Rattle.register_machine.specs.replay.Trades.{Day, nav_of, with_trade}
use Rattle.household_fold.specs.Facts.{sheet_at_hand}
use Rattle.household_fold.specs.Limits.{AreLotsWithin}
use Rattle.household_fold.proofs.PurchaseFacts.{by-split-is}
use Rattle.household_fold.proofs.purchase.day_after_purchase.Goals as goal

pub day_by_split-requires-clause-lots : goal.day_by_split-requires-clause-lots
day_by_split-requires-clause-lots c =
    let sheet = sheet_at_hand c.args.facts.now in
    let P : Day → Type 0 = λ d. AreLotsWithin d.register in
    subst P
    (sym (by-split-is c.args.facts.now c.args.day.now c.args.order.now c.args.gross.now (Some c.in-Some.split) c.nav-nav.result c.rate_of_purchase-rate.result
    (sym c.in-Some.is ∙ c.buy_split.ensures.split ∙ ap (λ g. split_of g c.nav-nav.result c.rate_of_purchase-rate.result) c.cents.ensures.value)
    (c.nav-nav.ensures ∙ ap (nav_of sheet) c.class_number.ensures) c.rate_of_purchase-rate.ensures.rate))
    c.requires.lots

pub returns-in_ok-day_by_split-in-Some-clause-day : goal.returns-in_ok-day_by_split-in-Some-clause-day
returns-in_ok-day_by_split-in-Some-clause-day c =
    let sheet = sheet_at_hand c.args.facts.now in
    c.in_ok-day_by_split-in-Some.ensures.day
    ∙ by-split-is c.args.facts.now c.args.day.now c.args.order.now c.args.gross.now (Some c.in-Some.split) c.nav-nav.result c.rate_of_purchase-rate.result
    (sym c.in-Some.is ∙ c.buy_split.ensures.split ∙ ap (λ g. split_of g c.nav-nav.result c.rate_of_purchase-rate.result) c.cents.ensures.value)
    (c.nav-nav.ensures ∙ ap (nav_of sheet) c.class_number.ensures) c.rate_of_purchase-rate.ensures.rate

pub returns-in_ok-add_unfilled-in-None-clause-day : goal.returns-in_ok-add_unfilled-in-None-clause-day
returns-in_ok-add_unfilled-in-None-clause-day c =
    let sheet = sheet_at_hand c.args.facts.now in
    c.in_ok-add_unfilled-in-None.ensures
    ∙ ap (λ (t : Trade). with_trade c.args.day.now (record t { outcome = Outcome.Unfilled Why.TooSmall })) c.order_trade.ensures
    ∙ by-split-is c.args.facts.now c.args.day.now c.args.order.now c.args.gross.now None c.nav-nav.result c.rate_of_purchase-rate.result
    (sym c.in-None.is ∙ c.buy_split.ensures.split ∙ ap (λ g. split_of g c.nav-nav.result c.rate_of_purchase-rate.result) c.cents.ensures.value)
    (c.nav-nav.ensures ∙ ap (nav_of sheet) c.class_number.ensures) c.rate_of_purchase-rate.ensures.rate

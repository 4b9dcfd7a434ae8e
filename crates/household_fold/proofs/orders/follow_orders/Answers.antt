-- That `follow_orders` keeps its contract.
use Rattle.std.proofs.Common.{ap, subst, sym, take, ◌∙◌}
use Rattle.agent_events.specs.declared.order.Order.{Order}
use Rattle.household_fold.proofs.FewPositions.{few-owned}
use Rattle.household_fold.proofs.OrdersInTurn.{lots-after, orders-more, owned-after, register-after}
use Rattle.household_fold.specs.Households.{AreOwned, IsOrderOf, order_known, orders_known}
use Rattle.household_fold.specs.Limits.{AreLotsWithin}
use Rattle.household_positions.specs.Register.{IsRegister}
use Rattle.register_machine.specs.replay.Trades.{Day}
use Rattle.household_fold.proofs.orders.follow_orders.Goals as goal

pub follow_order-requires-clause-few : goal.follow_order-requires-clause-few
follow_order-requires-clause-few c = few-owned c.args.facts.now c.args.household c.loop-order.day.register c.requires.facts c.loop-order.invariant.register c.loop-order.invariant.owned

pub follow_order-requires-clause-lots : goal.follow_order-requires-clause-lots
follow_order-requires-clause-lots c =
    let known = c.args.facts.now in
    let item = c.order-item.result in
    let P : Order → Type 0 = λ o. AreLotsWithin (order_known known c.loop-order.day o).register in
    subst P (sym c.order-item.is)
    (lots-after known c.args.orders.now c.loop-order.order-index item c.args.day.now c.loop-order.day c.loop-order-test.true c.loop-order.invariant.day c.loop-order.invariant.register c.requires.lots)

pub loop-order-preserved : goal.loop-order-preserved
loop-order-preserved c =
    let known = c.args.facts.now in
    let household = c.args.household in
    let orders = c.args.orders.now in
    let start = c.args.day.now in
    let i = c.loop-order.order-index in
    let item = c.order-item.result in
    let day = c.loop-order.day in
    let after_is = c.in_ok-follow_order.ensures.day in
    let O : Order → Type 0 = λ o. IsOrderOf known household o in
    let own : IsOrderOf known household item = subst O (sym c.order-item.is) (c.requires.orders i item c.loop-order-test.true) in
    let P : Day → Type 0 = λ d. AreOwned known household d.register in
    let Q : Day → Type 0 = λ d. IsRegister d.register in
    record {
      day =
          after_is
          ∙ (ap (λ (d : Day). order_known known d item) c.loop-order.invariant.day
          ∙ (ap (λ (o : Order). order_known known (orders_known known (take i orders) start) o) c.order-item.is
          ∙ sym (orders-more known orders i item start c.loop-order-test.true)));
      letters = c.in_ok-follow_order.ensures.letters;
      owned = subst P (sym after_is) (owned-after known household day item c.requires.facts own c.loop-order.invariant.owned);
      register = subst Q (sym after_is) (register-after known day item c.loop-order.invariant.register);
    }

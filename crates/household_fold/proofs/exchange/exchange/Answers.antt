-- That `exchange` keeps its contract.
use Rattle.std.proofs.Common.{ap, subst, sym, ◌∙◌}
use Rattle.register_machine.specs.pricing.OrderClasses.{class_of}
use Rattle.register_machine.specs.replay.Positions.{Register}
use Rattle.register_machine.specs.replay.Trades.{Day}
use Rattle.household_fold.specs.Exchanges.{moved_known}
use Rattle.household_fold.specs.Numbers.{AreNumbersWithin}
use Rattle.household_fold.specs.declared.exchange.Move.{Move}
use Rattle.household_fold.proofs.ExchangeFacts.{move-by, order-move}
use Rattle.household_fold.proofs.exchange.exchange.Goals as goal

pub day_by_move-requires-clause-lots : goal.day_by_move-requires-clause-lots
day_by_move-requires-clause-lots c =
    let known = c.args.facts.now in
    let day = c.args.day.now in
    let order = c.args.order.now in
    let move : Move = record { account = c.number.result; class = c.class_number.result; to = c.args.to; asked = c.args.asked } in
    let moved = c.in_ok-moved.ensures.moved ∙ ap (λ (register : Register). moved_known known register move) c.register.ensures in
    let same = order-move known day order c.args.to c.args.asked move c.order_trade-trade.result c.in_ok-moved.moved
    (move-by c.number.result order.account c.class_number.result (class_of order.body) c.args.to c.args.asked c.number.ensures.value c.class_number.ensures)
    c.order_trade-trade.ensures moved in
    subst (λ (d : Day). AreNumbersWithin d.register) (sym same) c.requires.lots

pub returns : goal.returns
returns c =
    let known = c.args.facts.now in
    let day = c.args.day.now in
    let order = c.args.order.now in
    let move : Move = record { account = c.number.result; class = c.class_number.result; to = c.args.to; asked = c.args.asked } in
    let moved = c.in_ok-moved.ensures.moved ∙ ap (λ (register : Register). moved_known known register move) c.register.ensures in
    c.in_ok-day_by_move.ensures
    ∙ order-move known day order c.args.to c.args.asked move c.order_trade-trade.result c.in_ok-moved.moved
    (move-by c.number.result order.account c.class_number.result (class_of order.body) c.args.to c.args.asked c.number.ensures.value c.class_number.ensures)
    c.order_trade-trade.ensures moved

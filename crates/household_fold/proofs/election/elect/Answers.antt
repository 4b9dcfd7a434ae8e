-- That `elect` keeps its contract.
use Rattle.std.proofs.Common.{ap, refl, ◌∙◌}
use Rattle.register_machine.specs.pricing.OrderClasses.{class_of}
use Rattle.register_machine.specs.replay.Positions.{Position}
use Rattle.register_machine.specs.replay.Trades.{order_trade}
use Rattle.household_fold.specs.Facts.{sheet_at_hand}
use Rattle.household_positions.proofs.DayFacts.{closed-at}
use Rattle.household_fold.proofs.election.elect.Goals as goal

pub returns : goal.returns
returns c =
    let order = c.args.order.now in
    let f = λ (y : Position). record y { in_cash = c.args.in_cash } in
    c.in_ok-close_trade.ensures
    ∙ closed-at c.args.day.now c.take_out.new.self c.number.result c.class_number.result order.account (class_of order.body) f _ c.in_ok-position.position _ _
    c.number.ensures.value c.class_number.ensures c.take_out.ensures.rest c.in_ok-position.ensures.position
    (ap f c.position.view_is) (λ y. refl) (λ y. refl)
    (c.order_trade-trade.ensures ∙ ap (order_trade (sheet_at_hand c.args.facts.now) order) c.kind_of.ensures)

-- That `hold_back` keeps its contract.
use Rattle.std.proofs.Common.{◌<◌, length, ◌∙◌, ap, sym, arith}
use Rattle.fund_calendar.proofs.ListFacts.{mapped-all, mapped-more, rest-set, same_rest}
use Rattle.share_lots.specs.declared.lot.Lot.{Lot}
use Rattle.share_lots.specs.Lots.{hold_in}
use Rattle.share_lots.proofs.escrow.hold_back.Goals as goal

pub held_lot-requires-clause-lot : goal.held_lot-requires-clause-lot
held_lot-requires-clause-lot c =
    let short : c.loop-lot.lot-index < length c.loop-lot.lots = omega arith in
    let same = same_rest c.loop-lot.lots c.args.lots.now c.loop-lot.lot-index c.lot-item.result short c.loop-lot-test.true c.loop-lot.invariant.rest in
    rw same.0 (c.requires.lots c.loop-lot.lot-index c.lot-item.result c.loop-lot-test.true)

pub held_lot-requires-clause-has : goal.held_lot-requires-clause-has
held_lot-requires-clause-has c =
    let short : c.loop-lot.lot-index < length c.loop-lot.lots = omega arith in
    let same = same_rest c.loop-lot.lots c.args.lots.now c.loop-lot.lot-index c.lot-item.result short c.loop-lot-test.true c.loop-lot.invariant.rest in
    rw same.0 (c.requires.has c.loop-lot.lot-index c.lot-item.result c.loop-lot-test.true)

pub loop-lot-preserved : goal.loop-lot-preserved
loop-lot-preserved c =
    let short : c.loop-lot.lot-index < length c.loop-lot.lots = omega arith in
    let one = c.held_lot.ensures ∙ ap (λ (l : Lot). hold_in c.args.number c.args.quantity l) (sym c.lot-item.is) in
    record {
      done = mapped-more (hold_in c.args.number c.args.quantity) c.args.lots.now c.loop-lot.lots c.loop-lot.lot-index c.lot-item.result c.held_lot.result c.loop-lot-test.true c.loop-lot.invariant.done c.lot-item.is one;
      rest = rest-set c.loop-lot.lots c.args.lots.now c.loop-lot.lot-index c.held_lot.result c.lot-item.result short c.loop-lot-test.true c.loop-lot.invariant.rest;
    }

pub returns : goal.returns
returns c = mapped-all (hold_in c.args.number c.args.quantity) c.args.lots.now c.loop-lot.lots c.loop-lot.lot-index c.loop-lot-test.false c.loop-lot.invariant.done

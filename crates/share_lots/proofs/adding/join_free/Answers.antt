-- That `join_free` keeps its contract.
use Rattle.std.proofs.Common.{◌<◌, length, ◌∙◌, ap, sym, arith}
use Rattle.fund_calendar.proofs.ListFacts.{mapped-all, mapped-more, rest-set, same_rest}
use Rattle.share_lots.specs.declared.lot.Lot.{Lot}
use Rattle.share_lots.specs.Lots.{join_free}
use Rattle.share_lots.proofs.adding.join_free.Goals as goal

pub joined_lot-requires-clause-lot : goal.joined_lot-requires-clause-lot
joined_lot-requires-clause-lot c =
    let short : c.loop-lot.lot-index < length c.loop-lot.lots = omega arith in
    let same = same_rest c.loop-lot.lots c.args.lots.now c.loop-lot.lot-index c.lot-item.result short c.loop-lot-test.true c.loop-lot.invariant.rest in
    rw same.0 (c.requires.lots c.loop-lot.lot-index c.lot-item.result c.loop-lot-test.true)

pub loop-lot-preserved : goal.loop-lot-preserved
loop-lot-preserved c =
    let short : c.loop-lot.lot-index < length c.loop-lot.lots = omega arith in
    let one = c.joined_lot.ensures ∙ ap (λ (l : Lot). join_free c.args.mils.now c.args.cost.now l) (sym c.lot-item.is) in
    record {
      done = mapped-more (join_free c.args.mils.now c.args.cost.now) c.args.lots.now c.loop-lot.lots c.loop-lot.lot-index c.lot-item.result c.joined_lot.result c.loop-lot-test.true c.loop-lot.invariant.done c.lot-item.is one;
      rest = rest-set c.loop-lot.lots c.args.lots.now c.loop-lot.lot-index c.joined_lot.result c.lot-item.result short c.loop-lot-test.true c.loop-lot.invariant.rest;
    }

pub returns : goal.returns
returns c = mapped-all (join_free c.args.mils.now c.args.cost.now) c.args.lots.now c.loop-lot.lots c.loop-lot.lot-index c.loop-lot-test.false c.loop-lot.invariant.done

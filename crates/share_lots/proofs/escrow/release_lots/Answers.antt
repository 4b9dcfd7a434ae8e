-- That `release_lots` keeps its contract.
use Rattle.std.proofs.Common.{◌<◌, length, ◌∙◌, ap, sym, arith}
use Rattle.fund_calendar.proofs.ListFacts.{mapped-all, mapped-more, rest-set, same_rest}
use Rattle.share_lots.specs.declared.lot.Lot.{Lot}
use Rattle.share_lots.specs.Lots.{release_lot}
use Rattle.share_lots.proofs.escrow.release_lots.Goals as goal

pub released_lot-requires : goal.released_lot-requires
released_lot-requires c =
    let short : c.loop-lot.lot-index < length c.loop-lot.lots = omega arith in
    let same = same_rest c.loop-lot.lots c.args.lots.now c.loop-lot.lot-index c.lot-item.result short c.loop-lot-test.true c.loop-lot.invariant.rest in
    rw same.0 (c.requires c.loop-lot.lot-index c.lot-item.result c.loop-lot-test.true)

pub loop-lot-preserved : goal.loop-lot-preserved
loop-lot-preserved c =
    let short : c.loop-lot.lot-index < length c.loop-lot.lots = omega arith in
    let one = c.released_lot.ensures ∙ ap (λ (l : Lot). release_lot l) (sym c.lot-item.is) in
    record {
      done = mapped-more release_lot c.args.lots.now c.loop-lot.lots c.loop-lot.lot-index c.lot-item.result c.released_lot.result c.loop-lot-test.true c.loop-lot.invariant.done c.lot-item.is one;
      rest = rest-set c.loop-lot.lots c.args.lots.now c.loop-lot.lot-index c.released_lot.result c.lot-item.result short c.loop-lot-test.true c.loop-lot.invariant.rest;
    }

pub returns : goal.returns
returns c = mapped-all release_lot c.args.lots.now c.loop-lot.lots c.loop-lot.lot-index c.loop-lot-test.false c.loop-lot.invariant.done

-- That `ranked_lots` keeps its contract.
use Rattle.std.proofs.Common.{◌∙◌, ap, refl}
use Rattle.share_lots.specs.declared.lot.Lot.{Lot}
use Rattle.share_lots.specs.Lots.{lots_with}
use Rattle.share_lots.proofs.RankedLemmas.{Placing-start, placing-more, placing-all, IsHolding-placed}
use Rattle.share_lots.proofs.adding.ranked_lots.Goals as goal

pub loop-lot-init : goal.loop-lot-init
loop-lot-init c = record {
  placing = rw c.new-places.ensures.items (Placing-start c.args.lots.now c.args.next_lot c.requires);
  done = rw c.new-places.ensures.items refl;
}

pub loop-lot-preserved : goal.loop-lot-preserved
loop-lot-preserved c =
    let new = c.in_ok-insert_lot.ensures.ok ∙ ap (λ (l : Lot). lots_with l c.loop-lot.places.items) c.copy_of.ensures in
    let both = placing-more c.args.next_lot c.loop-lot.places.items c.insert_lot.new.lots.items c.args.lots.now _ c.loop-lot.lot-index c.lot-item.result c.loop-lot-test.true c.lot-item.is new c.loop-lot.invariant.placing c.loop-lot.invariant.done in
    record { placing = both.0; done = both.1 }

pub returns : goal.returns
returns c =
    let places = placing-all c.args.next_lot c.loop-lot.places.items c.args.lots.now c.loop-lot.lot-index c.loop-lot-test.false c.loop-lot.invariant.done in
    record {
      ranked = places;
      holding = IsHolding-placed c.args.next_lot c.loop-lot.places.items _ c.args.lots.now c.loop-lot.invariant.placing c.requires places;
    }

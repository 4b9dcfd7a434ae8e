-- What holds at each turn of the loops of `ranked_lots`.
use Rattle.std.proofs.Common.{◌≡◌, drop}
use Rattle.share_lots.specs.Lots.{placed_all, ranked_lots}
use Rattle.share_lots.proofs.RankedLemmas.{Placing}
use Rattle.share_lots.proofs.adding.ranked_lots.Given as goal

abbrev pub invariant-loop-lot : goal.invariant-loop-lot
invariant-loop-lot l = record {
  placing : Placing l.next_lot l.places.items (drop l.lot-index l.lots);
  done : placed_all l.places.items (drop l.lot-index l.lots) ≡ ranked_lots l.lots;
}

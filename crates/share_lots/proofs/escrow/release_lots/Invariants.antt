-- What holds at each turn of the loops of `release_lots`.
use Rattle.std.proofs.Common.{◌≡◌, ◌++◌, map, take, drop}
use Rattle.share_lots.specs.Lots.{release_lot}
use Rattle.share_lots.proofs.escrow.release_lots.Given as goal

abbrev pub invariant-loop-lot : goal.invariant-loop-lot
invariant-loop-lot l = record {
  done : l.lots ≡ map release_lot (take l.lot-index l.initial.lots) ++ drop l.lot-index l.initial.lots;
  rest : drop l.lot-index l.lots ≡ drop l.lot-index l.initial.lots;
}

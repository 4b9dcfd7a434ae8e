-- What holds at each turn of the loops of `hold_back`.
use Rattle.std.proofs.Common.{◌≡◌, ◌++◌, map, take, drop}
use Rattle.share_lots.specs.Lots.{hold_in}
use Rattle.share_lots.proofs.escrow.hold_back.Given as goal

abbrev pub invariant-loop-lot : goal.invariant-loop-lot
invariant-loop-lot l = record {
  done : l.lots ≡ map (hold_in l.number l.quantity) (take l.lot-index l.initial.lots) ++ drop l.lot-index l.initial.lots;
  rest : drop l.lot-index l.lots ≡ drop l.lot-index l.initial.lots;
}

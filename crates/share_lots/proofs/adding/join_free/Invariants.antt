-- What holds at each turn of the loops of `join_free`.
use Rattle.std.proofs.Common.{◌≡◌, ◌++◌, map, take, drop}
use Rattle.share_lots.specs.Lots.{join_free}
use Rattle.share_lots.proofs.adding.join_free.Given as goal

abbrev pub invariant-loop-lot : goal.invariant-loop-lot
invariant-loop-lot l = record {
  done : l.lots ≡ map (join_free l.mils l.cost) (take l.lot-index l.initial.lots) ++ drop l.lot-index l.initial.lots;
  rest : drop l.lot-index l.lots ≡ drop l.lot-index l.initial.lots;
}

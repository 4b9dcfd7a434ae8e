-- What holds at each turn of the loops of `reduce_lots`.
use Rattle.std.proofs.Common.{◌≡◌, ◌++◌, take, drop}
use Rattle.share_lots.specs.Taking.{lots_less}
use Rattle.share_lots.proofs.taking.reduce_lots.Given as goal

abbrev pub invariant-loop-lot : goal.invariant-loop-lot
invariant-loop-lot l = record {
  done : take l.lot-index l.lots ++ lots_less l.left (drop l.lot-index l.lots) ≡ lots_less l.fn.asked l.initial.lots;
  rest : drop l.lot-index l.lots ≡ drop l.lot-index l.initial.lots;
}

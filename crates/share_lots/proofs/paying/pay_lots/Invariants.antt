-- What holds at each turn of the loops of `pay_lots`.
use Rattle.std.proofs.Common.{◌≡◌, ◌≤◌, ◌++◌, map, take, drop, sum_by}
use Rattle.share_lots.specs.Lots.{most_mils}
use Rattle.share_lots.specs.Taking.{lot_paying, owned_held}
use Rattle.share_lots.proofs.paying.pay_lots.Given as goal

abbrev pub invariant-loop-lot : goal.invariant-loop-lot
invariant-loop-lot l = record {
  done : l.lots ≡ map (lot_paying l.initial.lots l.fn.asked) (take l.lot-index l.initial.lots) ++ drop l.lot-index l.initial.lots;
  rest : drop l.lot-index l.lots ≡ drop l.lot-index l.initial.lots;
  so_far : l.passed ≡ sum_by owned_held (take l.lot-index l.initial.lots);
  bound : l.passed ≤ most_mils;
}

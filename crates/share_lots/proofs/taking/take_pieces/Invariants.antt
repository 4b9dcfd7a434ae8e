-- What holds at each turn of the loops of `take_pieces`.
use Rattle.std.proofs.Common.{◌≡◌, ◌++◌, drop}
use Rattle.share_lots.specs.Taking.{pieces}
use Rattle.share_lots.proofs.taking.take_pieces.Given as goal

abbrev pub invariant-loop-lot : goal.invariant-loop-lot
invariant-loop-lot l = l.taken ++ pieces l.left (drop l.lot-index l.lots) ≡ l.fn.given ++ pieces l.fn.asked l.lots

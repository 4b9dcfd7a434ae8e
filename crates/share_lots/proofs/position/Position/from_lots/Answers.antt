-- That `Position::from_lots` keeps its contract.
use Rattle.std.proofs.Common.{arith}
use Rattle.share_lots.proofs.LotLemmas.{sum-mils}
use Rattle.share_lots.proofs.position.Position.from_lots.Goals as goal

pub held_total-held-requires : goal.held_total-held-requires
held_total-held-requires c =
    rw c.deref-2.ensures.value (omega (arith, sum-mils c.in_ok-lots.lots.items, c.in_ok-lots.ensures.holding.few_mils))

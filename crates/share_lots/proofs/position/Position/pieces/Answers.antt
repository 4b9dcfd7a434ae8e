-- That `Position::pieces` keeps its contract.
use Rattle.std.proofs.Common.{arith}
use Rattle.share_lots.specs.Rows.{lots_in}
use Rattle.share_lots.proofs.KeptLemmas.{pieces-mils, pieces-cost}
use Rattle.share_lots.proofs.position.Position.pieces.Goals as goal

pub returns-clause-few_mils : goal.returns-clause-few_mils
returns-clause-few_mils c =
    rw c.in_ok-pieces.ensures (omega (arith, pieces-mils c.mils.inside.0 (lots_in c.self.inside.lots), c.self.invariant.holding.few_mils))

pub returns-clause-low_cost : goal.returns-clause-low_cost
returns-clause-low_cost c =
    rw c.in_ok-pieces.ensures (omega (arith, pieces-cost c.mils.inside.0 (lots_in c.self.inside.lots) c.self.invariant.holding.with_mils, c.self.invariant.holding.low_cost))

-- That `Position::held` keeps its contract.
use Rattle.std.proofs.Common.{arith}
use Rattle.share_lots.specs.Rows.{lots_in}
use Rattle.share_lots.proofs.LotLemmas.{sum-mils}
use Rattle.share_lots.proofs.position.Position.held.Goals as goal

pub returns-clause-bound : goal.returns-clause-bound
returns-clause-bound c = omega (arith, sum-mils (lots_in c.self.inside.lots), c.self.invariant.held_sum, c.self.invariant.holding.few_mils)

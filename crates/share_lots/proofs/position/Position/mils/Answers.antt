-- That `Position::mils` keeps its contract.
use Rattle.std.proofs.Common.{arith}
use Rattle.share_lots.specs.Rows.{lots_in}
use Rattle.share_lots.proofs.LotLemmas.{sum-mils}
use Rattle.share_lots.proofs.position.Position.mils.Goals as goal

pub returns-clause-total : goal.returns-clause-total
returns-clause-total c = rw (← c.self.view_is) (omega (arith, c.self.invariant.mils_sum, sum-mils (lots_in c.self.inside.lots)))

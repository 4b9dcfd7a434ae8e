-- That `Position::is_empty` keeps its contract.
use Rattle.share_lots.specs.Rows.{lots_in}
use Rattle.share_lots.proofs.RowLemmas.{no_lots}
use Rattle.share_lots.proofs.position.Position.is_empty.Goals as goal

pub returns-clause-empty : goal.returns-clause-empty
returns-clause-empty c =
    rw (← c.self.view_is, c.self.invariant.mils_sum) (no_lots (lots_in c.self.inside.lots) c.self.invariant.holding.with_mils)

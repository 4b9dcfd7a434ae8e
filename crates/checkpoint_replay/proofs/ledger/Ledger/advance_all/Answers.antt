-- That `Ledger::advance_all` keeps its contract.
use Rattle.checkpoint_replay.specs.Parts.{Households}
use Rattle.checkpoint_replay.specs.Sheets.{CanAdvance}
use Rattle.std.proofs.Common.{subst, sym}
use Rattle.checkpoint_replay.proofs.ledger.Ledger.advance_all.Goals as goal

pub moves_of_sheet-requires-clause-households : goal.moves_of_sheet-requires-clause-households
moves_of_sheet-requires-clause-households g c =
    subst (λ (ledger : Households). CanAdvance c.args.facts.now c.args.orders.now ledger.parts) (sym c.self.view_is) c.requires.households

-- The proof of the law `reopenings_correct_ledgers`.
use Rattle.ledger_laws.proofs.CorrectedParts.{ledger_corrected}
use Rattle.ledger_laws.proofs.Reopenings.{reopened-or-left}
use Rattle.ledger_laws.proofs.correction_laws.reopenings_correct_ledgers.Goals as goal

pub returns : goal.returns
returns c known before after parts new moves serves same is reopened left shown =
    ledger_corrected known before after parts new serves same is (reopened-or-left known before after parts new moves reopened left shown)

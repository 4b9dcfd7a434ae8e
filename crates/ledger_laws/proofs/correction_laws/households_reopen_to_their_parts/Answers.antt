-- The proof of the law `households_reopen_to_their_parts`.
use Rattle.ledger_laws.proofs.CorrectedParts.{can-reopen, days-whole}
use Rattle.ledger_laws.proofs.correction_laws.households_reopen_to_their_parts.Goals as goal

pub returns : goal.returns
returns c known rows book household sound serves are = record {
  ready = can-reopen known rows book household sound serves are;
  part = days-whole known rows book household serves are;
}

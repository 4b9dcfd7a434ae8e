-- The proof of the law `households_can_be_replayed_from_each_sheet`.
use Rattle.ledger_laws.proofs.EachStep.{facts-over, lots-behind, orders-over}
use Rattle.ledger_laws.proofs.OwnedParts.{owned_by_accounts}
use Rattle.ledger_laws.proofs.part_laws.households_can_be_replayed_from_each_sheet.Goals as goal

pub returns : goal.returns
returns c known rows book household sound facts have stand are from count within = record {
  facts = facts-over known rows book household sound facts have from count within stand;
  orders = orders-over known rows book household sound facts have from count within are;
  owned = (owned_by_accounts known book household sound facts have).positions from;
  lots = lots-behind known rows book household sound facts have from count within are;
}

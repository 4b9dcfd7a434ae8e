-- The proof of the law `tables_go_on`.
use Rattle.reference_tables.proofs.EventTables.{accounts-on, few-accounts-on, few-terms-on, rates-on, terms-on}
use Rattle.reference_tables.proofs.StandingTables.{stand-after}
use Rattle.reference_tables.proofs.table_laws.tables_go_on.Goals as goal

pub returns : goal.returns
returns c journal tables event are range = record {
  stand = stand-after tables event.kind range are.stand;
  terms = terms-on journal tables event are;
  accounts = accounts-on journal tables event are;
  rates = rates-on journal tables event are;
  few_terms = few-terms-on journal tables event are;
  few_accounts = few-accounts-on journal tables event are;
}

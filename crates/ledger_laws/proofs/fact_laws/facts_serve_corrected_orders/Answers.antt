-- The proof of the law `facts_serve_corrected_orders`.
use Rattle.reference_tables.specs.TablesOfJournals.{known_of}
use Rattle.ledger_laws.proofs.ServedBooks.{behind-order, served-on-trial}
use Rattle.ledger_laws.proofs.fact_laws.facts_serve_corrected_orders.Goals as goal

pub returns : goal.returns
returns c journal tables event sheet is changes are last =
    served-on-trial (known_of journal tables sheet) journal event is (behind-order journal tables event sheet is changes are last)

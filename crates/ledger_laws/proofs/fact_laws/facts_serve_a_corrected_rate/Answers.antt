-- The proof of the law `facts_serve_a_corrected_rate`.
use Rattle.reference_tables.specs.Tables.{row_of_fix, with_fixed_rate}
use Rattle.reference_tables.specs.TablesOfJournals.{known_of, known_with_rates}
use Rattle.ledger_laws.proofs.ServedBooks.{behind-rate, served-on-trial}
use Rattle.ledger_laws.proofs.fact_laws.facts_serve_a_corrected_rate.Goals as goal

pub returns : goal.returns
returns c journal tables event form sheet is by most are last =
    served-on-trial (known_with_rates (known_of journal tables sheet) (with_fixed_rate tables.rates (row_of_fix form))) journal event is
    (behind-rate journal tables event form sheet is by most are last)

-- The proof of the law `facts_serve_a_corrected_price`.
use Rattle.reference_tables.specs.TablesOfJournals.{known_of, known_with_patch, patch_by}
use Rattle.ledger_laws.proofs.ServedBooks.{behind-price, served-on-trial}
use Rattle.ledger_laws.proofs.fact_laws.facts_serve_a_corrected_price.Goals as goal

pub returns : goal.returns
returns c journal tables event form number sheet is by fixes are last =
    served-on-trial (known_with_patch (known_of journal tables sheet) (patch_by form number)) journal event is
    (behind-price journal tables event form number sheet is by fixes are last)

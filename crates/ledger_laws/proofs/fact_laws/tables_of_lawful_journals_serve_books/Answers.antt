-- The proof of the law `tables_of_lawful_journals_serve_books`.
use Rattle.std.proofs.Common.{refl}
use Rattle.reference_tables.specs.TablesOfJournals.{known_of}
use Rattle.ledger_laws.proofs.ServedBooks.{facts_behind_serve, few-of-lawful}
use Rattle.ledger_laws.proofs.fact_laws.tables_of_lawful_journals_serve_books.Goals as goal

pub returns : goal.returns
returns c journal tables sheet lawful are last =
    facts_behind_serve (known_of journal tables sheet) journal (record { tables = are; sheets = refl; last = last }) (few-of-lawful journal lawful)

-- The proof of the law `tables_of_lawful_journals_serve`.
use Rattle.std.proofs.Common.{refl}
use Rattle.reference_tables.proofs.ServedFacts.{numbered-there, serve}
use Rattle.reference_tables.proofs.table_laws.tables_of_lawful_journals_serve.Goals as goal
use Rattle.reference_tables.specs.TablesOfJournals.{known_of}

pub returns : goal.returns
returns c journal tables sheet lawful are is =
    serve (known_of journal tables sheet) journal lawful are refl (numbered-there journal sheet is) is

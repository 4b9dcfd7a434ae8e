-- The proof of the law `tables_serve_the_book_behind_a_sheet`.
use Rattle.std.proofs.Common.{refl}
use Rattle.agent_events.specs.declared.event.EventKind.{EventKind}
use Rattle.reference_tables.proofs.ServedFacts.{tables-behind}
use Rattle.reference_tables.specs.TablesOfJournals.{known_of}
use Rattle.ledger_laws.proofs.ServedBooks.{facts_behind_serve, few-of-lawful}
use Rattle.ledger_laws.proofs.fact_laws.tables_serve_the_book_behind_a_sheet.Goals as goal
use Rattle.register_machine.specs.journal.Journals.{with_event}

pub returns : goal.returns
returns c journal tables event form sheet lawful is are last =
    let later = with_event journal event in
    facts_behind_serve (known_of later tables sheet) later
    (record { tables = tables-behind journal tables event (EventKind.Sheet form) is tt are; sheets = refl; last = last })
    (few-of-lawful later lawful)

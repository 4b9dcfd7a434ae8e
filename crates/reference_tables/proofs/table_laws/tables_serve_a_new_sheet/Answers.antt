-- The proof of the law `tables_serve_a_new_sheet`.
use Rattle.std.proofs.Common.{refl}
use Rattle.agent_events.specs.declared.event.EventKind.{EventKind}
use Rattle.reference_tables.proofs.ServedFacts.{numbered-there, serve, tables-behind}
use Rattle.reference_tables.proofs.table_laws.tables_serve_a_new_sheet.Goals as goal
use Rattle.reference_tables.specs.TablesOfJournals.{known_of}
use Rattle.register_machine.specs.journal.Journals.{with_event}

pub returns : goal.returns
returns c journal tables event form sheet lawful is are there =
    let later = with_event journal event in
    serve (known_of later tables sheet) later lawful (tables-behind journal tables event (EventKind.Sheet form) is tt are) refl
    (numbered-there later sheet there) there

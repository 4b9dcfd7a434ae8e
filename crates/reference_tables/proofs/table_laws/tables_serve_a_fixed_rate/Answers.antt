-- The proof of the law `tables_serve_a_fixed_rate`.
use Rattle.std.proofs.Common.{ap, length, sym, ◌≡◌}
use Rattle.agent_events.specs.declared.event.EventKind.{EventKind}
use Rattle.forward_price.specs.PriceTables.{Table}
use Rattle.reference_tables.specs.Tables.{row_of_fix, with_fixed_rate}
use Rattle.reference_tables.specs.TablesOfJournals.{known_of, known_with_rates}
use Rattle.register_laws.specs.OneEventMore.{corrected_table}
use Rattle.register_machine.specs.journal.Journals.{with_event}
use Rattle.reference_tables.proofs.ServedFacts.{numbered-there, serve, sheet-still, tables-behind, table-behind}
use Rattle.reference_tables.proofs.table_laws.tables_serve_a_fixed_rate.Goals as goal

pub returns : goal.returns
returns c journal tables event form sheet lawful is most are there =
    serve (known_with_rates (known_of journal tables sheet) (with_fixed_rate tables.rates (row_of_fix form))) (with_event journal event) lawful
    (tables-behind journal tables event (EventKind.FixRate form) is most are)
    (sym sheets) (numbered-there journal sheet there)
    (sheet-still journal (with_event journal event) sheet (ap length sheets) there)
  where
    sheets : (corrected_table (with_event journal event)).sheets ≡ (corrected_table journal).sheets
    sheets = ap (λ (table : Table). table.sheets) (table-behind journal event (EventKind.FixRate form) lawful is)

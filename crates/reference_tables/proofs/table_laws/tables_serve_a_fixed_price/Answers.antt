-- The proof of the law `tables_serve_a_fixed_price`.
use Rattle.std.proofs.Common.{ap, length, subst, sym, ◌∙◌, ◌≡◌}
use Rattle.std.proofs.lemmas.List.{length-map}
use Rattle.agent_events.specs.declared.event.EventKind.{EventKind}
use Rattle.forward_price.specs.PriceTables.{Table, sheets_with_nav, corrected_sheet, with_correction}
use Rattle.reference_tables.proofs.PricedSheets.{one-number}
use Rattle.reference_tables.specs.TablesOfJournals.{known_of, known_with_patch, patch_by}
use Rattle.register_laws.proofs.FixesOnePrice.{fixes_one_price}
use Rattle.register_laws.proofs.NothingBefore.{last-brought}
use Rattle.register_laws.specs.OneEventMore.{corrected_table, with_price_fixed}
use Rattle.register_machine.specs.journal.Journals.{with_event}
use Rattle.reference_tables.proofs.ServedFacts.{numbered-there, serve, sheet-still, tables-behind, table-behind}
use Rattle.reference_tables.proofs.table_laws.tables_serve_a_fixed_price.Goals as goal

pub returns : goal.returns
returns c journal tables event form number sheet lawful is are there priced =
    serve (known_with_patch (known_of journal tables sheet) (patch_by form number)) (with_event journal event) lawful
    (tables-behind journal tables event (EventKind.FixPrice form) is tt are)
    (sym sheets) (numbered-there journal sheet there)
    (sheet-still journal (with_event journal event) sheet
    (ap length sheets ∙ length-map (corrected_table journal).sheets (corrected_sheet form.class number form.nav)) there)
  where
    table : with_price_fixed form (corrected_table journal) ≡ with_correction (corrected_table journal) form.class number form.nav
    table =
        let fixes = fixes_one_price journal event lawful form is in
        subst (λ n. with_price_fixed form (corrected_table journal) ≡ with_correction (corrected_table journal) form.class n form.nav)
        (one-number journal form fixes.0 number (last-brought journal event lawful).0 fixes.1.listed priced) fixes.1.table

    sheets : (corrected_table (with_event journal event)).sheets ≡ sheets_with_nav form.class number form.nav (corrected_table journal).sheets
    sheets =
        ap (λ (table : Table). table.sheets) (table-behind journal event (EventKind.FixPrice form) lawful is ∙ table)

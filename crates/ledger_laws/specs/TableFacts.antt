-- Tables of journals whose facts serve their books: of lawful journals, of a sheet on trial, and of corrections on trial.
use Rattle.std.specs.Prelude.{count_by, is_some, length, true, ℕ, ◌==◌, ◌≡◌, ◌≤◌}
use Rattle.agent_events.specs.Events.{Event}
use Rattle.agent_events.specs.declared.event.EventKind.{EventKind}
use Rattle.agent_events.specs.declared.request.FixPriceForm.{FixPriceForm}
use Rattle.agent_events.specs.declared.request.FixRateForm.{FixRateForm}
use Rattle.agent_events.specs.declared.request.SheetForm.{SheetForm}
use Rattle.register_laws.specs.EventReplays.{is_correction}
use Rattle.household_fold.specs.Facts.{Known, sheets_known}
use Rattle.reference_tables.specs.Tables.{Tables, row_of_fix, with_fixed_rate}
use Rattle.reference_tables.specs.TablesOfJournals.{AreTablesOf, IsPricedOn, known_of, known_with_patch, known_with_rates, patch_by}
use Rattle.ledger_laws.specs.BookFacts.{ServeLastSheet}
use Rattle.register_laws.specs.CorrectionReach.{order_changed}
use Rattle.register_laws.specs.Lawful.{book_behind}
use Rattle.register_laws.specs.OneEventMore.{FixesOnePrice, book_after}
use Rattle.register_machine.specs.journal.Journals.{Journal, with_event}
use Rattle.register_machine.specs.journal.Kinds.{accounts_of, classes_of}
use Rattle.register_machine.specs.journal.Lawful.{IsLawful}

abbrev pub tables_in : Known → Tables
tables_in known = record { terms = known.terms; accounts = known.accounts; rates = known.rates }

-- at most 1,000 classes, and 64 accounts of a household
pub record HasFewRows (journal : Journal) : Type 0 where
  pub classes : length (classes_of journal) ≤ 1000
  pub accounts : (household : ℕ) → count_by (λ form. form.household == household) (accounts_of journal) ≤ 64

abbrev pub IsLastSheet : Journal → ℕ → Type 0
IsLastSheet journal sheet = sheet ≡ length (book_behind journal).table.sheets

-- the tables are the journal's, the sheets those of its book, and the sheet at hand is the last one
pub record AreFactsBehind (known : Known) (journal : Journal) : Type 0 where
  pub tables : AreTablesOf journal (tables_in known)
  pub sheets : sheets_known known ≡ (book_behind journal).table.sheets
  pub last : IsLastSheet journal known.sheet

-- Such facts serve the book of the journal, lawful or not.
abbrev pub FactsBehindServe : Known → Journal → Type 0
FactsBehindServe known journal =
    AreFactsBehind known journal → HasFewRows journal → ServeLastSheet known (book_behind journal)

-- ---- Lawful journals.

abbrev pub LawfulTablesServe : Journal → Tables → ℕ → Type 0
LawfulTablesServe journal tables sheet =
    IsLawful journal → AreTablesOf journal tables → IsLastSheet journal sheet
    → ServeLastSheet (known_of journal tables sheet) (book_behind journal)

-- A sheet published on trial leaves the tables as they are.
abbrev pub NewSheetServed : Journal → Tables → Event → SheetForm → ℕ → Type 0
NewSheetServed journal tables event form sheet =
    IsLawful (with_event journal event) → event.kind ≡ EventKind.Sheet form
    → AreTablesOf journal tables → IsLastSheet (with_event journal event) sheet
    → ServeLastSheet (known_of (with_event journal event) tables sheet) (book_behind (with_event journal event))

-- ---- Corrections on trial.

-- The book of a lawful journal goes on by the correction, as it does where none of the rules before the last one refuses it.
pub record IsOnTrial (journal : Journal) (event : Event) : Type 0 where
  pub lawful : IsLawful journal
  pub corrects : is_correction event.kind ≡ true
  pub goes_on : book_behind (with_event journal event)
      ≡ book_after (length journal) (book_behind journal) event.moment event.kind

-- A correction of an order leaves the facts as they are.
abbrev pub OrderCorrectionServed : Journal → Tables → Event → ℕ → Type 0
OrderCorrectionServed journal tables event sheet =
    IsOnTrial journal event → is_some (order_changed event.kind) ≡ true
    → AreTablesOf journal tables → IsLastSheet journal sheet
    → ServeLastSheet (known_of journal tables sheet) (book_behind (with_event journal event))

-- A corrected rate is put among the others.
abbrev pub RateCorrectionServed : Journal → Tables → Event → FixRateForm → ℕ → Type 0
RateCorrectionServed journal tables event form sheet =
    IsOnTrial journal event → event.kind ≡ EventKind.FixRate form → form.rate ≤ 1000000000
    → AreTablesOf journal tables → IsLastSheet journal sheet
    → ServeLastSheet (known_with_rates (known_of journal tables sheet) (with_fixed_rate tables.rates (row_of_fix form)))
    (book_behind (with_event journal event))

-- A corrected price is a patch of the one sheet that it fixes.
abbrev pub PriceCorrectionServed : Journal → Tables → Event → FixPriceForm → ℕ → ℕ → Type 0
PriceCorrectionServed journal tables event form number sheet =
    IsOnTrial journal event → event.kind ≡ EventKind.FixPrice form → FixesOnePrice journal form number
    → AreTablesOf journal tables → IsLastSheet journal sheet
    → ServeLastSheet (known_with_patch (known_of journal tables sheet) (patch_by form number))
    (book_behind (with_event journal event))

-- That sheet is one of the number which lists the class at the moment of the correction.
abbrev pub LawfulPriceIsOfOneSheet : Journal → FixPriceForm → ℕ → Type 0
LawfulPriceIsOfOneSheet journal form number =
    IsLawful journal → IsPricedOn journal form number → FixesOnePrice journal form number

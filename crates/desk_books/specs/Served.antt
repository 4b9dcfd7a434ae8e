-- The facts by which a correction on trial is replayed: the tables and the prices that the desk keeps, with a corrected rate among
-- the others, or under the patch of a corrected price.
use Rattle.std.specs.Prelude.{None, Option, Some, List, is_some, length, true, ◌≡◌, ◌≤◌}
use Rattle.agent_events.specs.Events.{Event}
use Rattle.agent_events.specs.declared.event.EventKind.{EventKind}
use Rattle.agent_events.specs.declared.request.FixPriceForm.{FixPriceForm}
use Rattle.agent_events.specs.declared.request.FixRateForm.{FixRateForm}
use Rattle.agent_events.specs.declared.rows.RateRow.{RateRow}
use Rattle.desk_books.specs.Fresh.{IsOnTrial}
use Rattle.desk_books.specs.BooksOfJournals.{AreBooksOf}
use Rattle.desk_books.specs.declared.books.DeskBooks.{DeskBooks}
use Rattle.register_laws.specs.EventReplays.{is_correction}
use Rattle.forward_price.specs.declared.price_sheet.Patch.{Patch}
use Rattle.household_fold.specs.Facts.{Known, sheets_known}
use Rattle.reference_tables.specs.Tables.{row_of_fix, with_fixed_rate}
use Rattle.reference_tables.specs.TablesOfJournals.{patch_on}
use Rattle.ledger_laws.specs.BookFacts.{ServeLastSheet}
use Rattle.register_laws.specs.CorrectionReach.{order_changed}
use Rattle.register_laws.specs.Lawful.{book_behind}
use Rattle.register_machine.specs.journal.Journals.{Journal, with_event}

-- what is kept, with these rates and this patch, as far as the last sheet
abbrev pub known_in : DeskBooks → List RateRow → Option Patch → Known
known_in books rates patch = record {
  table = books.prices.table;
  terms = books.tables.terms;
  accounts = books.tables.accounts;
  rates = rates;
  patch = patch;
  sheet = length books.prices.table.sheets;
}

-- They serve the last sheet of the book on trial, and have its sheets.
pub record ServeTrial (known : Known) (journal : Journal) (event : Event) : Type 0 where
  pub serve : ServeLastSheet known (book_behind (with_event journal event))
  pub sheets : sheets_known known ≡ (book_behind (with_event journal event)).table.sheets

-- ---- By the kind of the correction.

abbrev pub OrderIsServed : DeskBooks → Event → Type 0
OrderIsServed books event =
    AreBooksOf books.book.journal books → is_correction event.kind ≡ true → is_some (order_changed event.kind) ≡ true
    → IsOnTrial books.book.journal event → ServeTrial (known_in books books.tables.rates None) books.book.journal event

abbrev pub RateIsServed : DeskBooks → Event → FixRateForm → Type 0
RateIsServed books event form =
    AreBooksOf books.book.journal books → event.kind ≡ EventKind.FixRate form → form.rate ≤ 1000000000
    → IsOnTrial books.book.journal event
    → ServeTrial (known_in books (with_fixed_rate books.tables.rates (row_of_fix form)) None) books.book.journal event

abbrev pub PriceIsServed : DeskBooks → Event → FixPriceForm → Patch → Type 0
PriceIsServed books event form patch =
    AreBooksOf books.book.journal books → event.kind ≡ EventKind.FixPrice form
    → patch_on books.prices.table.sheets form ≡ Some patch → IsOnTrial books.book.journal event
    → ServeTrial (known_in books books.tables.rates (Some patch)) books.book.journal event

-- Books in which a sheet is published on trial, and what a step reads of them.
use Rattle.std.specs.Prelude.{None, length, ℕ, ◌≡◌}
use Rattle.agent_events.specs.Events.{Event}
use Rattle.agent_events.specs.declared.event.EventKind.{EventKind}
use Rattle.agent_events.specs.declared.request.SheetForm.{SheetForm}
use Rattle.desk_books.specs.declared.books.DeskBooks.{DeskBooks}
use Rattle.household_fold.specs.Facts.{Known}
use Rattle.reference_tables.specs.TablesOfJournals.{AreTablesOf}
use Rattle.ledger_laws.specs.Ledgers.{IsLedgerOf}
use Rattle.register_laws.specs.Lawful.{book_behind}
use Rattle.register_laws.specs.OneEventMore.{corrected_table}
use Rattle.register_machine.specs.journal.Journals.{with_event}
use Rattle.register_machine.specs.journal.Lawful.{IsLawful}
use Rattle.standing_orders.specs.IndexOfJournals.{IsIndexOf}

-- what a step reads of the books, with the sheet of this number at hand
abbrev pub known_on_sheet : DeskBooks → ℕ → Known
known_on_sheet books number = record {
  table = books.prices.table;
  terms = books.tables.terms;
  accounts = books.tables.accounts;
  rates = books.tables.rates;
  patch = None;
  sheet = number;
}

-- The sheet of the event, which follows the journal of the books, is published in them under this number, behind the others; all
-- else in them is still that of the journal.
pub record IsOnTrial (books : DeskBooks) (number : ℕ) (event : Event) : Type 0 where
  pub form : SheetForm
  pub sheet : event.kind ≡ EventKind.Sheet form
  pub follows : IsLawful (with_event books.book.journal event)
  pub prices : books.prices.table ≡ corrected_table (with_event books.book.journal event)
  pub last : number ≡ length books.prices.table.sheets
  pub tables : AreTablesOf books.book.journal books.tables
  pub index : IsIndexOf books.book.journal books.orders.owners books.orders.waiting
  pub ledger : IsLedgerOf (book_behind books.book.journal) books.ledger.parts

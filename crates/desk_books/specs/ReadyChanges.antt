-- When an event is ready to be noted in the books: all that it changes was made beforehand, and there is room for it.
use Rattle.std.specs.Prelude.{◌≡◌, ◌≤◌}
use Rattle.agent_events.specs.declared.event.EventKind.{EventKind}
use Rattle.desk_books.specs.LedgerChanges.{HasRoomForLedger, IsLedgerChange}
use Rattle.desk_books.specs.NotedClasses.{NotesOrder}
use Rattle.desk_books.specs.OrderChanges.{ChangesOrders}
use Rattle.desk_books.specs.declared.books.DeskBooks.{DeskBooks}
use Rattle.desk_books.specs.declared.change.EventChange.{EventChange}
use Rattle.reference_tables.specs.TableChanges.{CanTake, tables_with}
use Rattle.reference_tables.specs.Tables.{IsInRange, tables_after}
use Rattle.ledger_laws.specs.KeptOfBooks.{AreKeptOf}
use Rattle.reference_tables.specs.PriceChanges.{HasRoomFor as HasPriceRoom, listing_brought}
use Rattle.register_laws.specs.Lawful.{book_behind}
use Rattle.register_machine.specs.journal.Journals.{with_event}
use Rattle.register_machine.specs.journal.Kinds.{accounts_of}
use Rattle.register_machine.specs.journal.Lawful.{IsLawful}

-- a calendar that an event brings has a time of day, in minutes after midnight
abbrev pub HasItsMinute : EventKind → Type 0
HasItsMinute (EventKind.Calendar form) = form.minute ≤ 1439
HasItsMinute _ = Unit {0}

-- The event follows the journal, and everything that it changes is made, with room for it.
pub record IsReady (books : DeskBooks) (change : EventChange) : Type 0 where
  pub follows : IsLawful (with_event books.book.journal change.event)
  pub minute : HasItsMinute change.event.kind
  pub noted : 1 ≤ books.book.spare
  pub priced : change.prices ≡ listing_brought change.event.kind
  pub price_room : HasPriceRoom books.prices change.event.kind
  pub tables : tables_with books.tables change.tables ≡ tables_after books.tables change.event.kind
  pub table_room : CanTake books.tables change.tables
  pub in_range : IsInRange change.event.kind
  pub orders : ChangesOrders books.book.journal change.event.kind change.orders
  pub order_room : 1 ≤ books.orders.spare
  pub classes : NotesOrder books.classes (accounts_of books.book.journal) change.event.kind
  pub ledger : IsLedgerChange books.book.journal change.event books.ledger.parts change.ledger
  pub kept : AreKeptOf (book_behind (with_event books.book.journal change.event)) books.kept
  pub ledger_room : HasRoomForLedger books.ledger books.cash change.ledger

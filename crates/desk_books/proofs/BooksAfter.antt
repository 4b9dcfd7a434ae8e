-- The books behind an event.
use Rattle.std.proofs.Common.{All, [], ap, length, option_to_list, subst, sym, ◌∙◌, ◌≡◌, ◌≤◌}
use Rattle.std.proofs.lemmas.List.Elements.{All-append, All-cons, All-nil}
use Rattle.agent_events.specs.Events.{Event}
use Rattle.agent_events.specs.declared.event.EventKind.{EventKind}
use Rattle.agent_events.specs.declared.request.CalendarForm.{CalendarForm}
use Rattle.desk_books.proofs.CashAfter.{cash_after}
use Rattle.desk_books.proofs.IndexAfter.{index_after}
use Rattle.desk_books.proofs.LedgerAfter.{KeepsLedger, ledger_after}
use Rattle.desk_books.proofs.NotedAfter.{noted_after}
use Rattle.desk_books.specs.BooksOfJournals.{AreBooksOf}
use Rattle.desk_books.specs.LedgerChanges.{IsPosted}
use Rattle.desk_books.specs.OrderChanges.{owners_after, waiting_after}
use Rattle.desk_books.specs.ReadyChanges.{HasItsMinute, IsReady}
use Rattle.desk_books.specs.declared.books.DeskBooks.{DeskBooks}
use Rattle.desk_books.specs.declared.change.EventChange.{EventChange}
use Rattle.forward_price.specs.PriceTables.{Table}
use Rattle.reference_tables.proofs.EventTables.{tables_go_on}
use Rattle.reference_tables.specs.TableChanges.{tables_with}
use Rattle.reference_tables.specs.TablesOfJournals.{AreTablesOf}
use Rattle.ledger_laws.specs.KeptOfBooks.{AreKeptOf}
use Rattle.register_laws.specs.Lawful.{book_behind}
use Rattle.reference_tables.proofs.LawfulChanges.{changes_prices}
use Rattle.register_laws.proofs.OneEventMore.{gathers-on}
use Rattle.register_laws.specs.OneEventMore.{corrected_table, corrected_table_by}
use Rattle.register_machine.specs.journal.Journals.{Journal, with_event}
use Rattle.register_machine.specs.journal.Kinds.{calendar_in, calendars_of}
use Rattle.register_machine.specs.pricing.CorrectedOrders.{orders_of}
use Rattle.standing_orders.specs.ClassHouseholds.{AreNoted, ClassLists}
use Rattle.holder_statements.specs.LawfulStatements.{IsTimely}
use Rattle.standing_orders.specs.IndexOfJournals.{IsIndexOf}

timely-kind : (kind : EventKind) → HasItsMinute kind → All (λ (form : CalendarForm). form.minute ≤ 1439) (option_to_list (calendar_in kind))
timely-kind (EventKind.Calendar form) minute = All-cons (λ (form : CalendarForm). form.minute ≤ 1439) form [] minute (All-nil (λ (form : CalendarForm). form.minute ≤ 1439))
timely-kind _ minute = All-nil (λ (form : CalendarForm). form.minute ≤ 1439)

timely-more : (journal : Journal) (event : Event) → IsTimely journal → HasItsMinute event.kind → IsTimely (with_event journal event)
timely-more journal event timely minute =
    subst (All (λ (form : CalendarForm). form.minute ≤ 1439)) (sym (gathers-on calendar_in journal event))
    (All-append (λ (form : CalendarForm). form.minute ≤ 1439) (calendars_of journal) (option_to_list (calendar_in event.kind)) timely (timely-kind event.kind minute))

-- What a change makes of the books, field by field.
pub record IsApplied (books : DeskBooks) (change : EventChange) (after : DeskBooks) : Type 0 where
  pub noted : after.book.journal ≡ with_event books.book.journal change.event
  pub prices : after.prices.table ≡ corrected_table_by books.prices.table change.event.moment change.event.kind
  pub tables : after.tables ≡ tables_with books.tables change.tables
  pub owners : after.orders.owners ≡ owners_after change.orders books.orders.owners
  pub classes : after.classes ≡ books.classes
  pub waiting : after.orders.waiting
      ≡ waiting_after change.orders after.prices.table.sheets (orders_of after.book.journal) books.orders.owners books.orders.waiting
  pub posted : IsPosted (length books.book.journal) change.ledger books.ledger books.cash after.ledger after.cash
  pub kept : after.kept ≡ books.kept

-- It makes of the books of a journal those of the journal with the event.
pub books_after : (books : DeskBooks) (change : EventChange) (after : DeskBooks) → AreBooksOf books.book.journal books → IsReady books change → IsApplied books change after → AreBooksOf (with_event books.book.journal change.event) after
books_after books change after are ready applied = record {
  noted = applied.noted;
  lawful = ready.follows;
  timely = timely-more journal change.event are.timely ready.minute;
  prices = prices;
  tables = subst (AreTablesOf behind) (sym (applied.tables ∙ ready.tables)) (tables_go_on journal books.tables change.event are.tables ready.in_range);
  index = index;
  classes = classes;
  ledger = ledger.is;
  tallied = ledger.tallied;
  installs = ledger.installs;
  cash = cash_after journal change.event change.ledger books.ledger after.ledger books.cash after.cash ready.follows ready.ledger applied.posted are.cash;
  kept = subst (AreKeptOf (book_behind behind)) (sym applied.kept) ready.kept;
}
  where
    journal : Journal
    journal = books.book.journal

    behind : Journal
    behind = with_event books.book.journal change.event

    prices : after.prices.table ≡ corrected_table behind
    prices =
        applied.prices
        ∙ (ap (λ (table : Table). corrected_table_by table change.event.moment change.event.kind) are.prices
        ∙ (changes_prices journal change.event ready.follows).leaves)

    ledger : KeepsLedger behind after.ledger
    ledger =
        ledger_after journal change.event (length journal) change.ledger books.ledger after.ledger books.cash after.cash ready.follows ready.ledger applied.posted
        (record { is = are.ledger; tallied = are.tallied; installs = are.installs })

    waiting : after.orders.waiting
        ≡ waiting_after change.orders (corrected_table behind).sheets (orders_of behind) books.orders.owners books.orders.waiting
    waiting =
        applied.waiting
        ∙ (ap (λ (table : Table). waiting_after change.orders table.sheets (orders_of after.book.journal) books.orders.owners books.orders.waiting) prices
        ∙ ap (λ (j : Journal). waiting_after change.orders (corrected_table behind).sheets (orders_of j) books.orders.owners books.orders.waiting) applied.noted)

    index : IsIndexOf behind after.orders.owners after.orders.waiting
    index =
        subst (λ owners. IsIndexOf behind owners after.orders.waiting) (sym applied.owners)
        (subst (IsIndexOf behind (owners_after change.orders books.orders.owners)) (sym waiting)
        (index_after journal change.event books.orders.owners books.orders.waiting ready.follows are.index change.orders ready.orders))

    classes : AreNoted after.classes (orders_of behind) after.orders.owners
    classes =
        subst (λ (noted : ClassLists). AreNoted noted (orders_of behind) after.orders.owners) (sym applied.classes)
        (subst (AreNoted books.classes (orders_of behind)) (sym applied.owners)
        (noted_after books.classes journal change.event books.orders.owners ready.follows are.index.owned are.classes change.orders ready.orders ready.classes))

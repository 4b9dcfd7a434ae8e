-- The books behind the order of a line: those of the journal with its event; nothing but the orders is changed.
use Rattle.std.proofs.Common.{None, Some, [], ap, refl, sym, ℕ, ◌++◌, ◌∷◌, ◌≡◌, ◌≤◌, length}
use Rattle.std.proofs.lemmas.Bool.{true≢false}
use Rattle.agent_events.specs.declared.event.Placed.{Placed}
use Rattle.dealer_lines.specs.Lines.{line_event}
use Rattle.desk_books.proofs.BooksAfter.{books_after}
use Rattle.desk_books.proofs.KeptAfter.{kept_behind}
use Rattle.desk_books.specs.BooksOfJournals.{AreBooksOf}
use Rattle.desk_books.specs.NotedClasses.{IsOrderNoted}
use Rattle.desk_books.specs.declared.books.DeskBooks.{DeskBooks}
use Rattle.desk_books.specs.declared.change.EventChange.{EventChange}
use Rattle.desk_books.specs.declared.change.OrderChange.{OrderChange}
use Rattle.reference_tables.specs.declared.table_change.TableChange.{TableChange}
use Rattle.register_machine.specs.journal.Journals.{with_event}
use Rattle.register_machine.specs.journal.Kinds.{accounts_of, household_of}
use Rattle.register_machine.specs.journal.Lawful.{IsLawful}

-- what the order of a line changes
abbrev line_change : ℕ → Placed → ℕ → EventChange
line_change moment placed household = record {
  event = line_event moment placed;
  prices = None;
  tables = TableChange.Nothing;
  orders = OrderChange.Begins household;
  ledger = None;
}

-- the books with it
pub record HasLine (books : DeskBooks) (moment : ℕ) (placed : Placed) (household : ℕ) (after : DeskBooks) : Type 0 where
  pub noted : after.book.journal ≡ with_event books.book.journal (line_event moment placed)
  pub prices : after.prices ≡ books.prices
  pub tables : after.tables ≡ books.tables
  pub owners : after.orders.owners ≡ books.orders.owners ++ household ∷ []
  pub waiting : after.orders.waiting ≡ books.orders.waiting ++ length books.orders.owners ∷ []
  pub classes : after.classes ≡ books.classes
  pub ledger : after.ledger ≡ books.ledger
  pub cash : after.cash ≡ books.cash
  pub kept : after.kept ≡ books.kept

pub line_noted : (books : DeskBooks) (moment : ℕ) (placed : Placed) (household : ℕ) (after : DeskBooks) → AreBooksOf books.book.journal books → IsLawful (with_event books.book.journal (line_event moment placed)) → 1 ≤ books.book.spare → 1 ≤ books.orders.spare → household_of (accounts_of books.book.journal) placed.order.account ≡ Some household → IsOrderNoted books.classes (accounts_of books.book.journal) placed.order → HasLine books moment placed household after → AreBooksOf (with_event books.book.journal (line_event moment placed)) after
line_noted books moment placed household after are lawful room order_room found listed has =
    books_after books (line_change moment placed household) after are
    (record {
      follows = lawful;
      minute = tt;
      noted = room;
      priced = refl;
      price_room = tt;
      tables = refl;
      table_room = tt;
      in_range = tt;
      orders = (household, found, refl);
      order_room = order_room;
      classes = listed;
      ledger = refl;
      kept = kept_behind books.book.journal (line_event moment placed) books.kept lawful are.kept (λ corrects. absurd (true≢false (sym corrects)));
      ledger_room = tt;
    })
    (record {
      noted = has.noted;
      prices = ap (λ book. book.table) has.prices;
      tables = has.tables;
      owners = has.owners;
      classes = has.classes;
      waiting = has.waiting;
      posted = (has.ledger, has.cash);
      kept = has.kept;
    })

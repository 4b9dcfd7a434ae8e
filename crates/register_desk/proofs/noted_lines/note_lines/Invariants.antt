-- The books are those of the journal with the orders so far, and there is room for the others.
use Rattle.std.proofs.Common.{length, take, ◌++◌, ◌+◌, ◌≡◌, ◌≤◌}
use Rattle.dealer_lines.specs.Lines.{line_events}
use Rattle.desk_books.specs.BooksOfJournals.{AreBooksOf}
use Rattle.register_desk.proofs.noted_lines.note_lines.Given as goal
use Rattle.register_machine.specs.journal.Kinds.{accounts_of}

abbrev pub invariant-loop-order : goal.invariant-loop-order
invariant-loop-order l = record {
  noted : AreBooksOf (l.initial.books.book.journal ++ line_events l.moment (take l.order-index l.placed)) l.books;
  room : length l.placed ≤ l.books.book.spare + l.order-index;
  order_room : length l.placed ≤ l.books.orders.spare + l.order-index;
  classes : l.books.classes ≡ l.initial.books.classes;
  accounts : accounts_of l.books.book.journal ≡ accounts_of l.initial.books.book.journal;
}

-- When the orders that a dealer's lines placed are ready to be noted in the books, one behind the other.
use Rattle.std.specs.Prelude.{All, List, length, ℕ, ◌++◌, ◌≤◌}
use Rattle.agent_events.specs.declared.event.Placed.{Placed}
use Rattle.agent_events.specs.declared.request.AccountForm.{AccountForm}
use Rattle.dealer_lines.specs.Lines.{line_events}
use Rattle.desk_books.specs.NotedClasses.{IsOrderNoted}
use Rattle.desk_books.specs.declared.books.DeskBooks.{DeskBooks}
use Rattle.register_machine.specs.journal.Kinds.{accounts_of}
use Rattle.register_machine.specs.journal.Lawful.{IsLawful}
use Rattle.standing_orders.specs.ClassHouseholds.{ClassLists}

-- the household of each order's account is listed under the order's classes
abbrev pub AreLinesNoted : ClassLists → List AccountForm → List Placed → Type 0
AreLinesNoted classes accounts placed = All (λ line. IsOrderNoted classes accounts line.order) placed

-- They follow the journal in turn, there is room for all of them, and their households are listed under their classes.
pub record AreReadyToNote (books : DeskBooks) (moment : ℕ) (placed : List Placed) : Type 0 where
  pub follow : IsLawful (books.book.journal ++ line_events moment placed)
  pub room : length placed ≤ books.book.spare
  pub order_room : length placed ≤ books.orders.spare
  pub classes : AreLinesNoted books.classes (accounts_of books.book.journal) placed

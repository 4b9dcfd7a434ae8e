-- That `reserve_lines` keeps its contract.
use Rattle.std.proofs.Common.{subst}
use Rattle.desk_books.proofs.RoomMade.{with_room_for_orders}
use Rattle.register_desk.proofs.noted_lines.reserve_lines.Goals as goal
use Rattle.register_desk.specs.ReadyLines.{AreLinesNoted}
use Rattle.order_book.specs.Books.{NotedJournal}
use Rattle.register_machine.specs.journal.Kinds.{accounts_of}

pub returns-in_err-note_classes-clause-same : goal.returns-in_err-note_classes-clause-same
returns-in_err-note_classes-clause-same c =
    with_room_for_orders c.args.books.now c.reserve.new.self c.reserve-2.new.self c.note_classes.new.classes
    c.reserve.ensures.same c.reserve-2.ensures.owners c.reserve-2.ensures.waiting c.note_classes.ensures.kept

pub returns-clause-same : goal.returns-clause-same
returns-clause-same c =
    with_room_for_orders c.args.books.now c.reserve.new.self c.reserve-2.new.self c.note_classes.new.classes
    c.reserve.ensures.same c.reserve-2.ensures.owners c.reserve-2.ensures.waiting c.note_classes.ensures.kept

-- by the journal of the book with its room
pub returns-clause-classes : goal.returns-clause-classes
returns-clause-classes c =
    subst (λ (book : NotedJournal). AreLinesNoted c.note_classes.new.classes (accounts_of book.journal) c.args.placed.now) c.orders.ensures c.in_ok-note_classes.ensures.noted

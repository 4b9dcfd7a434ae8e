-- That `Desk::commit_batch` keeps its contract.
use Rattle.std.proofs.Common.{List, subst, ◌++◌}
use Rattle.agent_events.specs.declared.event.Placed.{Placed}
use Rattle.dealer_lines.specs.Lines.{line_events}
use Rattle.desk_books.specs.BooksOfJournals.{AreBooksOf}
use Rattle.register_desk.proofs.DesksGoOn.{desk_behind}
use Rattle.register_desk.proofs.desk.Desk.commit_batch.Goals as goal

-- The books are those of a lawful journal still, with the events in form.
pub invariant_of-self : goal.invariant_of-self
invariant_of-self g c =
    desk_behind c.self.inside.books c.note_lines.new.books (line_events c.args.prepared.answered.moment c.args.prepared.answered.placed) c.self.invariant
    c.requires.prepared.in_form
    (subst (λ (orders : List Placed). AreBooksOf (c.self.inside.books.book.journal ++ line_events c.args.prepared.answered.moment orders) c.note_lines.new.books)
    c.as_slice.ensures c.note_lines.ensures)

-- That `Desk::commit` keeps its contract.
use Rattle.std.proofs.Common.{subst}
use Rattle.desk_books.specs.BooksOfJournals.{AreBooksOf}
use Rattle.desk_books.specs.declared.change.EventChange.{EventChange}
use Rattle.register_desk.proofs.DesksGoOn.{desk_more, noted_fits}
use Rattle.register_desk.proofs.desk.Desk.commit.Goals as goal
use Rattle.register_machine.specs.journal.Journals.{with_event}

-- The books are those of a lawful journal still, with the event in form.
pub invariant_of-self : goal.invariant_of-self
invariant_of-self g c =
    desk_more c.self.inside.books c.apply.new.self c.in-Some.change.event c.self.invariant
    (noted_fits c.args.prepared.change c.in-Some.change c.in-Some.is c.requires.prepared.in_form)
    (subst (λ (change : EventChange). AreBooksOf (with_event c.self.inside.books.book.journal change.event) c.apply.new.self) c.into_change.ensures c.apply.ensures)

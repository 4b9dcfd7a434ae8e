-- That `Desk::prepare_batch` keeps its contract.
use Rattle.std.proofs.Common.{Ok, subst, ◌≡◌}
use Rattle.dealer_lines.specs.Answers.{lines_given}
use Rattle.desk_books.specs.declared.books.DeskBooks.{DeskBooks}
use Rattle.register_desk.proofs.DesksGoOn.{desk_same}
use Rattle.register_desk.specs.PreparedBatches.{batch_given}
use Rattle.register_laws.specs.Lawful.{own_at}
use Rattle.register_machine.specs.run.Batches.{batch_answer}
use Rattle.register_desk.proofs.desk.Desk.prepare_batch.Goals as goal

-- The books show what they showed before.
pub invariant_of-self-2 : goal.invariant_of-self-2
invariant_of-self-2 g c =
    desk_same c.self.inside.books c.reserve_lines.new.books c.self.invariant c.reserve_lines.ensures.same c.reserve_lines.ensures.journal

pub returns-clause-answer : goal.returns-clause-answer
returns-clause-answer g c =
    subst (λ (books : DeskBooks). batch_given (batch_answer (own_at books.book.journal c.args.moment c.args.caller) (Ok c.args.lines.now)) ≡ lines_given c.in_ok-answered.answered)
    c.self.view_is c.in_ok-answered.ensures.answer

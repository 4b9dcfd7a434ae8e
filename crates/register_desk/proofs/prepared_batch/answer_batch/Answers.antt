-- That `answer_batch` keeps its contract.
use Rattle.std.proofs.Common.{IfOk, Ok, subst, sym, ◌≡◌}
use Rattle.agent_events.specs.declared.verdict.Caller.{Caller}
use Rattle.dealer_lines.specs.Answers.{lines_given}
use Rattle.dealer_lines.specs.declared.answering.LinesAnswered.{LinesAnswered}
use Rattle.order_book.specs.Books.{NotedJournal}
use Rattle.register_desk.specs.PreparedBatches.{batch_given}
use Rattle.register_laws.specs.Lawful.{own_at}
use Rattle.register_machine.specs.run.Batches.{batch_after_lines, batch_answer}
use Rattle.register_desk.proofs.prepared_batch.answer_batch.Goals as goal

-- A dealer's lines are answered.
pub returns-in-Dealer-clause-answer : goal.returns-in-Dealer-clause-answer
returns-in-Dealer-clause-answer c =
    subst (λ (caller : Caller). IfOk c.answer_lines.result (λ (answered : LinesAnswered). batch_given (batch_answer (own_at c.args.books.now.book.journal c.args.moment caller) (Ok c.args.lines.now)) ≡ lines_given answered))
    (sym c.in-Dealer.is)
    (subst (λ (book : NotedJournal). IfOk c.answer_lines.result (λ (answered : LinesAnswered). batch_after_lines (own_at book.journal c.args.moment (Caller.Dealer c.in-Dealer.dealer)) c.args.lines.now ≡ lines_given answered))
    c.orders-book.ensures c.answer_lines.ensures.answer)

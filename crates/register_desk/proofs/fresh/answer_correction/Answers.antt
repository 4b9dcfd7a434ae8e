-- That `answer_correction` keeps its contract.
use Rattle.std.proofs.Common.{subst, sym}
use Rattle.desk_books.specs.Settled.{KeepsStates}
use Rattle.ledger_laws.specs.KeptOfBooks.{AreKeptOf}
use Rattle.order_book.specs.Books.{NotedJournal}
use Rattle.register_laws.specs.Lawful.{book_behind}
use Rattle.register_machine.specs.journal.Journals.{with_event}
use Rattle.register_desk.proofs.fresh.answer_correction.Goals as goal

pub answer_event-requires-clause-kept : goal.answer_event-requires-clause-kept
answer_event-requires-clause-kept g c = λ _.
    subst (λ (book : NotedJournal). AreKeptOf (book_behind (with_event book.journal c.args.event)) c.try_correction.new.books.kept) (sym c.try_correction.ensures.journal)
    (subst (KeepsStates c.args.books.now.book.journal c.args.event c.try_correction.new.books.kept) c.in-Moves.is c.in_ok-refusal.ensures.kept)

pub returns-in-Moves-clause-same : goal.returns-in-Moves-clause-same
returns-in-Moves-clause-same g c = λ journal are. c.answer_event.ensures.same journal (c.try_correction.ensures.same journal are)

-- That `try_sheet` keeps its contract.
use Rattle.std.proofs.Common.{Some, subst, sym}
use Rattle.checkpoint_replay.specs.Parts.{Households}
use Rattle.desk_books.specs.LedgerChanges.{IsLedgerChange}
use Rattle.order_book.specs.Books.{NotedJournal}
use Rattle.desk_books.proofs.sheet_trial.try_sheet.Goals as goal

pub returns-clause-change : goal.returns-clause-change
returns-clause-change g c =
    let books = c.try_published.new.books in
    subst (λ (noted : NotedJournal). IsLedgerChange noted.journal c.args.event.now c.keep_moved.new.books.ledger.parts (Some c.in_ok-change.change)) (sym c.keep_moved.ensures.journal)
    (subst (λ (ledger : Households). IsLedgerChange books.book.journal c.args.event.now ledger.parts (Some c.in_ok-change.change)) (sym c.keep_moved.ensures.ledger)
    c.in_ok-change.ensures.change)

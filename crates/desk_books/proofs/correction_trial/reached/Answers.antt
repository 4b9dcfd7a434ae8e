-- That `reached` keeps its contract.
use Rattle.std.proofs.Common.{subst}
use Rattle.std.proofs.lemmas.Result.{IfOk-weaker}
use Rattle.agent_events.specs.declared.event.EventKind.{EventKind}
use Rattle.desk_books.specs.HouseholdsReopened.{AreReached, AreReachedBy}
use Rattle.desk_books.proofs.correction_trial.reached.Goals as goal
use Rattle.order_book.specs.Books.{NotedJournal}

pub returns-clause-reached : goal.returns-clause-reached
returns-clause-reached c =
    let books = c.args.books.now in
    IfOk-weaker c.households_reached.result
    (λ households. AreReachedBy c.orders-orders.result.now.journal books.orders.owners books.classes c.kind.result.now households.items)
    (λ households. AreReached books.book.journal c.args.event.now.kind households.items)
    (λ households reached.
    subst (λ (kind : EventKind). AreReachedBy books.book.journal books.orders.owners books.classes kind households.items) c.kind.ensures.kind
    (subst (λ (book : NotedJournal). AreReachedBy book.journal books.orders.owners books.classes c.kind.result.now households.items) c.orders-orders.ensures reached)
    c.requires.index.owned c.requires.classes)
    c.households_reached.ensures.reached

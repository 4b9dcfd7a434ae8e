-- That `references_in` keeps its contract.
use Rattle.std.proofs.Common.{All, subst, ◌<◌}
use Rattle.agent_events.specs.declared.order.OrderRow.{OrderRow}
use Rattle.order_book.specs.Books.{NotedJournal}
use Rattle.register_machine.specs.pricing.CorrectedOrders.{orders_of}
use Rattle.desk_books.proofs.references.references_in.Goals as goal

pub returns : goal.returns
returns c =
    subst (λ (book : NotedJournal). All (λ (row : OrderRow). 0 < row.order.ref_no) (orders_of book.journal)) c.orders.ensures
    c.references_are_above_zero.ensures

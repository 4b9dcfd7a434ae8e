-- That `OrderBook::order` keeps its contract.
use Rattle.std.proofs.Common.{List, ap, sym, ◌∙◌}
use Rattle.std.specs.List.{slice_get}
use Rattle.std.specs.Prelude.{option_and_then}
use Rattle.agent_events.specs.declared.order.OrderRow.{OrderRow}
use Rattle.order_book.proofs.BookFound.{got-order}
use Rattle.order_book.specs.Books.{NotedJournal}
use Rattle.order_book.proofs.book.OrderBook.order.Goals as goal

pub returns-in-Some : goal.returns-in-Some
returns-in-Some c =
    (c.item_at.ensures ∙ ap (λ (rows : List OrderRow). slice_get rows c.in-Some.place) c.rows.ensures) ∙ sym (got-order c.self.inside.indexes.orders c.self.inside.events.items c.args.self.now.journal c.args.account c.args.ref_no c.place.result
    (ap (λ (book : NotedJournal). book.journal) c.self.view_is) c.self.invariant.indexes.orders c.place.ensures ∙ ap (option_and_then (slice_get c.self.inside.indexes.orders.rows.items)) c.in-Some.is)

pub returns-in-None : goal.returns-in-None
returns-in-None c =
    sym (got-order c.self.inside.indexes.orders c.self.inside.events.items c.args.self.now.journal c.args.account c.args.ref_no c.place.result
    (ap (λ (book : NotedJournal). book.journal) c.self.view_is) c.self.invariant.indexes.orders c.place.ensures ∙ ap (option_and_then (slice_get c.self.inside.indexes.orders.rows.items)) c.in-None.is)

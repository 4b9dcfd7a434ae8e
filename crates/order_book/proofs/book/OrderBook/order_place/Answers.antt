-- That `OrderBook::order_place` keeps its contract.
use Rattle.std.proofs.Common.{ap}
use Rattle.order_book.proofs.BookFound.{got-order-place}
use Rattle.order_book.specs.Books.{NotedJournal}
use Rattle.order_book.proofs.book.OrderBook.order_place.Goals as goal

pub returns : goal.returns
returns c =
    got-order-place c.self.inside.indexes.orders c.self.inside.events.items c.args.self.now.journal c.args.account c.args.ref_no c.place.result
    (ap (λ (book : NotedJournal). book.journal) c.self.view_is) c.self.invariant.indexes.orders c.place.ensures

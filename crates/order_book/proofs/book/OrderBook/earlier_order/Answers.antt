-- That `OrderBook::earlier_order` keeps its contract.
use Rattle.std.proofs.Common.{ap}
use Rattle.order_book.proofs.BookFound.{got-earlier}
use Rattle.order_book.specs.Books.{NotedJournal}
use Rattle.order_book.proofs.book.OrderBook.earlier_order.Goals as goal

pub returns : goal.returns
returns c = got-earlier c.self.inside.indexes.orders c.self.inside.events.items c.args.self.now.journal c.args.index c.earlier.result
    (ap (λ (book : NotedJournal). book.journal) c.self.view_is) c.self.invariant.indexes.orders c.earlier.ensures

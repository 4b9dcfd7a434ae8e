-- That `OrderBook::references_are_above_zero` keeps its contract.
use Rattle.std.proofs.Common.{ap}
use Rattle.order_book.proofs.BookFound.{references-above}
use Rattle.order_book.specs.Books.{NotedJournal}
use Rattle.order_book.proofs.book.OrderBook.references_are_above_zero.Goals as goal

pub returns : goal.returns
returns c = references-above c.self.inside.indexes.orders c.self.inside.events.items c.args.self.now.journal
    (ap (λ (book : NotedJournal). book.journal) c.self.view_is) c.self.invariant.indexes.orders

-- That `OrderBook::dealers` keeps its contract.
use Rattle.std.proofs.Common.{ap, length, ◌∙◌}
use Rattle.order_book.proofs.BookFound.{got-dealers}
use Rattle.order_book.specs.Books.{NotedJournal}
use Rattle.order_book.proofs.book.OrderBook.dealers.Goals as goal

pub returns : goal.returns
returns c = ap length c.dealers.ensures ∙ got-dealers c.self.inside.indexes.numbers c.self.inside.events.items c.args.self.now.journal
    (ap (λ (book : NotedJournal). book.journal) c.self.view_is) c.self.invariant.indexes.numbers

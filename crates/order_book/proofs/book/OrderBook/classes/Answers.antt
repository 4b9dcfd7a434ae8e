-- That `OrderBook::classes` keeps its contract.
use Rattle.std.proofs.Common.{ap, length, ◌∙◌}
use Rattle.order_book.proofs.BookFound.{got-classes}
use Rattle.order_book.specs.Books.{NotedJournal}
use Rattle.order_book.proofs.book.OrderBook.classes.Goals as goal

pub returns : goal.returns
returns c = ap length c.classes.ensures ∙ got-classes c.self.inside.indexes.numbers c.self.inside.events.items c.args.self.now.journal
    (ap (λ (book : NotedJournal). book.journal) c.self.view_is) c.self.invariant.indexes.numbers

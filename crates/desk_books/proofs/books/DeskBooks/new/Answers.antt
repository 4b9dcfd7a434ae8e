-- That `DeskBooks::new` keeps its contract.
use Rattle.std.proofs.Common.{ap}
use Rattle.desk_books.proofs.FirstBooks.{books_of_no_event}
use Rattle.desk_books.proofs.books.DeskBooks.new.Goals as goal
use Rattle.order_book.specs.Books.{NotedJournal}
use Rattle.standing_orders.specs.Index.{OrderPlaces}

pub returns : goal.returns
returns c =
    books_of_no_event
    (record { book = c.new-2.result; tables = c.new-3.result; prices = c.in_ok-prices.prices; orders = c.new-4.result; classes = c.new-5.result; ledger = c.new-6.result; cash = c.new-7.result; kept = c.new-8.result })
    (record {
      noted = ap (λ (book : NotedJournal). book.journal) c.new-2.ensures;
      prices = c.in_ok-prices.ensures;
      tables = c.new-3.ensures;
      owners = ap (λ (orders : OrderPlaces). orders.owners) c.new-4.ensures;
      waiting = ap (λ (orders : OrderPlaces). orders.waiting) c.new-4.ensures;
      parts = c.new-6.ensures.parts;
      tallied = c.new-6.ensures.tallied;
      installs = c.new-6.ensures.count;
      balances = c.new-7.ensures.balances;
      gains = c.new-7.ensures.gains;
      posts = c.new-7.ensures.posts;
      kept = c.new-8.ensures;
    })

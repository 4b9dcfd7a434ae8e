-- That `DeskBooks::apply` keeps its contract.
use Rattle.std.proofs.Common.{ap, refl, subst, sym, ◌<◌, ◌∙◌}
use Rattle.desk_books.proofs.BooksAfter.{books_after}
use Rattle.desk_books.proofs.IndexAfter.{is_within}
use Rattle.desk_books.proofs.LedgerAfter.{can_post}
use Rattle.desk_books.proofs.books.DeskBooks.apply.Goals as goal
use Rattle.desk_books.specs.LedgerChanges.{IsPosted}
use Rattle.desk_books.specs.OrderChanges.{waiting_after}
use Rattle.order_book.proofs.BroughtFits.{lawful_fits}
use Rattle.order_book.specs.Books.{NotedJournal}
use Rattle.reference_tables.proofs.LawfulChanges.{changes_prices}
use Rattle.reference_tables.specs.PriceChanges.{CanChange}
use Rattle.register_laws.specs.OneEventMore.{corrected_table_by}
use Rattle.register_machine.specs.pricing.CorrectedOrders.{orders_of}

pub apply-requires-clause-fits : goal.apply-requires-clause-fits
apply-requires-clause-fits c =
    let journal = c.args.self.now.book.journal in
    subst (CanChange c.args.self.now.prices.table) (sym c.kind.ensures.kind)
    (subst (λ table. CanChange table c.args.change.event.kind) (sym c.requires.books.prices)
    (changes_prices journal c.args.change.event c.requires.ready.follows).fits)

pub post_ledger-requires : goal.post_ledger-requires
post_ledger-requires c =
    let journal = c.args.self.now.book.journal in
    can_post journal c.args.change.event c.args.change.ledger c.args.self.now.ledger c.args.self.now.cash c.len-place.result c.len-place.ensures
    (lawful_fits journal c.args.change.event c.requires.ready.follows).few c.requires.ready.ledger c.requires.ready.ledger_room c.requires.books.installs c.requires.books.cash

pub note-requires-2-clause-few : goal.note-requires-2-clause-few
note-requires-2-clause-few c =
    subst (λ n. n < 100000000) (sym c.len-place.ensures) (lawful_fits c.args.self.now.book.journal c.args.change.event c.requires.ready.follows).few

pub note-requires-2-clause-fits : goal.note-requires-2-clause-fits
note-requires-2-clause-fits c =
    (lawful_fits c.args.self.now.book.journal c.args.change.event c.requires.ready.follows).fits

pub apply_orders-requires-clause-within : goal.apply_orders-requires-clause-within
apply_orders-requires-clause-within c =
    is_within c.args.self.now.book.journal c.args.self.now.orders.owners c.args.self.now.orders.waiting c.args.change.event.kind c.args.change.orders c.requires.books.index c.requires.ready.orders

pub returns : goal.returns
returns c =
    let books = c.args.self.now in
    let change = c.args.change in
    books_after books change
    (record { book = c.note-2.new.self; tables = c.note.new.self; prices = c.apply.new.prices; orders = c.apply_orders.new.orders; classes = books.classes; ledger = c.post_ledger.new.ledger; cash = c.post_ledger.new.cash; kept = books.kept })
    c.requires.books c.requires.ready
    (record {
      noted = c.note-2.ensures.journal;
      prices =
          c.apply.ensures
          ∙ (ap (λ moment. corrected_table_by books.prices.table moment c.kind.result.now) c.moment.ensures
          ∙ ap (λ kind. corrected_table_by books.prices.table change.event.moment kind) c.kind.ensures.kind);
      tables = c.note.ensures;
      owners = c.apply_orders.ensures.owners;
      classes = refl;
      waiting =
          c.apply_orders.ensures.waiting
          ∙ ap (λ (book : NotedJournal). waiting_after change.orders c.apply.new.prices.table.sheets (orders_of book.journal) books.orders.owners books.orders.waiting) c.orders.ensures;
      posted = subst (λ place. IsPosted place change.ledger books.ledger books.cash c.post_ledger.new.ledger c.post_ledger.new.cash) c.len-place.ensures c.post_ledger.ensures;
      kept = refl;
    })

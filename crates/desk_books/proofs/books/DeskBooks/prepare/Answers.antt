-- That `DeskBooks::prepare` keeps its contract.
use Rattle.std.proofs.Common.{ap, subst, sym, ◌∙◌}
use Rattle.desk_books.proofs.MovesStay.{stays_a_change}
use Rattle.desk_books.proofs.KeptAfter.{kept_behind}
use Rattle.desk_books.proofs.NamedOrders.{names_its_order}
use Rattle.desk_books.proofs.RoomMade.{with_room}
use Rattle.desk_books.proofs.books.DeskBooks.prepare.Goals as goal
use Rattle.desk_books.specs.LedgerChanges.{IsLedgerChange}
use Rattle.desk_books.specs.NotedClasses.{NotesOrder}
use Rattle.desk_books.specs.OrderChanges.{ChangesOrders, NamesItsOrder}
use Rattle.desk_books.specs.ReadyChanges.{HasItsMinute}
use Rattle.reference_tables.proofs.EventTables.{brings_loads}
use Rattle.reference_tables.specs.Tables.{IsInRange, brings_good_loads, tables_after}
use Rattle.ledger_laws.specs.KeptOfBooks.{AreKeptOf}
use Rattle.register_laws.specs.Lawful.{book_behind}
use Rattle.order_book.specs.Books.{NotedJournal}
use Rattle.reference_tables.proofs.LawfulChanges.{changes_prices}
use Rattle.reference_tables.specs.PriceChanges.{HasGoodCalendar, HasRoomFor, listing_brought}
use Rattle.register_machine.specs.journal.Journals.{with_event}
use Rattle.register_machine.specs.journal.Kinds.{accounts_of}
use Rattle.register_machine.specs.journal.Lawful.{IsLawful}

pub prepare-requires : goal.prepare-requires
prepare-requires c =
    subst HasGoodCalendar (sym c.kind-2.ensures.kind) (changes_prices c.args.self.now.book.journal c.args.event c.requires.follows).good

pub prepare-requires-2 : goal.prepare-requires-2
prepare-requires-2 c =
    ap brings_good_loads c.kind-3.ensures.kind ∙ brings_loads c.args.self.now.book.journal c.args.event c.requires.follows

pub order_change-orders-requires : goal.order_change-orders-requires
order_change-orders-requires c =
    subst (λ (book : NotedJournal). NamesItsOrder book.journal c.kind-4.result.now) (sym c.orders.ensures)
    (subst (NamesItsOrder c.args.self.now.book.journal) (sym c.kind-4.ensures.kind)
    (names_its_order c.args.self.now.book.journal c.args.event c.requires.follows))

pub returns-clause-ready : goal.returns-clause-ready
returns-clause-ready c =
    let kind = c.args.event.kind in
    let noted = sym c.reserve_orders.ensures.journal in
    record {
      follows = subst (λ journal. IsLawful (with_event journal c.args.event)) noted c.requires.follows;
      minute = subst HasItsMinute c.kind.ensures.kind c.read_minute.ensures;
      noted = c.in_ok-reserve_orders.ensures.noted;
      priced = c.in_ok-prices.ensures.change ∙ ap listing_brought c.kind-2.ensures.kind;
      price_room = subst (HasRoomFor c.prepare.new.prices) c.kind-2.ensures.kind c.in_ok-prices.ensures.room;
      tables = c.in_ok-tables.ensures.change ∙ ap (tables_after c.args.self.now.tables) c.kind-3.ensures.kind;
      table_room = c.in_ok-tables.ensures.room;
      in_range = subst IsInRange c.kind-3.ensures.kind c.prepare-2.ensures.range;
      orders =
          subst (λ journal. ChangesOrders journal kind c.order_change-orders.result)
          (ap (λ (book : NotedJournal). book.journal) c.orders.ensures ∙ noted)
          (subst (λ kind. ChangesOrders c.orders.result.now.journal kind c.order_change-orders.result) c.kind-4.ensures.kind c.order_change-orders.ensures);
      order_room = c.in_ok-reserve_orders.ensures.room;
      classes =
          subst (λ kind. NotesOrder c.note_classes.new.classes (accounts_of c.reserve_orders.new.book.journal) kind) c.kind-5.ensures.kind
          (subst (λ (book : NotedJournal). NotesOrder c.note_classes.new.classes (accounts_of book.journal) c.kind-5.result.now) c.orders-2.ensures
          c.in_ok-note_classes.ensures.noted);
      ledger =
          subst (λ journal. IsLedgerChange journal c.args.event c.reserve_ledger.new.ledger.parts c.args.ledger) noted
          (stays_a_change c.args.self.now.book.journal c.args.event c.args.self.now.ledger.parts c.reserve_ledger.new.ledger.parts c.args.ledger c.reserve_ledger.ensures.parts c.requires.ledger);
      kept =
          subst (λ journal. AreKeptOf (book_behind (with_event journal c.args.event)) c.args.self.now.kept) noted
          (kept_behind c.args.self.now.book.journal c.args.event c.args.self.now.kept c.requires.follows c.requires.books.kept c.requires.kept);
      ledger_room = c.in_ok-reserve_ledger.ensures.room;
    }

pub returns-in_err-note_classes-clause-same : goal.returns-in_err-note_classes-clause-same
returns-in_err-note_classes-clause-same c =
    with_room c.args.self.now c.reserve_orders.new.book c.prepare.new.prices c.reserve_orders.new.orders c.note_classes.new.classes c.reserve_ledger.new.ledger c.reserve_ledger.new.cash
    c.reserve_orders.ensures.journal c.prepare.ensures.table c.reserve_orders.ensures.owners c.reserve_orders.ensures.waiting c.note_classes.ensures.kept
    c.reserve_ledger.ensures.parts c.reserve_ledger.ensures.tallied c.reserve_ledger.ensures.installs c.reserve_ledger.ensures.balances c.reserve_ledger.ensures.gains c.reserve_ledger.ensures.posts

pub returns-clause-same : goal.returns-clause-same
returns-clause-same c =
    with_room c.args.self.now c.reserve_orders.new.book c.prepare.new.prices c.reserve_orders.new.orders c.note_classes.new.classes c.reserve_ledger.new.ledger c.reserve_ledger.new.cash
    c.reserve_orders.ensures.journal c.prepare.ensures.table c.reserve_orders.ensures.owners c.reserve_orders.ensures.waiting c.note_classes.ensures.kept
    c.reserve_ledger.ensures.parts c.reserve_ledger.ensures.tallied c.reserve_ledger.ensures.installs c.reserve_ledger.ensures.balances c.reserve_ledger.ensures.gains c.reserve_ledger.ensures.posts

-- That `note_line` keeps its contract.
use Rattle.std.proofs.Common.{Some, ap, append-nil, is_some, refl, subst, sym, true, ◌<◌, ◌∙◌, ◌≡◌}
use Rattle.agent_events.specs.Events.{Event}
use Rattle.dealer_lines.specs.Lines.{line_event}
use Rattle.desk_books.proofs.NamedOrders.{names_its_order}
use Rattle.register_desk.proofs.LinesNoted.{line_noted}
use Rattle.register_desk.proofs.noted_lines.note_line.Goals as goal
use Rattle.order_book.proofs.BroughtFits.{lawful_fits}
use Rattle.order_book.specs.Books.{Fits, NotedJournal}
use Rattle.register_machine.specs.journal.Journals.{with_event}
use Rattle.register_laws.proofs.OneEventMore.{gathers-on}
use Rattle.register_machine.specs.journal.Kinds.{account_in, accounts_of, household_of}

pub household_of-household-requires : goal.household_of-household-requires
household_of-household-requires c =
    let journal = c.args.books.now.book.journal in
    subst (λ (book : NotedJournal). is_some (household_of (accounts_of book.journal) c.number.result) ≡ true) (sym c.orders.ensures)
    (subst (λ n. is_some (household_of (accounts_of journal) n) ≡ true) (sym c.number.ensures.value)
    (names_its_order journal (line_event c.args.moment c.args.placed.now) c.requires.follows))

pub note-requires-clause-few : goal.note-requires-clause-few
note-requires-clause-few c =
    subst (λ n. n < 100000000) (sym c.len-place.ensures)
    (lawful_fits c.args.books.now.book.journal (line_event c.args.moment c.args.placed.now) c.requires.follows).few

pub note-requires-clause-fits : goal.note-requires-clause-fits
note-requires-clause-fits c =
    subst (λ (event : Event). Fits c.args.books.now.book.journal event) (sym c.new-event.ensures)
    (lawful_fits c.args.books.now.book.journal (line_event c.args.moment c.args.placed.now) c.requires.follows).fits

pub returns-clause-noted : goal.returns-clause-noted
returns-clause-noted c =
    let books = c.args.books.now in
    let found =
    subst (λ (book : NotedJournal). household_of (accounts_of book.journal) c.args.placed.now.order.account ≡ Some c.household_of-household.result) c.orders.ensures
    (subst (λ n. household_of (accounts_of c.orders.result.now.journal) n ≡ Some c.household_of-household.result) c.number.ensures.value c.household_of-household.ensures) in
    line_noted books c.args.moment c.args.placed.now c.household_of-household.result
    (record { book = c.note.new.self; tables = books.tables; prices = books.prices; orders = c.begin.new.self; classes = books.classes; ledger = books.ledger; cash = books.cash; kept = books.kept })
    c.requires.books c.requires.follows c.requires.room c.requires.order_room found c.requires.classes
    (record {
      noted = c.note.ensures.journal ∙ ap (λ (event : Event). with_event books.book.journal event) c.new-event.ensures;
      prices = refl;
      tables = refl;
      owners = c.begin.ensures.owners;
      waiting = c.begin.ensures.waiting;
      classes = refl;
      ledger = refl;
      cash = refl;
      kept = refl;
    })

pub returns-clause-accounts : goal.returns-clause-accounts
returns-clause-accounts c =
    ap accounts_of (c.note.ensures.journal ∙ ap (λ (event : Event). with_event c.args.books.now.book.journal event) c.new-event.ensures)
    ∙ (gathers-on account_in c.args.books.now.book.journal (line_event c.args.moment c.args.placed.now)
    ∙ append-nil (accounts_of c.args.books.now.book.journal))

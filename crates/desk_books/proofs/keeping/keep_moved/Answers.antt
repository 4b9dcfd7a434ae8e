-- That `keep_moved` keeps its contract.
use Rattle.std.proofs.Common.{ap, length, subst, sym, ℕ, ◌∙◌}
use Rattle.forward_price.specs.PriceTables.{Table}
use Rattle.register_laws.specs.Lawful.{book_behind}
use Rattle.desk_books.proofs.RoomMade.{kept_show_the_same}
use Rattle.standing_orders.proofs.SettledStay.{settled_before_waiting}
use Rattle.standing_orders.specs.SettledOrders.{AllAreSettled, first_waiting}
use Rattle.desk_books.proofs.keeping.keep_moved.Goals as goal

pub returns-clause-same : goal.returns-clause-same
returns-clause-same c = λ journal are.
    let last = c.in_ok-sheet.ensures ∙ ap (λ (table : Table). length table.sheets) are.prices in
    let settled =
    subst (λ (first : ℕ). AllAreSettled (book_behind journal) first c.in_ok-sheet.sheet) (sym c.first_waiting-orders.ensures)
    (subst (λ (sheet : ℕ). AllAreSettled (book_behind journal) (first_waiting c.args.books.now.orders.waiting (length c.args.books.now.orders.owners)) sheet) (sym last)
    (settled_before_waiting journal c.args.books.now.orders.owners c.args.books.now.orders.waiting are.lawful are.index)) in
    kept_show_the_same journal c.args.books.now c.keep_states.new.kept (c.keep_states.ensures (book_behind journal) are.ledger last settled) are

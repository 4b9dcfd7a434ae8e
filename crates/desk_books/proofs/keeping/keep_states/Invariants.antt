-- The kept states so far are what the households came to.
use Rattle.std.proofs.Common.{length, ◌≡◌}
use Rattle.ledger_laws.specs.KeptOfBooks.{AreKeptOf}
use Rattle.ledger_laws.specs.Ledgers.{IsLedgerOf}
use Rattle.register_machine.specs.pricing.CorrectedBook.{Book}
use Rattle.standing_orders.specs.SettledOrders.{AllAreSettled}
use Rattle.desk_books.proofs.keeping.keep_states.Given as goal

abbrev pub invariant-loop-change : goal.invariant-loop-change
invariant-loop-change l =
    (book : Book) → IsLedgerOf book l.ledger.parts → l.sheet ≡ length book.table.sheets
    → AllAreSettled book l.orders l.sheet → AreKeptOf book l.fn.kept → AreKeptOf book l.kept

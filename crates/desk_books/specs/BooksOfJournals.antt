-- What the desk keeps of a journal: the book of orders, the tables by number, the prices, the index of orders, the households
-- that have named each class, the ledger, the cash book and the kept states, each that of the journal.
use Rattle.std.specs.Prelude.{None, Some, length, slice_get, take, ℕ, ◌≡◌, ◌≤◌}
use Rattle.agent_events.specs.Events.{Event}
use Rattle.agent_events.specs.declared.order.Party.{Party}
use Rattle.checkpoint_replay.specs.Tallied.{IsTallied}
use Rattle.desk_books.specs.declared.books.DeskBooks.{DeskBooks}
use Rattle.holder_statements.specs.EventReplies.{AreKeptFor}
use Rattle.gain_loss_book.specs.Booked.{cash_booked}
use Rattle.gain_loss_book.specs.Posted.{Books, cash_held, gains_kept}
use Rattle.reference_tables.specs.TablesOfJournals.{AreTablesOf}
use Rattle.ledger_laws.specs.KeptOfBooks.{AreKeptOf}
use Rattle.ledger_laws.specs.Ledgers.{IsLedgerOf}
use Rattle.register_laws.specs.Lawful.{book_behind}
use Rattle.register_laws.specs.OneEventMore.{corrected_table}
use Rattle.register_machine.specs.journal.Journals.{Journal}
use Rattle.register_machine.specs.journal.Lawful.{IsLawful}
use Rattle.register_machine.specs.pricing.CorrectedOrders.{orders_of}
use Rattle.register_machine.specs.replay.Replay.{replay}
use Rattle.standing_orders.specs.ClassHouseholds.{AreNoted}
use Rattle.holder_statements.specs.LawfulStatements.{IsTimely}
use Rattle.standing_orders.specs.IndexOfJournals.{IsIndexOf}

-- the cash of each party as it is booked, the gains of each correction as they were at its event, and no others
pub record IsCashOf (journal : Journal) (cash : Books) : Type 0 where
  pub balances : (party : Party) → cash_held cash party ≡ cash_booked journal (replay (book_behind journal)) party
  pub gains : (place : ℕ) (event : Event) → slice_get journal place ≡ Some event → AreKeptFor (take place journal) event (gains_kept cash place)
  pub no_more : (place : ℕ) → length journal ≤ place → gains_kept cash place ≡ None
  pub posts : cash.posts ≤ length journal

-- all of them, of a lawful journal whose calendars have a time of day
pub record AreBooksOf (journal : Journal) (books : DeskBooks) : Type 0 where
  pub noted : books.book.journal ≡ journal
  pub lawful : IsLawful journal
  pub timely : IsTimely journal
  pub prices : books.prices.table ≡ corrected_table journal
  pub tables : AreTablesOf journal books.tables
  pub index : IsIndexOf journal books.orders.owners books.orders.waiting
  pub classes : AreNoted books.classes (orders_of journal) books.orders.owners
  pub ledger : IsLedgerOf (book_behind journal) books.ledger.parts
  pub tallied : IsTallied books.ledger
  pub installs : books.ledger.totals.cash.posts ≤ length journal
  pub cash : IsCashOf journal books.cash
  pub kept : AreKeptOf (book_behind journal) books.kept

-- Both are the books of the same journals: what one shows the other shows, whatever room there is in them.
abbrev pub ShowTheSame : DeskBooks → DeskBooks → Type 0
ShowTheSame books others = (journal : Journal) → AreBooksOf journal books → AreBooksOf journal others

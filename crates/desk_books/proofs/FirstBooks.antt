-- The books of no event.
use Rattle.std.proofs.Common.{None, Some, [], ap, arith, pos, refl, subst, sym, ℕ, ◌∙◌, ◌≡◌, ◌≤◌}
use Rattle.std.proofs.lemmas.List.Elements.{All-nil}
use Rattle.agent_events.specs.declared.order.Party.{Party}
use Rattle.agent_events.specs.declared.request.CalendarForm.{CalendarForm}
use Rattle.checkpoint_replay.specs.Tallied.{IsTallied}
use Rattle.desk_books.specs.BooksOfJournals.{AreBooksOf, IsCashOf}
use Rattle.desk_books.specs.declared.books.DeskBooks.{DeskBooks}
use Rattle.forward_price.specs.PriceTables.{Book, empty_book}
use Rattle.gain_loss_book.specs.Booked.{cash_booked}
use Rattle.gain_loss_book.specs.Posted.{cash_held, gains_kept}
use Rattle.reference_tables.proofs.EventTables.{none_yet}
use Rattle.reference_tables.specs.Tables.{no_tables}
use Rattle.reference_tables.specs.TablesOfJournals.{AreTablesOf}
use Rattle.ledger_laws.proofs.StatesStay.{none_kept}
use Rattle.ledger_laws.specs.KeptOfBooks.{AreKeptOf}
use Rattle.ledger_laws.proofs.LedgersOfBooks.{empty_ledger}
use Rattle.ledger_laws.specs.Ledgers.{IsLedgerOf}
use Rattle.register_laws.specs.Lawful.{book_behind}
use Rattle.register_laws.specs.OneEventMore.{corrected_table}
use Rattle.register_machine.specs.pricing.PublishedTable.{table_behind}
use Rattle.register_machine.specs.replay.Replay.{replay}
use Rattle.standing_orders.specs.IndexOfJournals.{IsIndexOf}

no-row : {X : Type 0} {x : X} → None ≡ Some x → ⊥
no-row e = cc

-- Books of which each is empty.
pub record AreEmpty (books : DeskBooks) : Type 0 where
  pub noted : books.book.journal ≡ []
  pub prices : books.prices ≡ empty_book
  pub tables : books.tables ≡ no_tables
  pub owners : books.orders.owners ≡ []
  pub waiting : books.orders.waiting ≡ []
  pub parts : books.ledger.parts ≡ []
  pub tallied : IsTallied books.ledger
  pub installs : books.ledger.totals.cash.posts ≡ 0
  pub balances : (party : Party) → cash_held books.cash party ≡ pos 0
  pub gains : (place : ℕ) → gains_kept books.cash place ≡ None
  pub posts : books.cash.posts ≡ 0
  pub kept : books.kept ≡ []

empty-prices : empty_book.table ≡ corrected_table []
unfolding table_behind
empty-prices = refl

empty-balances : (party : Party) → cash_booked [] (replay (book_behind [])) party ≡ pos 0
unfolding replay table_behind
empty-balances party = refl

empty-index : IsIndexOf [] [] []
empty-index = record {
  owned = refl;
  within = tt;
  enough = λ place row got waits. absurd (no-row got);
  all_wait = λ place row got. absurd (no-row got);
}

first-cash : (books : DeskBooks) → AreEmpty books → IsCashOf [] books.cash
first-cash books empty = record {
  balances = λ party. empty.balances party ∙ sym (empty-balances party);
  gains = λ place event got. absurd (no-row got);
  no_more = λ place past. empty.gains place;
  posts = omega (arith, empty.posts);
}

-- They are the books of no event.
pub books_of_no_event : (books : DeskBooks) → AreEmpty books → AreBooksOf [] books
books_of_no_event books empty = record {
  noted = empty.noted;
  lawful = tt;
  timely = All-nil (λ (form : CalendarForm). form.minute ≤ 1439);
  prices = ap (λ (book : Book). book.table) empty.prices ∙ empty-prices;
  tables = subst (AreTablesOf []) (sym empty.tables) none_yet;
  index = subst (λ owners. IsIndexOf [] owners books.orders.waiting) (sym empty.owners) (subst (IsIndexOf [] []) (sym empty.waiting) empty-index);
  classes = tt;
  ledger = subst (IsLedgerOf (book_behind [])) (sym empty.parts) empty_ledger;
  tallied = empty.tallied;
  installs = omega (arith, empty.installs);
  cash = first-cash books empty;
  kept = subst (AreKeptOf (book_behind [])) (sym empty.kept) (none_kept (book_behind []));
}

-- Books in which room was made, and more households are listed under classes, show what they showed before; so do books whose kept
-- states are others that still serve.
use Rattle.checkpoint_replay.specs.declared.states.KeptState.{KeptState}
use Rattle.std.proofs.Common.{List, refl, subst, sym, true, ℕ, ◌∙◌, ◌≡◌, ◌≤◌}
use Rattle.agent_events.specs.declared.order.Party.{Party}
use Rattle.checkpoint_replay.specs.Parts.{Households, part_in}
use Rattle.checkpoint_replay.specs.Tallied.{IsTallied}
use Rattle.desk_books.proofs.NotedAfter.{noted_kept}
use Rattle.desk_books.specs.BooksOfJournals.{AreBooksOf, IsCashOf, ShowTheSame}
use Rattle.desk_books.specs.declared.books.DeskBooks.{DeskBooks}
use Rattle.holder_statements.specs.EventReplies.{AreKeptFor}
use Rattle.forward_price.specs.PriceTables.{Book as PriceBook}
use Rattle.gain_loss_book.specs.Posted.{Books, cash_held, gains_kept}
use Rattle.reference_tables.specs.TablesOfJournals.{AreTablesOf}
use Rattle.ledger_laws.specs.KeptOfBooks.{AreKeptOf}
use Rattle.standing_orders.specs.IndexOfJournals.{IsIndexOf}
use Rattle.order_book.specs.Books.{NotedJournal}
use Rattle.register_laws.specs.Lawful.{book_behind}
use Rattle.register_machine.specs.journal.Journals.{Journal}
use Rattle.register_machine.specs.pricing.CorrectedOrders.{orders_of}
use Rattle.standing_orders.specs.Index.{OrderPlaces}
use Rattle.standing_orders.specs.ClassHouseholds.{AreNoted, is_listed}
use Rattle.std.specs.Prelude.{length, take}

-- What the two have in common, field by field.
pub record AreAlike (before after : DeskBooks) : Type 0 where
  pub journal : after.book.journal ≡ before.book.journal
  pub prices : after.prices.table ≡ before.prices.table
  pub tables : after.tables ≡ before.tables
  pub owners : after.orders.owners ≡ before.orders.owners
  pub waiting : after.orders.waiting ≡ before.orders.waiting
  pub classes : (class household : ℕ) → is_listed before.classes class household ≡ true → is_listed after.classes class household ≡ true
  pub parts : (household : ℕ) → part_in after.ledger.parts household ≡ part_in before.ledger.parts household
  pub tallied : IsTallied before.ledger → IsTallied after.ledger
  pub installs : after.ledger.totals.cash.posts ≡ before.ledger.totals.cash.posts
  pub balances : (party : Party) → cash_held after.cash party ≡ cash_held before.cash party
  pub gains : (place : ℕ) → gains_kept after.cash place ≡ gains_kept before.cash place
  pub posts : after.cash.posts ≡ before.cash.posts
  pub kept : after.kept ≡ before.kept

pub cash_alike : (journal : Journal) (before after : Books) → ((party : Party) → cash_held after party ≡ cash_held before party) → ((place : ℕ) → gains_kept after place ≡ gains_kept before place) → after.posts ≡ before.posts
    → IsCashOf journal before → IsCashOf journal after
cash_alike journal before after balances gains posts are = record {
  balances = λ party. balances party ∙ are.balances party;
  gains = λ place event got. subst (AreKeptFor (take place journal) event) (sym (gains place)) (are.gains place event got);
  no_more = λ place past. gains place ∙ are.no_more place past;
  posts = subst (λ n. n ≤ length journal) (sym posts) are.posts;
}

pub show_the_same : (before after : DeskBooks) → AreAlike before after → ShowTheSame before after
show_the_same before after alike journal are = record {
  noted = alike.journal ∙ are.noted;
  lawful = are.lawful;
  timely = are.timely;
  prices = alike.prices ∙ are.prices;
  tables = subst (AreTablesOf journal) (sym alike.tables) are.tables;
  index =
      subst (λ owners. IsIndexOf journal owners after.orders.waiting) (sym alike.owners)
      (subst (IsIndexOf journal before.orders.owners) (sym alike.waiting) are.index);
  classes =
      subst (AreNoted after.classes (orders_of journal)) (sym alike.owners)
      (noted_kept before.classes after.classes alike.classes (orders_of journal) before.orders.owners are.classes);
  ledger = record { part = λ household. alike.parts household ∙ are.ledger.part household };
  tallied = alike.tallied are.tallied;
  installs = subst (λ n. n ≤ length journal) (sym alike.installs) are.installs;
  cash = cash_alike journal before.cash after.cash alike.balances alike.gains alike.posts are.cash;
  kept = subst (AreKeptOf (book_behind journal)) (sym alike.kept) are.kept;
}

-- by the parts in which room was made
pub with_room : (books : DeskBooks) (book : NotedJournal) (prices : PriceBook) (orders : OrderPlaces) (classes : List (ℕ × List ℕ)) (ledger : Households) (cash : Books)
    → book.journal ≡ books.book.journal
    → prices.table ≡ books.prices.table
    → orders.owners ≡ books.orders.owners
    → orders.waiting ≡ books.orders.waiting
    → ((class household : ℕ) → is_listed books.classes class household ≡ true → is_listed classes class household ≡ true)
    → ((household : ℕ) → part_in ledger.parts household ≡ part_in books.ledger.parts household)
    → (IsTallied books.ledger → IsTallied ledger)
    → ledger.totals.cash.posts ≡ books.ledger.totals.cash.posts
    → ((party : Party) → cash_held cash party ≡ cash_held books.cash party)
    → ((place : ℕ) → gains_kept cash place ≡ gains_kept books.cash place)
    → cash.posts ≡ books.cash.posts
    → ShowTheSame books (record { book = book; tables = books.tables; prices = prices; orders = orders; classes = classes; ledger = ledger; cash = cash; kept = books.kept })
with_room books book prices orders classes ledger cash journal table owners waiting listed parts tallied installs balances gains posts =
    show_the_same books (record { book = book; tables = books.tables; prices = prices; orders = orders; classes = classes; ledger = ledger; cash = cash; kept = books.kept })
    (record {
      journal = journal;
      prices = table;
      tables = refl;
      owners = owners;
      waiting = waiting;
      classes = listed;
      parts = parts;
      tallied = tallied;
      installs = installs;
      balances = balances;
      gains = gains;
      posts = posts;
      kept = refl;
    })

-- room for orders alone, and their households listed under the classes
pub with_room_for_orders : (books : DeskBooks) (book : NotedJournal) (orders : OrderPlaces) (classes : List (ℕ × List ℕ))
    → book.journal ≡ books.book.journal
    → orders.owners ≡ books.orders.owners
    → orders.waiting ≡ books.orders.waiting
    → ((class household : ℕ) → is_listed books.classes class household ≡ true → is_listed classes class household ≡ true)
    → ShowTheSame books (record { book = book; tables = books.tables; prices = books.prices; orders = orders; classes = classes; ledger = books.ledger; cash = books.cash; kept = books.kept })
with_room_for_orders books book orders classes journal owners waiting listed =
    with_room books book books.prices orders classes books.ledger books.cash journal refl owners waiting listed (λ household. refl) (λ are. are) refl (λ party. refl) (λ place. refl) refl

-- books whose kept states still are what the households came to show the same
pub kept_show_the_same : (journal : Journal) (books : DeskBooks) (kept : List (ℕ × List KeptState)) → (AreKeptOf (book_behind journal) books.kept → AreKeptOf (book_behind journal) kept) → AreBooksOf journal books → AreBooksOf journal (record { book = books.book; tables = books.tables; prices = books.prices; orders = books.orders; classes = books.classes; ledger = books.ledger; cash = books.cash; kept = kept })
kept_show_the_same journal books kept stay are = record {
  noted = are.noted;
  lawful = are.lawful;
  timely = are.timely;
  prices = are.prices;
  tables = are.tables;
  index = are.index;
  classes = are.classes;
  ledger = are.ledger;
  tallied = are.tallied;
  installs = are.installs;
  cash = are.cash;
  kept = stay are.kept;
}

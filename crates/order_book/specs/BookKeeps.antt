-- What a book keeps of its events.
use Rattle.std.specs.Prelude.{vec_capacity, vec_len, ◌+◌, ◌≡◌, ◌≤◌}
use Rattle.order_book.specs.AllIndexes.{HasAllRoom, KeepsAll}
use Rattle.order_book.specs.Books.{NotedJournal}
use Rattle.order_book.specs.declared.book.OrderBook.TheInside.{Inside}
use Rattle.register_machine.specs.journal.Journals.{last_moment}

abbrev pub noted_journal : Inside → NotedJournal
noted_journal book = record { journal = book.events.items; spare = book.spare }

pub record IsKept (book : Inside) : Type 0 where
  pub last : book.last ≡ last_moment book.events.items
  pub indexes : KeepsAll book.indexes book.events.items
  pub events : vec_len book.events + book.spare ≤ vec_capacity book.events
  pub room : HasAllRoom book.indexes book.spare

-- The rows of a journal as the store keeps them, and the first of some rows that no lawful journal has there.
use Rattle.std.specs.Prelude.{All, List, Option, Some, length, map, slice_get, take, ℕ, ◌<◌, ◌≡◌}
use Rattle.agent_events.specs.Events.{Event}
use Rattle.agent_keeper.specs.Content.{Content}
use Rattle.desk_books.specs.BooksOfJournals.{AreBooksOf}
use Rattle.desk_books.specs.declared.books.DeskBooks.{DeskBooks}
use Rattle.event_rows.specs.InForm.{InForm}
use Rattle.event_rows.specs.Rows.{event_row}
use Rattle.register_machine.specs.journal.Journals.{Journal, with_event}
use Rattle.register_machine.specs.journal.Lawful.{IsLawful}

-- the rows of a journal's events, in order
abbrev pub rows_of : Journal → List (List ℕ)
rows_of journal = map event_row journal

-- what is told is the rows of the journal, whatever is told
abbrev pub TellsRowsOf : (Content → Type 0) → Journal → Type 0
TellsRowsOf told journal = (kept : Content) → told kept → kept.rows ≡ rows_of journal

-- the books of a lawful journal, each of whose events has its spelling
pub record IsDesk (books : DeskBooks) : Type 0 where
  pub of_journal : AreBooksOf books.book.journal books
  pub in_form : All InForm books.book.journal

-- no event has this row that the machine appends to the journal: it is missing, no spelling, or that of an event which doesn't follow
abbrev pub FollowsAsNone : Option (List ℕ) → Journal → Type 0
FollowsAsNone row journal = (event : Event) → InForm event → row ≡ Some (event_row event) → IsLawful (with_event journal event) → ⊥

-- The row at a place is the first bad one: those before it are the rows of a lawful journal, and it is missing, no spelling, or that of
-- an event which the machine doesn't append there.
pub record IsFirstBad (row : Option (List ℕ)) (before : List (List ℕ)) : Type 0 where
  pub journal : Journal
  pub lawful : IsLawful journal
  pub in_form : All InForm journal
  pub rows : before ≡ rows_of journal
  pub bad : FollowsAsNone row journal

-- there is a row at the place, and it is the first bad one
abbrev pub IsDamagedAt : ℕ → List (List ℕ) → Type 0
IsDamagedAt place rows = (place < length rows) × IsFirstBad (slice_get rows place) (take place rows)

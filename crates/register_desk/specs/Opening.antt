-- What the store gave when it was opened: its rows from the first on, all of them or up to the first bad one.
use Rattle.std.specs.Prelude.{List, Option, Some, length, slice_get, take, ℕ, ◌<◌, ◌≡◌}
use Rattle.agent_events.specs.Events.{Event}
use Rattle.agent_keeper.specs.Calls.{Answer, Gives, length_is, row_is}
use Rattle.agent_keeper.specs.Content.{Content}
use Rattle.agent_keeper.specs.declared.fault.KeepFault.{KeepFault}
use Rattle.desk_books.specs.declared.books.DeskBooks.{DeskBooks}
use Rattle.event_rows.specs.Rows.{event_row}
use Rattle.register_desk.specs.Rows.{FollowsAsNone, IsDesk, IsFirstBad, rows_of}
use Rattle.register_desk.specs.declared.faults.StartFault.{StartFault}
use Rattle.register_machine.specs.journal.Journals.{Journal, with_event}

-- the fault of opening that a fault of the keeper is
abbrev pub start_fault : KeepFault → StartFault
start_fault KeepFault.Failed = StartFault.Keeper
start_fault KeepFault.NoMemory = StartFault.NoMemory

-- each of these rows was given, at its place from 0
abbrev pub AreGiven : {K : Type 0} → (K → ℕ) → (K → ℕ → Answer → Type 0) → K → K → List (List ℕ) → Type 0
AreGiven moment gave old new rows =
    (place : ℕ) (row : List ℕ) → slice_get rows place ≡ Some row → Gives moment gave old new (row_is place (Some row))

-- the number of these rows was given, and each of them
pub record AreAllGiven {K : Type 0} (moment : K → ℕ) (gave : K → ℕ → Answer → Type 0) (old new : K) (rows : List (List ℕ)) : Type 0 where
  pub counted : Gives moment gave old new (length_is (length rows))
  pub given : AreGiven moment gave old new rows

-- Of more rows than stand before this place, as the store said, it gave those before it, and at the place the first bad one or none.
pub record IsGivenBadAt {K : Type 0} (moment : K → ℕ) (gave : K → ℕ → Answer → Type 0) (old new : K) (place : ℕ) : Type 0 where
  pub count : ℕ
  pub counted : Gives moment gave old new (length_is count)
  pub within : place < count
  pub before : List (List ℕ)
  pub places : length before ≡ place
  pub before_given : AreGiven moment gave old new before
  pub row : Option (List ℕ)
  pub row_given : Gives moment gave old new (row_is place row)
  pub bad : IsFirstBad row before

-- the row at a place, as it is told and as it was given
pub record ShowsRow {K : Type 0} (tells : K → Content → Type 0) (moment : K → ℕ) (gave : K → ℕ → Answer → Type 0) (old new : K)
    (place : ℕ) (row : Option (List ℕ)) : Type 0 where
  pub told : (kept : Content) → tells new kept → slice_get kept.rows place ≡ row
  pub given : Gives moment gave old new (row_is place row)

-- the rows of a journal are the first rows, as they are told and as they were given
pub record ShowsRowsOf {K : Type 0} (tells : K → Content → Type 0) (moment : K → ℕ) (gave : K → ℕ → Answer → Type 0) (old new : K)
    (journal : Journal) : Type 0 where
  pub told : (kept : Content) → tells new kept → take (length journal) kept.rows ≡ rows_of journal
  pub given : AreGiven moment gave old new (rows_of journal)

-- the row at a place is an event's, and the books are those of the journal with that event
pub record OpensRow {K : Type 0} (tells : K → Content → Type 0) (moment : K → ℕ) (gave : K → ℕ → Answer → Type 0) (old new : K)
    (place : ℕ) (journal : Journal) (books : DeskBooks) : Type 0 where
  pub event : Event
  pub shown : ShowsRow tells moment gave old new place (Some (event_row event))
  pub noted : books.book.journal ≡ with_event journal event
  pub desk : IsDesk books

-- the row at a place is none that follows the journal
pub record FindsNone {K : Type 0} (tells : K → Content → Type 0) (moment : K → ℕ) (gave : K → ℕ → Answer → Type 0) (old new : K)
    (place : ℕ) (journal : Journal) : Type 0 where
  pub row : Option (List ℕ)
  pub shown : ShowsRow tells moment gave old new place row
  pub bad : FollowsAsNone row journal

-- the first rows, so many, are those of the books' journal
pub record OpensRows {K : Type 0} (tells : K → Content → Type 0) (moment : K → ℕ) (gave : K → ℕ → Answer → Type 0) (old new : K)
    (count : ℕ) (books : DeskBooks) : Type 0 where
  pub shown : ShowsRowsOf tells moment gave old new books.book.journal
  pub counted : length books.book.journal ≡ count
  pub desk : IsDesk books

-- the first rows are those of the books of a journal, and the next is none that follows it
pub record StopsAt {K : Type 0} (tells : K → Content → Type 0) (moment : K → ℕ) (gave : K → ℕ → Answer → Type 0) (old new : K)
    (place : ℕ) : Type 0 where
  pub books : DeskBooks
  pub opened : OpensRows tells moment gave old new place books
  pub next : FindsNone tells moment gave old new place books.book.journal

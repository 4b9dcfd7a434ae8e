-- What a prepared answer holds: its events with their rows, and all that they change.
use Rattle.std.specs.Prelude.{All, [], length, ◌≡◌}
use Rattle.register_desk.specs.Answered.{IsReadyToNote, events_of}
use Rattle.desk_books.specs.declared.books.DeskBooks.{DeskBooks}
use Rattle.event_rows.specs.InForm.{InForm}
use Rattle.register_desk.specs.Rows.{rows_of}
use Rattle.register_desk.specs.declared.prepared.Prepared.{Prepared}

-- It was prepared at the present journal, its events have their spellings, and there is room in the books for what it changes.
pub record IsPreparedAt (books : DeskBooks) (prepared : Prepared) : Type 0 where
  pub base : prepared.base ≡ length books.book.journal
  pub rows : prepared.batch.rows ≡ rows_of (events_of prepared.change)
  pub puts : prepared.batch.puts ≡ []
  pub removes : prepared.batch.removes ≡ []
  pub in_form : All InForm (events_of prepared.change)
  pub ready : IsReadyToNote books prepared.change

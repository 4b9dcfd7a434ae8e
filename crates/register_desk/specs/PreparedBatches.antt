-- What a prepared batch holds: the replies to its lines, and its events with their rows.
use Rattle.std.specs.Prelude.{All, Err, List, Ok, Result, [], length, ◌∷◌, ◌≡◌}
use Rattle.agent_events.specs.Events.{Event}
use Rattle.agent_events.specs.declared.reply.Refusal.{Refusal}
use Rattle.agent_events.specs.declared.reply.Reply.{Reply}
use Rattle.dealer_lines.specs.Lines.{line_events}
use Rattle.desk_books.specs.declared.books.DeskBooks.{DeskBooks}
use Rattle.register_desk.specs.ReadyLines.{AreReadyToNote}
use Rattle.event_rows.specs.InForm.{InForm}
use Rattle.register_desk.specs.Rows.{rows_of}
use Rattle.register_desk.specs.declared.prepared_batch.PreparedBatch.{PreparedBatch}
use Rattle.register_machine.specs.run.Batches.{BatchAnswer}

-- the replies and events of a batch; one that is refused has its refusal for the whole, and brings nothing
abbrev pub batch_given : Result BatchAnswer Refusal → BatchAnswer
batch_given (Ok answered) = answered
batch_given (Err refusal) = record { replies = Reply.Refused refusal ∷ []; events = [] }

abbrev pub events_of_batch : PreparedBatch → List Event
events_of_batch prepared = line_events prepared.answered.moment prepared.answered.placed

abbrev pub batch_prepared : PreparedBatch → BatchAnswer
batch_prepared prepared = record { replies = prepared.answered.replies; events = events_of_batch prepared }

-- It was prepared at the present journal, its events have their spellings, and there is room in the books for all of them.
pub record IsBatchPreparedAt (books : DeskBooks) (prepared : PreparedBatch) : Type 0 where
  pub base : prepared.base ≡ length books.book.journal
  pub rows : prepared.batch.rows ≡ rows_of (events_of_batch prepared)
  pub puts : prepared.batch.puts ≡ []
  pub removes : prepared.batch.removes ≡ []
  pub in_form : All InForm (events_of_batch prepared)
  pub ready : AreReadyToNote books prepared.answered.moment prepared.answered.placed

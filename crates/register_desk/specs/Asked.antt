-- An event that is asked for again by its own request: it follows the journal where the machine brings this very event.
use Rattle.std.specs.Prelude.{Bool, None, Option, Some, ℕ, ◌&&◌, ◌==◌}
use Rattle.agent_events.specs.Events.{Event, request_of}
use Rattle.agent_events.specs.declared.event.EventKind.{EventKind}
use Rattle.register_desk.specs.Answered.{IsAnswer}
use Rattle.register_desk.specs.declared.answering.Answered.{Answered}
use Rattle.desk_books.specs.declared.change.EventChange.{EventChange}
use Rattle.register_machine.specs.journal.Choices.{when}
use Rattle.register_machine.specs.journal.Journals.{Journal}
use Rattle.register_machine.specs.journal.Lawful.{asker_of}

-- the answer is the machine's to the event's own request, by its asker at its moment
abbrev pub IsAskedAgain : Journal → Event → Answered → Type 0
IsAskedAgain journal event answered =
    IsAnswer journal event.moment (asker_of journal event.kind) (request_of event.kind) answered

-- An order keeps its receipt and its due moment; whatever else an event keeps is in its request.
abbrev pub moments_kept : EventKind → ℕ × ℕ
moments_kept (EventKind.Order placed) = (placed.receipt, placed.due)
moments_kept _ = (0, 0)

abbrev pub keeps_moments : EventKind → EventKind → Bool
keeps_moments kind other =
    (moments_kept kind).0 == (moments_kept other).0 && (moments_kept kind).1 == (moments_kept other).1

-- the change, where it is of this event
abbrev pub change_to : Option EventChange → Event → Option EventChange
change_to None event = None
change_to (Some change) event = when (keeps_moments change.event.kind event.kind) change

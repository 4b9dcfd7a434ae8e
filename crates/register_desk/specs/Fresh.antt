-- The answer to an event that a request brings, by what the last rule says of it, and what the event makes of the ledger.
use Rattle.std.specs.Prelude.{List, None, Option, Some, [], ◌∷◌, ◌≡◌}
use Rattle.agent_events.specs.Events.{Event}
use Rattle.agent_events.specs.declared.reply.Refusal.{Refusal}
use Rattle.checkpoint_replay.specs.declared.change.HouseholdMove.{HouseholdMove}
use Rattle.desk_books.specs.CorrectionTrials.{last_says}
use Rattle.desk_books.specs.declared.change.EventChange.{EventChange}
use Rattle.desk_books.specs.declared.change.LedgerChange.{LedgerChange}
use Rattle.register_machine.specs.journal.Journals.{Journal, with_event}
use Rattle.register_machine.specs.journal.Lawful.{IsLawful}
use Rattle.register_machine.specs.run.Answers.{Answer, refuses}
use Rattle.register_machine.specs.run.Replies.{first_reply}

-- an event gets its first reply and is appended, unless the last rule refuses it
abbrev pub first_answer : Journal → Event → Option Refusal → Answer
first_answer journal event None = record { reply = first_reply journal event; events = event ∷ [] }
first_answer journal event (Some refusal) = refuses refusal

-- where the last rule says nothing, the event follows the journal
abbrev pub FollowsUnlessBroken : Journal → Event → Type 0
FollowsUnlessBroken journal event = last_says journal event ≡ None → IsLawful (with_event journal event)

-- what a change makes of the ledger
abbrev pub ledger_of : Option EventChange → Option LedgerChange
ledger_of None = None
ledger_of (Some change) = change.ledger

-- the households that it moves
abbrev pub moves_in : Option LedgerChange → List HouseholdMove
moves_in None = []
moves_in (Some ledger) = ledger.change.moves

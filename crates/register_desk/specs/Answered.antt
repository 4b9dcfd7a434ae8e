-- What the books answer to a request: the machine's reply, and its event with all that it changes in them.
use Rattle.std.specs.Prelude.{List, None, Option, Some, [], is_some, true, ℕ, ◌∷◌, ◌≡◌}
use Rattle.agent_events.specs.Events.{Event}
use Rattle.agent_events.specs.declared.request.Request.{Request}
use Rattle.agent_events.specs.declared.verdict.Caller.{Caller}
use Rattle.register_desk.specs.declared.answering.Answered.{Answered}
use Rattle.desk_books.specs.ReadyChanges.{IsReady}
use Rattle.desk_books.specs.declared.books.DeskBooks.{DeskBooks}
use Rattle.desk_books.specs.declared.change.EventChange.{EventChange}
use Rattle.register_laws.specs.Lawful.{own_at}
use Rattle.register_machine.specs.journal.Journals.{Journal}
use Rattle.register_machine.specs.journal.Kinds.{dealer_numbered, dealers_of}
use Rattle.register_machine.specs.run.Answers.{Answer, answer}

-- the caller is the operator, a stranger, a household, or a dealer of the journal
abbrev pub IsCaller : Journal → Caller → Type 0
IsCaller journal Caller.Operator = Unit {0}
IsCaller journal (Caller.Household household) = Unit {0}
IsCaller journal (Caller.Dealer dealer) = is_some (dealer_numbered (dealers_of journal) dealer) ≡ true
IsCaller journal Caller.Stranger = Unit {0}

-- the events that a change notes
abbrev pub events_of : Option EventChange → List Event
events_of None = []
events_of (Some change) = change.event ∷ []

-- the answer is the machine's
abbrev pub answer_given : Answered → Answer
answer_given answered = record { reply = answered.reply; events = events_of answered.change }

abbrev pub IsAnswer : Journal → ℕ → Caller → Request → Answered → Type 0
IsAnswer journal now caller request answered = answer (own_at journal now caller) request ≡ answer_given answered

-- and its event is ready to be noted
abbrev pub IsReadyToNote : DeskBooks → Option EventChange → Type 0
IsReadyToNote books None = Unit {0}
IsReadyToNote books (Some change) = IsReady books change

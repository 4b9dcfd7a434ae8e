-- What the laws of the whole machine say, in the trade's words.
use Rattle.std.specs.Prelude.{Bool, IfSome, List, None, Some, [], false, position, slice_get, take, true, ℕ, ◌∷◌, ◌≡◌, ◌⊎◌}
use Rattle.agent_events.specs.Events.{Event, event_of, request_of}
use Rattle.agent_events.specs.declared.event.EventKind.{EventKind}
use Rattle.agent_events.specs.declared.reply.Refusal.{Refusal}
use Rattle.agent_events.specs.declared.reply.Reply.{Reply}
use Rattle.agent_events.specs.declared.request.Request.{Request}
use Rattle.forward_price.specs.July.{sheets_of_july}
use Rattle.forward_price.specs.PriceTables.{IsPricedBy}
use Rattle.forward_price.specs.declared.price_sheet.Sheet.{Sheet}
use Rattle.register_machine.specs.journal.Choices.{first_some}
use Rattle.register_machine.specs.pricing.CorrectedBook.{book_of}
use Rattle.register_machine.specs.pricing.OrderClasses.{classes_in}
use Rattle.register_machine.specs.pricing.PublishedTable.{table_of}
use Rattle.register_machine.specs.replay.Replay.{Priced}
use Rattle.register_machine.specs.rules.Breaks.{breaks}
use Rattle.register_machine.specs.rules.InOrder.{broken_rule, first_rules}
use Rattle.register_machine.specs.rules.Situations.{Situation, event_at}
use Rattle.register_machine.specs.run.Answers.{answer, machine_answer, says}
use Rattle.register_machine.specs.run.Replies.{first_reply}
use Rattle.register_machine.specs.run.Scripts.{Run, situation_in}
use Rattle.register_machine.specs.run.Verdicts.{due_now, repeats}

-- the requests that only look
abbrev pub is_query : Request → Bool
is_query (Request.Show account) = true
is_query (Request.Trace form) = true
is_query (Request.Statement form) = true
is_query Request.Books = true
is_query _ = false

-- A query appends nothing.
abbrev pub QueryAppendsNothing : Situation → Request → Type 0
QueryAppendsNothing situation request = is_query request ≡ true → (answer situation request).events ≡ []

-- A request that is refused appends nothing.
abbrev pub RefusalAppendsNothing : Situation → Request → Refusal → Type 0
RefusalAppendsNothing situation request refusal =
    (answer situation request).reply ≡ Reply.Refused refusal → (answer situation request).events ≡ []

-- A request of the content of an event, by a caller with the right to it and with no bad terms, gets that event's reply again
-- and appends nothing; the event is the first of that content.
abbrev pub RepeatsItsFirst : Situation → Request → ℕ → Event → Type 0
RepeatsItsFirst situation request place event =
    first_some (first_rules situation request) ≡ None → position (repeats request) situation.journal ≡ Some place
    → slice_get situation.journal place ≡ Some event
    → answer situation request ≡ says (first_reply (take place situation.journal) event)

-- The answer that appends an event has the first reply, which the event's repeats get, where the situation has the book of its
-- own journal.
abbrev pub SaysItsFirstReply : Situation → Request → Event → Type 0
SaysItsFirstReply situation request event =
    situation.book ≡ book_of (table_of situation.journal) situation.journal → (answer situation request).events ≡ event ∷ []
    → (answer situation request).reply ≡ first_reply situation.journal event

-- What is appended is the one event that the request brings at its moment, and only where the caller has the right to it,
-- its form is good, no event before has its content, and no later rule is broken.
pub record IsAppended (situation : Situation) (request : Request) (events : List Event) : Type 0 where
  pub kind : EventKind
  pub one : events ≡ event_at situation kind ∷ []
  pub asked : request_of kind ≡ request
  pub brings : event_of request situation.now (due_now situation request) ≡ Some kind
  pub allowed : first_some (first_rules situation request) ≡ None
  pub new : position (repeats request) situation.journal ≡ None
  pub clear : broken_rule situation request ≡ None
  pub keeps : breaks situation (event_at situation kind) ≡ None

abbrev pub AppendsAtMostIt : Situation → Request → Type 0
AppendsAtMostIt situation request =
    ((answer situation request).events ≡ []) ⊎ IsAppended situation request (answer situation request).events

-- A run keeps the price table of its own journal.
abbrev pub KeepsItsTable : Run → Type 0
KeepsItsTable run = run.table ≡ table_of run.journal

-- In a run that keeps the price table of its journal, an answer is the machine's by the operator's key, the journal, the
-- moment, the caller's key and the request alone.
abbrev pub AnswersByTheJournal : List ℕ → Run → ℕ → List ℕ → Request → Type 0
AnswersByTheJournal operator run now key request =
    KeepsItsTable run
    → answer (situation_in operator run now key) request ≡ machine_answer operator run.journal now key request

-- Each order that has its sheet has the first price computed after its receipt (17 CFR 270.22c-1(a)).
abbrev pub IsForwardPriced : List Sheet → Priced → Type 0
IsForwardPriced sheets sheets_of_july =
    IfSome sheets_of_july.sheet (IsPricedBy sheets (classes_in sheets_of_july.row.order.body) sheets_of_july.row.receipt)

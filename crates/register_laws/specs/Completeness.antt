-- Completeness: which rule refuses a request, and that a request which no rule refuses gets what it asks for.
use Rattle.std.specs.Option.{option_or}
use Rattle.std.specs.Prelude.{Bool, None, Option, Some, false, if◌then◌else◌, is_some, option_and_then, option_map, position, slice_get, take, true, ℕ, ◌≡◌}
use Rattle.agent_events.specs.Events.{Event, event_of}
use Rattle.agent_events.specs.declared.event.EventKind.{EventKind}
use Rattle.agent_events.specs.declared.reply.Refusal.{Refusal}
use Rattle.agent_events.specs.declared.reply.Reply.{Reply}
use Rattle.agent_events.specs.declared.request.Request.{Request}
use Rattle.register_laws.specs.Answers.{is_query}
use Rattle.register_machine.specs.journal.Choices.{first_some}
use Rattle.register_machine.specs.pricing.CorrectedBook.{book_of}
use Rattle.register_machine.specs.pricing.PublishedTable.{table_of}
use Rattle.register_machine.specs.rules.Breaks.{breaks}
use Rattle.register_machine.specs.rules.InOrder.{broken_rule, first_rules}
use Rattle.register_machine.specs.rules.Situations.{Situation, event_at}
use Rattle.register_machine.specs.run.Answers.{answer, appends, query_reply, refuses, says}
use Rattle.register_machine.specs.run.Replies.{first_reply}
use Rattle.register_machine.specs.run.Verdicts.{due_now, repeats}

-- the event that a request would bring, and the last rule, which looks at it
abbrev pub event_brought : Situation → Request → Option Event
event_brought situation request =
    option_map (event_at situation) (event_of request situation.now (due_now situation request))

abbrev pub last_rule : Situation → Request → Option Refusal
last_rule situation request = option_and_then (breaks situation) (event_brought situation request)

-- the content is known
abbrev pub is_known : Situation → Request → Bool
is_known situation request = is_some (position (repeats request) situation.journal)

-- The refusal of the first rule that a request breaks: those on the right and on terms; then, unless its content is known,
-- those in order; and the one on what a correction may not break.
abbrev pub refusal_of : Situation → Request → Option Refusal
refusal_of situation request =
    option_or (first_some (first_rules situation request))
    (if is_known situation request then None
    else option_or (broken_rule situation request) (last_rule situation request))

abbrev pub is_refusal : Reply → Bool
is_refusal (Reply.Refused _) = true
is_refusal _ = false

-- A request is refused where it breaks a rule, by the first that it breaks, and only there.
pub record IsRefusedByFirst (situation : Situation) (request : Request) : Type 0 where
  pub refused : (refusal : Refusal) → refusal_of situation request ≡ Some refusal → answer situation request ≡ refuses refusal
  pub only : (refusal : Refusal) → (answer situation request).reply ≡ Reply.Refused refusal → refusal_of situation request ≡ Some refusal

-- A request that breaks no rule and brings an event is answered with the event, and the reply is no refusal; where the situation
-- has the book of its own journal it is the event's first reply.
pub record IsAnsweredBy (situation : Situation) (request : Request) (kind : EventKind) : Type 0 where
  pub brings : event_of request situation.now (due_now situation request) ≡ Some kind
  pub answered : answer situation request ≡ appends situation (event_at situation kind)
  pub granted : is_refusal (answer situation request).reply ≡ false
  pub first : situation.book ≡ book_of (table_of situation.journal) situation.journal → (answer situation request).reply ≡ first_reply situation.journal (event_at situation kind)

abbrev pub BringsItsEvent : Situation → Request → Type 0
BringsItsEvent situation request =
    refusal_of situation request ≡ None → is_known situation request ≡ false → is_query request ≡ false
    → (kind : EventKind) × IsAnsweredBy situation request kind

-- A request whose content is known gets the first reply to that content, which is no refusal, and appends nothing.
pub record IsAnsweredAgain (situation : Situation) (request : Request) (place : ℕ) (event : Event) : Type 0 where
  pub first : position (repeats request) situation.journal ≡ Some place
  pub there : slice_get situation.journal place ≡ Some event
  pub answered : answer situation request ≡ says (first_reply (take place situation.journal) event)
  pub granted : is_refusal (answer situation request).reply ≡ false

abbrev pub GetsFirstReplyAgain : Situation → Request → Type 0
GetsFirstReplyAgain situation request =
    refusal_of situation request ≡ None → is_known situation request ≡ true
    → (place : ℕ) × (event : Event) × IsAnsweredAgain situation request place event

-- A query that breaks no rule gets its reply, which is no refusal, and appends nothing.
pub record IsShown (situation : Situation) (request : Request) : Type 0 where
  pub answered : answer situation request ≡ says (query_reply situation request)
  pub granted : is_refusal (answer situation request).reply ≡ false

abbrev pub ShowsWhatIsAsked : Situation → Request → Type 0
ShowsWhatIsAsked situation request =
    refusal_of situation request ≡ None → is_query request ≡ true → IsShown situation request

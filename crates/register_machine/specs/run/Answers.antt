-- The register machine: what it answers to a request, and what it appends to the journal. A refused request, a repeat and a
-- query append nothing.
use Rattle.std.specs.Option.{option_map_or}
use Rattle.std.specs.Prelude.{Err, List, None, Ok, Option, Some, [], ℕ, ◌∷◌, slice_get, take}
use Rattle.agent_events.specs.Events.{Event}
use Rattle.agent_events.specs.VerbForms.{Asked}
use Rattle.agent_events.specs.declared.reply.Refusal.{Refusal}
use Rattle.agent_events.specs.declared.reply.Reply.{Reply}
use Rattle.agent_events.specs.declared.request.Request.{Request}
use Rattle.register_machine.specs.journal.Journals.{Journal}
use Rattle.register_machine.specs.pricing.PublishedTable.{table_of}
use Rattle.register_machine.specs.queries.Books.{books_reply}
use Rattle.register_machine.specs.queries.Show.{show_reply}
use Rattle.register_machine.specs.queries.Statement.{statement_reply}
use Rattle.register_machine.specs.queries.Trace.{trace_reply}
use Rattle.register_machine.specs.rules.Breaks.{breaks}
use Rattle.register_machine.specs.rules.Callers.{caller_of}
use Rattle.register_machine.specs.rules.Situations.{Situation, situation_at}
use Rattle.register_machine.specs.run.Replies.{first_reply, reply_of}
use Rattle.agent_events.specs.declared.verdict.Verdict.{Verdict}
use Rattle.register_machine.specs.run.Verdicts.{verdict}

-- the answer: a reply, and the events to append
pub record Answer : Type 0 where
  pub reply : Reply
  pub events : List Event

abbrev pub says : Reply → Answer
says reply = record { reply = reply; events = [] }

abbrev pub refuses : Refusal → Answer
refuses refusal = says (Reply.Refused refusal)

abbrev pub appends : Situation → Event → Answer
appends situation event =
    record { reply = reply_of situation.book.table situation.journal event; events = event ∷ [] }

-- the reply to a query; a request that brings an event asks for none
abbrev pub query_reply : Situation → Request → Reply
query_reply situation (Request.Show account) = show_reply situation account
query_reply situation (Request.Trace form) = trace_reply situation form
query_reply situation (Request.Statement form) = statement_reply situation form
query_reply situation Request.Books = books_reply situation
query_reply situation _ = Reply.Refused (Refusal.BadForm 0)

-- a repeat gets the reply of its first event again, as it was behind the journal before that event
abbrev pub repeat_answer : Journal → ℕ → Answer
repeat_answer journal place =
    option_map_or (λ event. says (first_reply (take place journal) event)) (slice_get journal place)
    (refuses (Refusal.BadForm 0))

-- an event is appended, unless it is a correction that breaks the last rule
abbrev pub fresh_answer : Situation → Event → Option Refusal → Answer
fresh_answer situation event None = appends situation event
fresh_answer situation event (Some refusal) = refuses refusal

abbrev pub answer_by : Situation → Request → Verdict → Answer
answer_by situation request (Verdict.Fresh event) = fresh_answer situation event (breaks situation event)
answer_by situation request (Verdict.Again place) = repeat_answer situation.journal place
answer_by situation request Verdict.Query = says (query_reply situation request)
answer_by situation request (Verdict.Refused refusal) = refuses refusal

abbrev pub answer : Situation → Request → Answer
answer situation request = answer_by situation request (verdict situation request)

-- what is asked, or the place of a field that isn't in its form
abbrev pub answer_asked : Situation → Asked → Answer
answer_asked situation (Ok request) = answer situation request
answer_asked situation (Err place) = refuses (Refusal.BadForm place)

-- the machine's answer to a request with a key, by the operator's key, the journal and the moment alone
abbrev pub machine_answer : List ℕ → Journal → ℕ → List ℕ → Request → Answer
machine_answer operator journal now key request =
    answer (situation_at (table_of journal) journal now (caller_of journal operator key)) request

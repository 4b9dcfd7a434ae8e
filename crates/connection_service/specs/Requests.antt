-- What becomes of a request over a connection: it is refused by the first rule that it breaks, or accepted; and a household's own
-- is answered as from its own view of the journal.
use Rattle.std.specs.Prelude.{Bool, List, None, Ok, Option, Some, [], false, max, ℕ, ◌++◌, ◌∷◌, ◌≡◌, ◌⊎◌}
use Rattle.agent_events.specs.Events.{Event}
use Rattle.agent_events.specs.VerbForms.{Asked}
use Rattle.agent_events.specs.declared.reply.Refusal.{Refusal}
use Rattle.agent_events.specs.declared.reply.Reply.{Reply}
use Rattle.agent_events.specs.declared.request.Request.{Request}
use Rattle.connection_service.specs.Answers.{At, Gets, Kept, Reads, said_once, situation_read}
use Rattle.agent_http.specs.Calls.{item_answer}
use Rattle.agent_http.specs.declared.calls.CallAsk.{CallAsk}
use Rattle.agent_http.specs.Bytes.{bytes_of, fault_bytes}
use Rattle.http_stream.specs.Stream.{StreamItem}
use Rattle.http_stream.specs.declared.fault.HttpFault.{HttpFault}
use Rattle.register_laws.specs.Answers.{is_query}
use Rattle.register_laws.specs.Completeness.{BringsItsEvent, IsRefusedByFirst, event_brought, is_known, is_refusal, refusal_of}
use Rattle.register_machine.specs.journal.Journals.{last_moment}
use Rattle.register_machine.specs.journal.Views.{view}
use Rattle.register_machine.specs.rules.Situations.{Situation}
use Rattle.register_machine.specs.run.Answers.{answer, machine_answer}
use Rattle.register_machine.specs.run.Batches.{batch_after_lines, situation_behind}

-- an item of the stream asks this request
abbrev pub Asks : StreamItem → Request → Type 0
Asks item request = item_answer item ≡ CallAsk.Request request

-- a text says that nothing was kept: the keeper failed, or memory was wanting
abbrev pub SaysUnkept : Bool → List ℕ → Type 0
SaysUnkept last bytes = (bytes ≡ fault_bytes HttpFault.S503 last) ⊎ (bytes ≡ fault_bytes HttpFault.S507 last)

-- The reply is no refusal; and where the content is new and more than a look is asked for, the event that the request brings is
-- kept.
pub record IsAccepted (situation : Situation) (request : Request) (last : Bool) (old : Kept) (bytes : List ℕ) (new : Kept) : Type 0 where
  pub reply : Reply
  pub said : bytes ≡ bytes_of reply last
  pub granted : is_refusal reply ≡ false
  pub kept : is_known situation request ≡ false → is_query request ≡ false
      → (event : Event) × (event_brought situation request ≡ Some event) × (new.journal ≡ old.journal ++ event ∷ [])

-- by the first rule that is broken, where one is
abbrev pub IsRuled : Option Refusal → Situation → Request → Bool → Kept → List ℕ → Kept → Type 0
IsRuled None situation request last old bytes new = IsAccepted situation request last old bytes new
IsRuled (Some refusal) situation request last old bytes new = (bytes ≡ bytes_of (Reply.Refused refusal) last) × (new ≡ old)

-- A request that breaks no rule, at the reading that it took, is accepted, and one that breaks some is refused by the first; unless its
-- text says that nothing was kept.
pub record IsRuledOrUnkept (operator key : List ℕ) (last : Bool) (request : Request) (old : At) (bytes : List ℕ) (new : At) : Type 0 where
  pub reading : ℕ
  pub read : Reads old.clock reading new.clock
  pub ruled : SaysUnkept last bytes
      ⊎ IsRuled (refusal_of (situation_read operator old.kept.journal key reading) request)
      (situation_read operator old.kept.journal key reading) request last old.kept bytes new.kept

-- The situation of a line of a batch: behind the events of the lines before it.
abbrev pub situation_of_line : Situation → List Asked → Situation
situation_of_line situation front = situation_behind situation (batch_after_lines situation front).events

-- A line more in a batch has its own reply and its own events behind those of the lines before it: its refusal by the first rule that it
-- breaks, or, where it breaks none, its content is new and it is more than a look, its event.
pub record IsRuledBehind (situation : Situation) (front : List Asked) (request : Request) : Type 0 where
  pub said : batch_after_lines situation (front ++ Ok request ∷ [])
      ≡ record {
        replies = (batch_after_lines situation front).replies ++ (answer (situation_of_line situation front) request).reply ∷ [];
        events = (batch_after_lines situation front).events ++ (answer (situation_of_line situation front) request).events;
      }
  pub refused : IsRefusedByFirst (situation_of_line situation front) request
  pub brings : BringsItsEvent (situation_of_line situation front) request

-- A request gets what the machine says to it behind the household's own view of the journal, at the moment that it has in the journal.
pub record IsAnsweredInView (household : ℕ) (operator key : List ℕ) (last : Bool) (request : Request) (old : At) (bytes : List ℕ) (new : At) : Type 0 where
  pub reading : ℕ
  pub read : Reads old.clock reading new.clock
  pub gets : Gets last
      (said_once last (machine_answer operator (view household old.kept.journal) (max reading (last_moment old.kept.journal)) key request))
      old.kept bytes new.kept

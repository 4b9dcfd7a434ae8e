-- What an item of a connection is answered with, by what is kept and by the clock as they stand.
use Rattle.std.specs.Prelude.{Bool, Err, IfSome, List, Ok, Option, Result, [], drop, flat_map, max, option_map, true, ℕ, ◌++◌, ◌≡◌, ◌≢◌, ◌≤◌}
use Rattle.agent_edge.specs.Readings.{next_reading}
use Rattle.agent_events.specs.Events.{Event}
use Rattle.agent_events.specs.VerbForms.{Asked}
use Rattle.agent_events.specs.declared.reply.Refusal.{Refusal}
use Rattle.agent_events.specs.declared.reply.Reply.{Reply}
use Rattle.agent_events.specs.declared.request.Request.{Request}
use Rattle.agent_events.specs.declared.verdict.Caller.{Caller}
use Rattle.agent_keeper.specs.Calls.{Rose}
use Rattle.agent_keeper.specs.declared.fault.KeepFault.{KeepFault}
use Rattle.dealer_lines.specs.Lines.{all_lines}
use Rattle.agent_http.specs.Calls.{item_answer, item_key}
use Rattle.agent_http.specs.declared.calls.CallAsk.{CallAsk}
use Rattle.agent_http.specs.Bytes.{batch_bytes, bytes_of, fault_bytes}
use Rattle.http_stream.specs.Stream.{StreamItem}
use Rattle.http_stream.specs.declared.fault.HttpFault.{HttpFault}
use Rattle.register_laws.specs.Lawful.{own_at}
use Rattle.register_machine.specs.journal.Journals.{Journal, last_moment}
use Rattle.register_machine.specs.rules.Callers.{caller_of}
use Rattle.register_machine.specs.rules.Situations.{Situation}
use Rattle.register_machine.specs.run.Answers.{Answer, answer}
use Rattle.register_machine.specs.run.Batches.{BatchAnswer, batch_answer}
use Rattle.register_machine.specs.run.Scripts.{reply_line}

-- what the machine says to an item: the bytes of its reply, and the events to append
pub record Said : Type 0 where
  pub bytes : List ℕ
  pub events : List Event

abbrev pub said_once : Bool → Answer → Said
said_once last answered = record { bytes = bytes_of answered.reply last; events = answered.events }

-- to a request; `last` says that the connection closes behind it
abbrev pub said_to_request : Bool → Request → Situation → Said
said_to_request last request situation = said_once last (answer situation request)

-- to a batch: the lines of its lines in one reply, and all that they bring
abbrev pub said_to_lines : Bool → Result BatchAnswer Refusal → Said
said_to_lines last (Ok answered) =
    record { bytes = batch_bytes (flat_map reply_line answered.replies) last; events = answered.events }
said_to_lines last (Err refusal) = record { bytes = bytes_of (Reply.Refused refusal) last; events = [] }

abbrev pub said_to_batch : Bool → List Asked → Situation → Said
said_to_batch last lines situation = said_to_lines last (batch_answer situation (Ok lines))

-- to what isn't in its form
abbrev pub said_to_bad_form : Bool → ℕ → Said
said_to_bad_form last place = record { bytes = bytes_of (Reply.Refused (Refusal.BadForm place)) last; events = [] }

-- the journal, and the keeper's count of faults
pub record Kept : Type 0 where
  pub journal : Journal
  pub faults : ℕ

-- An item gets the machine's answer, and its events are appended; or for want of memory 507; or 503, only where the keeper's
-- count rose in this item and it has events to keep. Behind 507 and 503 the journal is as it was.
pub data Gets (last : Bool) (said : Said) (old : Kept) (bytes : List ℕ) (new : Kept) : Type 0 where
  Answered : bytes ≡ said.bytes → new ≡ record { journal = old.journal ++ said.events; faults = old.faults } → Gets last said old bytes new
  NoMemory : bytes ≡ fault_bytes HttpFault.S507 last → new ≡ old → Gets last said old bytes new
  NotKept : bytes ≡ fault_bytes HttpFault.S503 last → said.events ≢ [] → Rose old.faults new.faults → new.journal ≡ old.journal
      → Gets last said old bytes new

-- the last reading of a clock, and those still to come where they are told
pub record ClockAt : Type 0 where
  pub last : ℕ
  pub coming : Option (List ℕ)

-- One reading of a clock: the next of those to come, and never before the last one.
pub record Reads (old : ClockAt) (reading : ℕ) (new : ClockAt) : Type 0 where
  pub told : IfSome old.coming (λ coming. reading ≡ next_reading old.last coming)
  pub never_falls : old.last ≤ reading
  pub new_is : new ≡ record { last = reading; coming = option_map (drop 1) old.coming }

-- what the answers of a connection depend on: what is kept, and the clock
pub record At : Type 0 where
  pub kept : Kept
  pub clock : ClockAt

-- the situation of a request with this key, at a reading of the clock: its moment is the greater of that and the journal's last
abbrev pub situation_read : List ℕ → Journal → List ℕ → ℕ → Situation
situation_read operator journal key reading =
    own_at journal (max reading (last_moment journal)) (caller_of journal operator key)

-- A request takes one reading of the clock, and gets what the machine says to it there.
pub record IsAnswered (operator : List ℕ) (key : List ℕ) (last : Bool) (say : Situation → Said) (old : At) (bytes : List ℕ) (new : At) : Type 0 where
  pub reading : ℕ
  pub read : Reads old.clock reading new.clock
  pub gets : Gets last (say (situation_read operator old.kept.journal key reading)) old.kept bytes new.kept

-- What isn't in its form takes no reading.
pub record IsRefused (last : Bool) (place : ℕ) (old : At) (bytes : List ℕ) (new : At) : Type 0 where
  pub unread : new.clock ≡ old.clock
  pub gets : Gets last (said_to_bad_form last place) old.kept bytes new.kept

-- what a batch asks are lines, or fields that aren't in their form
abbrev pub batch_asks_lines : CallAsk → Bool
batch_asks_lines (CallAsk.Batch lines) = all_lines lines
batch_asks_lines ask = true

-- the answer to what is asked; a fault takes no reading, and nothing is kept of it
abbrev pub AnswersBy : List ℕ → List ℕ → Bool → CallAsk → At → List ℕ → At → Type 0
AnswersBy operator key last (CallAsk.Request request) old bytes new =
    IsAnswered operator key last (said_to_request last request) old bytes new
AnswersBy operator key last (CallAsk.BadForm place) old bytes new = IsRefused last place old bytes new
AnswersBy operator key last (CallAsk.Batch lines) old bytes new =
    IsAnswered operator key last (said_to_batch last lines) old bytes new
AnswersBy operator key last (CallAsk.Fault fault) old bytes new = (bytes ≡ fault_bytes fault last) × (new ≡ old)

-- the answer to an item of the stream; `last` says that the connection closes behind it
abbrev pub Answers : List ℕ → StreamItem → Bool → At → List ℕ → At → Type 0
Answers operator item last old bytes new = AnswersBy operator (item_key item) last (item_answer item) old bytes new

-- the text that is written for an answer, or for the fault in its place
abbrev pub text_of : Bool → Result (List ℕ) HttpFault → List ℕ
text_of last (Ok bytes) = bytes
text_of last (Err fault) = fault_bytes fault last

-- the text of a batch, by who sent it: the lines of the replies to a dealer's lines; nobody else has the right to it
abbrev pub batch_text : Caller → List Reply → Bool → List ℕ
batch_text (Caller.Dealer dealer) replies last = batch_bytes (flat_map reply_line replies) last
batch_text _ replies last = bytes_of (Reply.Refused Refusal.NoRight) last

-- what an answer that was to be kept is replied to with
abbrev pub kept_text : Result (List ℕ) KeepFault → Result (List ℕ) HttpFault
kept_text (Ok bytes) = Ok bytes
kept_text (Err KeepFault.Failed) = Err HttpFault.S503
kept_text (Err KeepFault.NoMemory) = Err HttpFault.S507

abbrev pub kept_at : Journal → ℕ → Kept
kept_at journal faults = record { journal = journal; faults = faults }

abbrev pub clock_at : ℕ → Option (List ℕ) → ClockAt
clock_at last coming = record { last = last; coming = coming }

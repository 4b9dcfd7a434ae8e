-- A batch of a dealer's lines is one request: its lines are answered in order, each behind those before it, and all that
-- they bring is appended together.
use Rattle.std.specs.Prelude.{Bool, Err, List, Ok, Result, [], ℕ, ◌++◌, ◌∷◌, false, fold, if◌then◌else◌, true}
use Rattle.agent_events.specs.Events.{Event}
use Rattle.agent_events.specs.VerbForms.{Asked}
use Rattle.agent_events.specs.declared.reply.Refusal.{Refusal}
use Rattle.agent_events.specs.declared.reply.Reply.{Reply}
use Rattle.agent_events.specs.declared.verdict.Caller.{Caller}
use Rattle.register_machine.specs.rules.Situations.{Situation, situation_at}
use Rattle.register_machine.specs.run.Answers.{answer_asked}

-- the replies of the lines so far, and the events that they brought
pub record BatchAnswer : Type 0 where
  pub replies : List Reply
  pub events : List Event

-- the situation behind some events more; a line changes no price
abbrev pub situation_behind : Situation → List Event → Situation
situation_behind situation events =
    situation_at situation.book.table (situation.journal ++ events) situation.now situation.caller

abbrev pub batch_after_line : Situation → BatchAnswer → Asked → BatchAnswer
batch_after_line situation so_far asked =
    let said = answer_asked (situation_behind situation so_far.events) asked in
    record { replies = so_far.replies ++ said.reply ∷ []; events = so_far.events ++ said.events }

abbrev pub batch_after_lines : Situation → List Asked → BatchAnswer
batch_after_lines situation lines =
    fold (batch_after_line situation) (record { replies = []; events = [] }) lines

abbrev pub is_dealer_caller : Caller → Bool
is_dealer_caller (Caller.Dealer dealer) = true
is_dealer_caller _ = false

-- only a dealer sends a batch
abbrev pub batch_answer : Situation → Result (List Asked) ℕ → Result BatchAnswer Refusal
batch_answer situation (Err place) = Err (Refusal.BadForm place)
batch_answer situation (Ok lines) =
    if is_dealer_caller situation.caller then Ok (batch_after_lines situation lines) else Err Refusal.NoRight

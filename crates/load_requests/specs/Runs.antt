-- The register machine's run over the requests of a load: each is the operator's, answered behind the journal of those before.
use Rattle.std.specs.Prelude.{ℕ, ◌+◌, ◌++◌, Bool, true, false, if◌then◌else◌, List, [], ◌∷◌, fold, ◌≤◌, ⊤}
use Rattle.agent_events.specs.declared.reply.Reply.{Reply}
use Rattle.agent_events.specs.declared.verdict.Caller.{Caller}
use Rattle.register_machine.specs.journal.Journals.{Journal}
use Rattle.register_machine.specs.pricing.PublishedTable.{table_of}
use Rattle.register_machine.specs.rules.Situations.{Situation, situation_at}
use Rattle.register_machine.specs.run.Answers.{Answer, answer}
use Rattle.load_requests.specs.declared.load.Sent.{Sent}

-- the journal so far, and how many requests were refused
pub record LoadRun : Type 0 where
  pub journal : Journal
  pub refused : ℕ

-- the operator's situation behind a journal
abbrev pub operator_at : Journal → ℕ → Situation
operator_at journal now = situation_at (table_of journal) journal now Caller.Operator

abbrev pub answer_to : Journal → Sent → Answer
answer_to journal sent = answer (operator_at journal sent.moment) sent.request

abbrev pub is_refusal : Reply → Bool
is_refusal (Reply.Refused _) = true
is_refusal _ = false

abbrev pub run_after : LoadRun → Answer → LoadRun
run_after run answered = record {
  journal = run.journal ++ answered.events;
  refused = run.refused + (if is_refusal answered.reply then 1 else 0);
}

unfoldable pub load_step : LoadRun → Sent → LoadRun
load_step run sent = run_after run (answer_to run.journal sent)

-- nothing was asked yet
abbrev pub first_run : LoadRun
first_run = record { journal = []; refused = 0 }

unfoldable pub run_over : List Sent → LoadRun
run_over requests = fold load_step first_run requests

-- no request comes before the one before it, nor the first before this moment
abbrev pub NeverFall : ℕ → List Sent → Type 0
NeverFall least [] = ⊤
NeverFall least (sent ∷ later) = (least ≤ sent.moment) × NeverFall sent.moment later

-- That `send` keeps its contract.
use Rattle.std.proofs.Common.{Bool, List, ap, cond, ℕ, ◌++◌, ◌+◌, ◌∙◌}
use Rattle.agent_events.specs.Events.{Event}
use Rattle.register_desk.specs.Answered.{events_of}
use Rattle.load_requests.specs.Runs.{is_refusal}
use Rattle.load_runs.proofs.Sending.{step_is}
use Rattle.load_runs.specs.Running.{run_at}
use Rattle.load_runs.proofs.running.send.Goals as goal

-- The journal grows by what was answered, and a refusal is counted.
pub returns-clause-run : goal.returns-clause-run
returns-clause-run g c =
    let events = events_of c.in_ok-prepared.prepared.change in
    step_is (run_at c.args.running.now) c.args.sent c.in_ok-prepared.prepared.reply events
    (record { journal = c.keep.new.desk.book.journal; refused = c.args.running.now.refused + c.one_if.result })
    (record {
      answered = c.in_ok-prepared.ensures.answer;
      journal = c.in_ok-keep.ensures.ok ∙ ap (λ (journal : List Event). journal ++ events) c.ask.ensures.journal;
      refused =
          ap (λ (n : ℕ). c.args.running.now.refused + n)
          (c.one_if.ensures.value ∙ ap {B = ℕ} (λ (b : Bool). cond b 1 0) (c.is_refusal.ensures ∙ ap is_refusal c.reply.ensures));
    })

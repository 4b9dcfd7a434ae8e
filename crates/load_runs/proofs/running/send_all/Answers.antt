-- That `send_all` keeps its contract.
use Rattle.std.proofs.Common.{sym, ◌∙◌}
use Rattle.load_runs.proofs.Sending.{falls_on, few_on, goes_on}
use Rattle.load_runs.specs.Running.{run_at}
use Rattle.load_runs.proofs.running.send_all.Goals as goal

-- A step of the run was made, and the rest goes on from there.
pub loop-sent-preserved : goal.loop-sent-preserved
loop-sent-preserved g c =
    let found = sym c.in_ok-sent.ensures.next ∙ c.in-Some.is in
    record {
      has_run = c.in_ok-send.ensures.has_run;
      fall = falls_on (run_at c.loop-sent.running) (run_at c.send.new.running) c.loop-sent.requests c.next.new.self c.in-Some.sent found c.in_ok-sent.ensures.rest c.in_ok-send.ensures.run c.loop-sent.invariant.fall;
      few = few_on (run_at c.loop-sent.running) (run_at c.send.new.running) c.loop-sent.requests c.next.new.self c.in-Some.sent found c.in_ok-sent.ensures.rest c.in_ok-send.ensures.run c.loop-sent.invariant.few;
      run =
          goes_on (run_at c.loop-sent.running) (run_at c.send.new.running) c.loop-sent.requests c.next.new.self c.in-Some.sent found c.in_ok-sent.ensures.rest c.in_ok-send.ensures.run
          ∙ c.loop-sent.invariant.run;
    }

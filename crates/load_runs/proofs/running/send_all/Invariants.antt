-- What is to come goes on from what was sent.
use Rattle.std.proofs.Common.{fold, length, ◌+◌, ◌≡◌, ◌≤◌}
use Rattle.load_requests.specs.Runs.{NeverFall, load_step}
use Rattle.load_runs.specs.Running.{HasRun, most_requests, run_at}
use Rattle.register_machine.specs.journal.Journals.{last_moment}
use Rattle.load_runs.proofs.running.send_all.Given as goal

abbrev pub decreases-loop-sent : goal.decreases-loop-sent
decreases-loop-sent g l = length l.requests

abbrev pub invariant-loop-sent : goal.invariant-loop-sent
invariant-loop-sent g l = record {
  has_run : HasRun l.running;
  fall : NeverFall (last_moment l.running.desk.book.journal) l.requests;
  few : l.running.refused + length l.requests ≤ most_requests;
  run : fold load_step (run_at l.running) l.requests ≡ fold load_step (run_at l.initial.running) l.initial.requests;
}

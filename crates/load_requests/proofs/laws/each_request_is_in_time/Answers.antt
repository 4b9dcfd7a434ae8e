-- The proof of the law `each_request_is_in_time`.
use Rattle.std.proofs.Common.{arith, subst}
use Rattle.load_requests.proofs.TurnFacts.{never_fall, run_ends_by}
use Rattle.load_requests.proofs.laws.each_request_is_in_time.Goals as goal
use Rattle.load_requests.specs.Runs.{NeverFall, first_run, run_over}

-- from the empty journal on, no request comes before the one before it
pub returns : goal.returns
unfolding run_over
returns c load before sent later short e =
    run_ends_by first_run 0 before sent later (omega arith) (subst (NeverFall 0) e (never_fall load short))

-- That `sent` keeps its contract.
use Rattle.load_requests.specs.declared.load.Load.{Load}
use Rattle.load_runs.proofs.Sending.{falls_first, few_first, run_first}
use Rattle.load_runs.specs.Running.{run_at}
use Rattle.load_runs.proofs.load.sent.Goals as goal

pub send_all-requires-clause-fall : goal.send_all-requires-clause-fall
send_all-requires-clause-fall g c =
    let load : Load = record { number = c.args.number; households = c.args.households; days = c.args.days } in
    falls_first (run_at c.in_ok-running.running) c.in_ok-requests.requests load c.in_ok-running.ensures.run c.in_ok-requests.ensures c.requires.short

pub send_all-requires-clause-few : goal.send_all-requires-clause-few
send_all-requires-clause-few g c =
    let load : Load = record { number = c.args.number; households = c.args.households; days = c.args.days } in
    few_first (run_at c.in_ok-running.running) c.in_ok-requests.requests load c.in_ok-running.ensures.run c.in_ok-requests.ensures c.requires.few c.requires.short

pub returns-clause-run : goal.returns-clause-run
returns-clause-run g c =
    let load : Load = record { number = c.args.number; households = c.args.households; days = c.args.days } in
    run_first (run_at c.in_ok-running.running) (run_at c.send_all.new.running) c.in_ok-requests.requests load c.in_ok-send_all.ensures.run c.in_ok-running.ensures.run c.in_ok-requests.ensures

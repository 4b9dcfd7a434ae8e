-- The proof of the law `runs_go_on`.
use Rattle.connection_service.proofs.RunFacts.{run-grows, run-later}
use Rattle.connection_service.proofs.laws.runs_go_on.Goals as goal

pub returns : goal.returns
returns c = record { journal = run-grows; clock = run-later }

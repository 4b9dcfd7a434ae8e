-- The proof of the law `runs_leave_journals_lawful`.
use Rattle.connection_service.proofs.LawfulRuns.{run-lawful}
use Rattle.connection_service.proofs.laws.runs_leave_journals_lawful.Goals as goal

pub returns : goal.returns
returns c operator stream opened left at texts lawful run = run-lawful c.batches_leave_journals_lawful.ensures operator stream opened left at texts lawful run

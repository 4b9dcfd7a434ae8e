-- The proof of the law `journals_of_scripts_stay_within`.
use Rattle.limit_laws.proofs.RunsInForm.{script_stays_within}
use Rattle.limit_laws.proofs.run_laws.journals_of_scripts_stay_within.Goals as goal

pub returns : goal.returns
returns c = script_stays_within

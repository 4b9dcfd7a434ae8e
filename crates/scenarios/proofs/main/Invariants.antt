-- What `run_on` is called with in `main`: the ledger of the blank that is handed to it.
use Rattle.scenarios.proofs.main.Given as goal

abbrev pub ghosts-run_on : goal.ghosts-run_on
ghosts-run_on a = record { name = a.blank.name; parts = a.blank.parts }

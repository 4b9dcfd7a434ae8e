-- What an answer unfolds to compute a load of literals.
use Rattle.std.specs.Prelude.{⊤}
use Rattle.register_machine.proofs.OnLiterals.{machine_on_literals}
use Rattle.load_requests.specs.Draws.{next_state}
use Rattle.load_requests.specs.Opening.{load_listing}
use Rattle.load_requests.specs.Runs.{load_step, run_over}

unfoldable pub load_on_literals : ⊤
unfolding machine_on_literals next_state load_listing load_step run_over
load_on_literals = tt

-- The worked rows of `load_of_two_households`, reckoned.
use Rattle.std.proofs.Common.{refl}
use Rattle.load_requests.proofs.LoadOnLiterals.{load_on_literals}
use Rattle.register_worked.proofs.worked_loads.load_of_two_households.Goals as goal

pub returns : goal.returns
unfolding load_on_literals
returns c = refl

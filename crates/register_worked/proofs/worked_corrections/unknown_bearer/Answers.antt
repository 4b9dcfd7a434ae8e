-- The worked rows of `unknown_bearer`, reckoned.
use Rattle.std.proofs.Common.{refl}
use Rattle.register_machine.proofs.OnLiterals.{machine_on_literals}
use Rattle.register_worked.proofs.worked_corrections.unknown_bearer.Goals as goal

pub returns : goal.returns
unfolding machine_on_literals
returns c = refl

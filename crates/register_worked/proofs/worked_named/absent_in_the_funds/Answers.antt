-- The worked rows of `absent_in_the_funds`, reckoned.
use Rattle.std.proofs.Common.{refl}
use Rattle.register_machine.proofs.OnLiterals.{machine_on_literals}
use Rattle.register_worked.proofs.worked_named.absent_in_the_funds.Goals as goal

pub returns : goal.returns
unfolding machine_on_literals
returns c = refl

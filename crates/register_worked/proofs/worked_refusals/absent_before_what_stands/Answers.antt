-- The worked rows of `absent_before_what_stands`, reckoned.
use Rattle.std.proofs.Common.{refl}
use Rattle.register_machine.proofs.OnLiterals.{machine_on_literals}
use Rattle.register_worked.proofs.worked_refusals.absent_before_what_stands.Goals as goal

pub returns : goal.returns
unfolding machine_on_literals
returns c = refl

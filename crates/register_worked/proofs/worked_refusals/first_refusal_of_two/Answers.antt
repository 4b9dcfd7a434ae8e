-- The worked rows of `first_refusal_of_two`, reckoned.
use Rattle.std.proofs.Common.{refl}
use Rattle.register_machine.proofs.OnLiterals.{machine_on_literals}
use Rattle.register_worked.proofs.worked_refusals.first_refusal_of_two.Goals as goal

pub returns : goal.returns
unfolding machine_on_literals
returns c = refl

-- The worked rows of `verbs_of_the_operator`, reckoned.
use Rattle.std.proofs.Common.{refl}
use Rattle.register_machine.proofs.OnLiterals.{machine_on_literals}
use Rattle.register_worked.proofs.worked_callers.verbs_of_the_operator.Goals as goal

pub returns : goal.returns
unfolding machine_on_literals
returns c = refl

-- The worked rows of `byte_order_mark`, reckoned.
use Rattle.std.proofs.Common.{refl}
use Rattle.register_machine.proofs.OnLiterals.{machine_on_literals}
use Rattle.register_worked.proofs.worked_forms.byte_order_mark.Goals as goal

pub returns-clause-script : goal.returns-clause-script
unfolding machine_on_literals
returns-clause-script c = refl

pub returns-clause-batch : goal.returns-clause-batch
unfolding machine_on_literals
returns-clause-batch c = refl

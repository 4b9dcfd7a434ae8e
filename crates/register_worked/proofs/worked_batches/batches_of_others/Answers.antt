-- The worked rows of `batches_of_others`, reckoned.
use Rattle.std.proofs.Common.{refl}
use Rattle.register_machine.proofs.OnLiterals.{machine_on_literals}
use Rattle.register_worked.proofs.worked_batches.batches_of_others.Goals as goal

pub returns-clause-household : goal.returns-clause-household
unfolding machine_on_literals
returns-clause-household c = refl

pub returns-clause-operator : goal.returns-clause-operator
unfolding machine_on_literals
returns-clause-operator c = refl

pub returns-clause-stranger : goal.returns-clause-stranger
unfolding machine_on_literals
returns-clause-stranger c = refl

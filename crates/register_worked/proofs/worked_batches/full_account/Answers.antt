-- The worked rows of `full_account`, reckoned.
use Rattle.std.proofs.Common.{refl}
use Rattle.register_machine.proofs.OnLiterals.{machine_on_literals}
use Rattle.register_worked.proofs.worked_batches.full_account.Goals as goal

pub returns-clause-full : goal.returns-clause-full
unfolding machine_on_literals
returns-clause-full c = refl

pub returns-clause-other : goal.returns-clause-other
unfolding machine_on_literals
returns-clause-other c = refl

pub returns-clause-room : goal.returns-clause-room
unfolding machine_on_literals
returns-clause-room c = refl

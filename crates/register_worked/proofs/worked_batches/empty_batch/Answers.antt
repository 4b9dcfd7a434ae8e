-- The worked rows of `empty_batch`, reckoned.
use Rattle.std.proofs.Common.{refl}
use Rattle.register_machine.proofs.OnLiterals.{machine_on_literals}
use Rattle.register_worked.proofs.worked_batches.empty_batch.Goals as goal

pub returns : goal.returns
unfolding machine_on_literals
returns c = refl

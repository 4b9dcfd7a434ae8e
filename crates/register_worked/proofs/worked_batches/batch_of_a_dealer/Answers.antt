-- The worked rows of `batch_of_a_dealer`, reckoned.
use Rattle.std.proofs.Common.{refl}
use Rattle.register_machine.proofs.OnLiterals.{machine_on_literals}
use Rattle.register_worked.proofs.worked_batches.batch_of_a_dealer.Goals as goal

pub returns : goal.returns
unfolding machine_on_literals
returns c = refl

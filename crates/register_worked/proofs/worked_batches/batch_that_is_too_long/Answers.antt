-- The worked rows of `batch_that_is_too_long`, reckoned.
use Rattle.std.proofs.Common.{refl}
use Rattle.register_machine.proofs.OnLiterals.{machine_on_literals}
use Rattle.register_worked.proofs.worked_batches.batch_that_is_too_long.Goals as goal

pub returns-clause-dealer : goal.returns-clause-dealer
unfolding machine_on_literals
returns-clause-dealer c = refl

pub returns-clause-stranger : goal.returns-clause-stranger
unfolding machine_on_literals
returns-clause-stranger c = refl

pub returns-clause-longest : goal.returns-clause-longest
unfolding machine_on_literals
returns-clause-longest c = refl

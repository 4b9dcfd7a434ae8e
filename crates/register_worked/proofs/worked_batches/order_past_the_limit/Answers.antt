-- The worked rows of `order_past_the_limit`, reckoned.
use Rattle.std.proofs.Common.{refl}
use Rattle.register_machine.proofs.OnLiterals.{machine_on_literals}
use Rattle.register_worked.proofs.worked_batches.order_past_the_limit.Goals as goal

pub returns : goal.returns
unfolding machine_on_literals
returns c = refl

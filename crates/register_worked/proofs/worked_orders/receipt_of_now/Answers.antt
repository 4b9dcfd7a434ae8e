-- The worked rows of `receipt_of_now`, reckoned.
use Rattle.std.proofs.Common.{refl}
use Rattle.register_machine.proofs.OnLiterals.{machine_on_literals}
use Rattle.register_worked.proofs.worked_orders.receipt_of_now.Goals as goal

pub returns : goal.returns
unfolding machine_on_literals
returns c = refl

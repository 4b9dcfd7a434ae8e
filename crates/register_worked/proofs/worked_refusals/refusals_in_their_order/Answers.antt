-- The worked rows of `refusals_in_their_order`, reckoned.
use Rattle.std.proofs.Common.{refl}
use Rattle.register_machine.proofs.OnLiterals.{machine_on_literals}
use Rattle.register_worked.proofs.worked_refusals.refusals_in_their_order.Goals as goal

pub returns : goal.returns
unfolding machine_on_literals
returns c = refl

-- The worked rows of `charge_on_cost`, reckoned.
use Rattle.std.proofs.Common.{refl}
use Rattle.register_machine.proofs.OnLiterals.{machine_on_literals}
use Rattle.register_worked.proofs.worked_redemptions.charge_on_cost.Goals as goal

pub returns : goal.returns
unfolding machine_on_literals
returns c = refl

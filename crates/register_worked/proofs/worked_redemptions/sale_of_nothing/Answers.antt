-- The worked rows of `sale_of_nothing`, reckoned.
use Rattle.std.proofs.Common.{refl}
use Rattle.register_machine.proofs.OnLiterals.{machine_on_literals}
use Rattle.register_worked.proofs.worked_redemptions.sale_of_nothing.Goals as goal

pub returns : goal.returns
unfolding machine_on_literals
returns c = refl

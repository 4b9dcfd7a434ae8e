-- The worked rows of `redemption_in_first_year`, reckoned.
use Rattle.std.proofs.Common.{refl}
use Rattle.register_machine.proofs.OnLiterals.{machine_on_literals}
use Rattle.register_worked.proofs.worked_redemptions.redemption_in_first_year.Goals as goal

pub returns : goal.returns
unfolding machine_on_literals
returns c = refl

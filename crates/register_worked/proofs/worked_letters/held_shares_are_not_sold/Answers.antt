-- The worked rows of `held_shares_are_not_sold`, reckoned.
use Rattle.std.proofs.Common.{refl}
use Rattle.register_machine.proofs.OnLiterals.{machine_on_literals}
use Rattle.register_worked.proofs.worked_letters.held_shares_are_not_sold.Goals as goal

pub returns : goal.returns
unfolding machine_on_literals
returns c = refl

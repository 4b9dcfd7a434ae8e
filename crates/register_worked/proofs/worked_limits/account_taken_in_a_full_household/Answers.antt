-- The worked rows of `account_taken_in_a_full_household`, reckoned.
use Rattle.std.proofs.Common.{refl}
use Rattle.register_machine.proofs.OnLiterals.{machine_on_literals}
use Rattle.register_worked.proofs.worked_limits.account_taken_in_a_full_household.Goals as goal

pub returns : goal.returns
unfolding machine_on_literals
returns c = refl

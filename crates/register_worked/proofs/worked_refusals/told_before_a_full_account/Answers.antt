-- The worked rows of `told_before_a_full_account`, reckoned.
use Rattle.std.proofs.Common.{refl}
use Rattle.register_machine.proofs.OnLiterals.{machine_on_literals}
use Rattle.register_worked.proofs.worked_refusals.told_before_a_full_account.Goals as goal

pub returns : goal.returns
unfolding machine_on_literals
returns c = refl

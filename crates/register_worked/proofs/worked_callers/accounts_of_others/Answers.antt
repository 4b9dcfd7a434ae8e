-- The worked rows of `accounts_of_others`, reckoned.
use Rattle.std.proofs.Common.{refl}
use Rattle.register_machine.proofs.OnLiterals.{machine_on_literals}
use Rattle.register_worked.proofs.worked_callers.accounts_of_others.Goals as goal

pub returns : goal.returns
unfolding machine_on_literals
returns c = refl

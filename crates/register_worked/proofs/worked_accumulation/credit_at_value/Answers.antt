-- The worked rows of `credit_at_value`, reckoned.
use Rattle.std.proofs.Common.{refl}
use Rattle.register_machine.proofs.OnLiterals.{machine_on_literals}
use Rattle.register_worked.proofs.worked_accumulation.credit_at_value.Goals as goal

pub returns : goal.returns
unfolding machine_on_literals
returns c = refl

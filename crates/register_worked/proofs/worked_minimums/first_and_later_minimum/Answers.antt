-- The worked rows of `first_and_later_minimum`, reckoned.
use Rattle.std.proofs.Common.{refl}
use Rattle.register_machine.proofs.OnLiterals.{machine_on_literals}
use Rattle.register_worked.proofs.worked_minimums.first_and_later_minimum.Goals as goal

pub returns : goal.returns
unfolding machine_on_literals
returns c = refl

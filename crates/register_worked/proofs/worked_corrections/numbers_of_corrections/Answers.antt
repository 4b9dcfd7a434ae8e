-- The worked rows of `numbers_of_corrections`, reckoned.
use Rattle.std.proofs.Common.{refl}
use Rattle.register_machine.proofs.OnLiterals.{machine_on_literals}
use Rattle.register_worked.proofs.worked_corrections.numbers_of_corrections.Goals as goal

pub returns : goal.returns
unfolding machine_on_literals
returns c = refl

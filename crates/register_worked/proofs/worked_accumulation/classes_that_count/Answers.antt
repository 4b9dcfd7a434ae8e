-- The worked rows of `classes_that_count`, reckoned.
use Rattle.std.proofs.Common.{refl}
use Rattle.register_machine.proofs.OnLiterals.{machine_on_literals}
use Rattle.register_worked.proofs.worked_accumulation.classes_that_count.Goals as goal

pub returns : goal.returns
unfolding machine_on_literals
returns c = refl

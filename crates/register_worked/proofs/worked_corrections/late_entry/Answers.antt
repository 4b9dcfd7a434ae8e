-- The worked rows of `late_entry`, reckoned.
use Rattle.std.proofs.Common.{refl}
use Rattle.register_machine.proofs.OnLiterals.{machine_on_literals}
use Rattle.register_worked.proofs.worked_corrections.late_entry.Goals as goal

pub returns : goal.returns
unfolding machine_on_literals
returns c = refl

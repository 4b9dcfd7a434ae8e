-- The worked rows of `letter_ends_by_date`, reckoned.
use Rattle.std.proofs.Common.{refl}
use Rattle.register_machine.proofs.OnLiterals.{machine_on_literals}
use Rattle.register_worked.proofs.worked_letters.letter_ends_by_date.Goals as goal

pub returns : goal.returns
unfolding machine_on_literals
returns c = refl

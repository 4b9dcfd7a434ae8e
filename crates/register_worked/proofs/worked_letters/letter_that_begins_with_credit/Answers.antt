-- The worked rows of `letter_that_begins_with_credit`, reckoned.
use Rattle.std.proofs.Common.{refl}
use Rattle.register_machine.proofs.OnLiterals.{machine_on_literals}
use Rattle.register_worked.proofs.worked_letters.letter_that_begins_with_credit.Goals as goal

pub returns : goal.returns
unfolding machine_on_literals
returns c = refl

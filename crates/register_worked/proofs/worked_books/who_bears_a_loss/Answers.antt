-- The worked rows of `who_bears_a_loss`, reckoned.
use Rattle.std.proofs.Common.{refl}
use Rattle.register_machine.proofs.OnLiterals.{machine_on_literals}
use Rattle.register_worked.proofs.worked_books.who_bears_a_loss.Goals as goal

pub returns : goal.returns
unfolding machine_on_literals
returns c = refl

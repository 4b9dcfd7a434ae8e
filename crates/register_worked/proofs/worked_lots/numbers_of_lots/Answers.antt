-- The worked rows of `numbers_of_lots`, reckoned.
use Rattle.std.proofs.Common.{refl}
use Rattle.register_machine.proofs.OnLiterals.{machine_on_literals}
use Rattle.register_worked.proofs.worked_lots.numbers_of_lots.Goals as goal

pub returns-clause-emptied : goal.returns-clause-emptied
unfolding machine_on_literals
returns-clause-emptied c = refl

pub returns-clause-again : goal.returns-clause-again
unfolding machine_on_literals
returns-clause-again c = refl

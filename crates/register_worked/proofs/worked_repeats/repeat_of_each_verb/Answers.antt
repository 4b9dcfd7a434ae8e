-- The worked rows of `repeat_of_each_verb`, reckoned.
use Rattle.std.proofs.Common.{refl}
use Rattle.register_machine.proofs.OnLiterals.{machine_on_literals}
use Rattle.register_worked.proofs.worked_repeats.repeat_of_each_verb.Goals as goal

pub returns : goal.returns
unfolding machine_on_literals
returns c = refl

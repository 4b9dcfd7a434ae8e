-- The worked rows of `numbers_and_keys_taken`, reckoned.
use Rattle.std.proofs.Common.{refl}
use Rattle.register_machine.proofs.OnLiterals.{machine_on_literals}
use Rattle.register_worked.proofs.worked_named.numbers_and_keys_taken.Goals as goal

pub returns : goal.returns
unfolding machine_on_literals
returns c = refl

-- The worked rows of `households_up_to_the_limit`, reckoned.
use Rattle.std.proofs.Common.{refl}
use Rattle.register_machine.proofs.OnLiterals.{machine_on_literals}
use Rattle.register_worked.proofs.worked_limits.households_up_to_the_limit.Goals as goal

pub returns-clause-households : goal.returns-clause-households
unfolding machine_on_literals
returns-clause-households c = refl

pub returns-clause-household_room : goal.returns-clause-household_room
unfolding machine_on_literals
returns-clause-household_room c = refl

-- The worked rows of `room_to_the_ceilings`, reckoned.
use Rattle.std.proofs.Common.{refl}
use Rattle.register_machine.proofs.OnLiterals.{machine_on_literals}
use Rattle.register_worked.proofs.worked_ceilings.room_to_the_ceilings.Goals as goal

pub returns-clause-mils : goal.returns-clause-mils
unfolding machine_on_literals
returns-clause-mils c = refl

pub returns-clause-mil_more : goal.returns-clause-mil_more
unfolding machine_on_literals
returns-clause-mil_more c = refl

pub returns-clause-cost : goal.returns-clause-cost
unfolding machine_on_literals
returns-clause-cost c = refl

pub returns-clause-cent_more : goal.returns-clause-cent_more
unfolding machine_on_literals
returns-clause-cent_more c = refl

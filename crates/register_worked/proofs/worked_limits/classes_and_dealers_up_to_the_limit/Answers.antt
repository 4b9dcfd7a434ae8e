-- The worked rows of `classes_and_dealers_up_to_the_limit`, reckoned.
use Rattle.std.proofs.Common.{refl}
use Rattle.register_machine.proofs.OnLiterals.{machine_on_literals}
use Rattle.register_worked.proofs.worked_limits.classes_and_dealers_up_to_the_limit.Goals as goal

pub returns-clause-classes : goal.returns-clause-classes
unfolding machine_on_literals
returns-clause-classes c = refl

pub returns-clause-class_room : goal.returns-clause-class_room
unfolding machine_on_literals
returns-clause-class_room c = refl

pub returns-clause-dealers : goal.returns-clause-dealers
unfolding machine_on_literals
returns-clause-dealers c = refl

pub returns-clause-dealer_room : goal.returns-clause-dealer_room
unfolding machine_on_literals
returns-clause-dealer_room c = refl

-- The worked rows of `family_with_one_schedule`, reckoned.
use Rattle.std.proofs.Common.{refl}
use Rattle.register_machine.proofs.OnLiterals.{machine_on_literals}
use Rattle.register_worked.proofs.worked_calendars.family_with_one_schedule.Goals as goal

pub returns : goal.returns
unfolding machine_on_literals
returns c = refl

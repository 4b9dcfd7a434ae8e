-- The worked rows of `sheets_of_two_calendars`, reckoned.
use Rattle.std.proofs.Common.{refl}
use Rattle.register_machine.proofs.OnLiterals.{machine_on_literals}
use Rattle.register_worked.proofs.worked_calendars.sheets_of_two_calendars.Goals as goal

pub returns : goal.returns
unfolding machine_on_literals
returns c = refl

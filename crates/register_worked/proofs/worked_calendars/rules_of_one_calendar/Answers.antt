-- The worked rows of `rules_of_one_calendar`, reckoned.
use Rattle.std.proofs.Common.{refl}
use Rattle.register_machine.proofs.OnLiterals.{machine_on_literals}
use Rattle.register_worked.proofs.worked_calendars.rules_of_one_calendar.Goals as goal

pub returns : goal.returns
unfolding machine_on_literals
returns c = refl

-- The worked rows of `moments_of_a_calendar`, reckoned.
use Rattle.std.proofs.Common.{refl}
use Rattle.register_machine.proofs.OnLiterals.{machine_on_literals}
use Rattle.register_worked.proofs.worked_forms.moments_of_a_calendar.Goals as goal

pub returns : goal.returns
unfolding machine_on_literals
returns c = refl

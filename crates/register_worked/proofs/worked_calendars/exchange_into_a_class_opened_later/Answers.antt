-- The worked rows of `exchange_into_a_class_opened_later`, reckoned.
use Rattle.std.proofs.Common.{refl}
use Rattle.register_machine.proofs.OnLiterals.{machine_on_literals}
use Rattle.register_worked.proofs.worked_calendars.exchange_into_a_class_opened_later.Goals as goal

pub returns : goal.returns
unfolding machine_on_literals
returns c = refl

-- The worked rows of `order_of_a_closed_day`, reckoned.
use Rattle.std.proofs.Common.{refl}
use Rattle.register_machine.proofs.OnLiterals.{machine_on_literals}
use Rattle.register_worked.proofs.worked_sheets.order_of_a_closed_day.Goals as goal

pub returns : goal.returns
unfolding machine_on_literals
returns c = refl

-- The worked rows of `dividend_letter_and_orders`, reckoned.
use Rattle.std.proofs.Common.{refl}
use Rattle.register_machine.proofs.OnLiterals.{machine_on_literals}
use Rattle.register_worked.proofs.worked_turns.dividend_letter_and_orders.Goals as goal

pub returns : goal.returns
unfolding machine_on_literals
returns c = refl

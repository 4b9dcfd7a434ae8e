-- The worked rows of `dividend_on_held_shares`, reckoned.
use Rattle.std.proofs.Common.{refl}
use Rattle.register_machine.proofs.OnLiterals.{machine_on_literals}
use Rattle.register_worked.proofs.worked_dividends.dividend_on_held_shares.Goals as goal

pub returns : goal.returns
unfolding machine_on_literals
returns c = refl

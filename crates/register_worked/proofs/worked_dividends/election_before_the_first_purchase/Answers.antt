-- The worked rows of `election_before_the_first_purchase`, reckoned.
use Rattle.std.proofs.Common.{refl}
use Rattle.register_machine.proofs.OnLiterals.{machine_on_literals}
use Rattle.register_worked.proofs.worked_dividends.election_before_the_first_purchase.Goals as goal

pub returns : goal.returns
unfolding machine_on_literals
returns c = refl

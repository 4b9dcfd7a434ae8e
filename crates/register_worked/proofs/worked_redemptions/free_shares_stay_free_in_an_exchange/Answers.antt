-- The worked rows of `free_shares_stay_free_in_an_exchange`, reckoned.
use Rattle.std.proofs.Common.{refl}
use Rattle.register_machine.proofs.OnLiterals.{machine_on_literals}
use Rattle.register_worked.proofs.worked_redemptions.free_shares_stay_free_in_an_exchange.Goals as goal

pub returns : goal.returns
unfolding machine_on_literals
returns c = refl

-- The worked rows of `exchanged_shares_keep_their_date`, reckoned.
use Rattle.std.proofs.Common.{refl}
use Rattle.register_machine.proofs.OnLiterals.{machine_on_literals}
use Rattle.register_worked.proofs.worked_redemptions.exchanged_shares_keep_their_date.Goals as goal

pub returns : goal.returns
unfolding machine_on_literals
returns c = refl

-- The worked rows of `view_of_a_household`, reckoned.
use Rattle.std.proofs.Common.{refl}
use Rattle.register_machine.proofs.OnLiterals.{machine_on_literals}
use Rattle.register_worked.proofs.worked_views.view_of_a_household.Goals as goal

pub returns : goal.returns
unfolding machine_on_literals
returns c = record { each = refl; shown = refl }

-- The worked rows of `places_of_bad_fields`, reckoned.
use Rattle.std.proofs.Common.{refl}
use Rattle.register_machine.proofs.OnLiterals.{machine_on_literals}
use Rattle.register_worked.proofs.worked_forms.places_of_bad_fields.Goals as goal

pub returns : goal.returns
unfolding machine_on_literals
returns c = refl

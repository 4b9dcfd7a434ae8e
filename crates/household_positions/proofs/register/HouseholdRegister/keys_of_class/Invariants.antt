-- What holds at each turn of the loops of `HouseholdRegister::keys_of_class`.
use Rattle.std.proofs.Common.{take, ◌≡◌}
use Rattle.register_machine.specs.replay.Dividend.{keys_of_class}
use Rattle.household_positions.proofs.register.HouseholdRegister.keys_of_class.Given as goal

abbrev pub invariant-loop-position : goal.invariant-loop-position
invariant-loop-position l = l.keys ≡ keys_of_class l.class (take l.position-index l.position-items)

-- What holds at each turn of the loops of `HouseholdRegister::keys_of_letters_over`.
use Rattle.std.proofs.Common.{take, ◌≡◌}
use Rattle.register_machine.specs.replay.Letter.{keys_of_letters_over}
use Rattle.household_positions.proofs.register.HouseholdRegister.keys_of_letters_over.Given as goal

abbrev pub invariant-loop-position : goal.invariant-loop-position
invariant-loop-position l = l.keys ≡ keys_of_letters_over l.sheet (take l.position-index l.position-items)

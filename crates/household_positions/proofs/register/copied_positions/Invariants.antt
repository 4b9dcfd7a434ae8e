-- What holds at each turn of the loops of `copied_positions`.
use Rattle.std.proofs.Common.{take, ◌≡◌}
use Rattle.household_positions.proofs.register.copied_positions.Given as goal

abbrev pub invariant-loop-position : goal.invariant-loop-position
invariant-loop-position l = l.copies.items ≡ take l.position-index l.positions

-- What is written is the items before this one.
use Rattle.std.proofs.Common.{◌≡◌, ◌++◌, take}
use Rattle.std.specs.List.{flat_map}
use Rattle.state_rows.specs.Rows.{position}
use Rattle.state_rows.proofs.writers.put_each_position.Given as goal

abbrev pub invariant-loop-position : goal.invariant-loop-position
invariant-loop-position l = l.row ≡ l.fn.row ++ flat_map position (take l.position-index l.positions)

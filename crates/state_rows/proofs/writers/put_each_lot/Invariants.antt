-- What is written is the items before this one.
use Rattle.std.proofs.Common.{◌≡◌, ◌++◌, take}
use Rattle.std.specs.List.{flat_map}
use Rattle.state_rows.specs.Rows.{lot}
use Rattle.state_rows.proofs.writers.put_each_lot.Given as goal

abbrev pub invariant-loop-lot : goal.invariant-loop-lot
invariant-loop-lot l = l.row ≡ l.fn.row ++ flat_map lot (take l.lot-index l.lots)

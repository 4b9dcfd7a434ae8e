-- What holds at each turn of the loops of `copy_rows`.
use Rattle.std.proofs.Common.{◌≡◌, take}
use Rattle.agent_keeper.proofs.copies.copy_rows.Given as goal

abbrev pub invariant-loop-row : goal.invariant-loop-row
invariant-loop-row l = l.copy ≡ take l.row-index l.rows

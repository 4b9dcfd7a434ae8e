-- The bytes that are counted and those of the other rows make all.
use Rattle.std.proofs.Common.{◌≡◌, ◌+◌, drop}
use Rattle.agent_keeper.specs.Packed.{bytes_in}
use Rattle.agent_keeper.proofs.packed_rows.count_bytes.Given as goal

abbrev pub invariant-loop-row : goal.invariant-loop-row
invariant-loop-row l = l.count + bytes_in (drop l.row-index l.rows) ≡ bytes_in l.rows

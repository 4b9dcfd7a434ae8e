-- The rows so far stand behind the others, and there is room for the rest.
use Rattle.std.proofs.Common.{◌≡◌, ◌≤◌, ◌+◌, ◌++◌, length, take, drop, vec_len, vec_capacity}
use Rattle.agent_keeper.specs.Packed.{rows_between, AreEnds, bytes_in}
use Rattle.agent_keeper.proofs.packed_rows.put_behind.Given as goal

abbrev pub invariant-loop-row : goal.invariant-loop-row
invariant-loop-row l =
    (rows_between l.bytes.items 0 l.ends.items ≡ rows_between l.fn.bytes.items 0 l.fn.ends.items ++ take l.row-index l.rows)
    × AreEnds (length l.bytes.items) 0 l.ends.items
    × (vec_len l.bytes + bytes_in (drop l.row-index l.rows) ≤ vec_capacity l.bytes)
    × (vec_len l.ends + length l.rows ≤ vec_capacity l.ends + l.row-index)

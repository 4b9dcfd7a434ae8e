-- The moves of the households so far and those of the others that are left are those of all.
use Rattle.checkpoint_replay.specs.Sheets.{moves_of_others}
use Rattle.checkpoint_replay.specs.NumberedRows.{numbers_met}
use Rattle.std.proofs.Common.{drop, length, ◌++◌, ◌+◌, ◌-◌, ◌≡◌}
use Rattle.checkpoint_replay.proofs.sheet.push_moves_of_others.Given as goal

abbrev pub decreases-loop-household : goal.decreases-loop-household
decreases-loop-household g l = length l.orders - l.place

abbrev pub invariant-loop-household : goal.invariant-loop-household
invariant-loop-household g l = record {
  moves : l.moves.items ++ moves_of_others l.facts l.orders l.parts.entries (numbers_met (drop l.place l.orders))
      ≡ l.fn.moves.items ++ moves_of_others l.facts l.orders l.parts.entries (numbers_met l.orders);
  steps : l.steps + length l.fn.moves.items ≡ l.fn.steps + length l.moves.items;
}

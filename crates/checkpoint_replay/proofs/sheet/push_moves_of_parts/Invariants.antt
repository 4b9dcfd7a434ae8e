-- The moves of the parts so far stand behind those before.
use Rattle.checkpoint_replay.specs.Sheets.{moves_of_parts}
use Rattle.std.proofs.Common.{length, map, ◌++◌, ◌+◌, ◌≡◌}
use Rattle.std.specs.Map.Iter.{deref_pair}
use Rattle.checkpoint_replay.proofs.sheet.push_moves_of_parts.Given as goal

abbrev pub invariant-loop-household : goal.invariant-loop-household
invariant-loop-household g l = record {
  can_next : (goal.iterator-loop-household g).can_next l.household-iterator;
  is_finite : (goal.iterator-loop-household g).is_finite l.household-iterator;
  moves : l.moves.items ≡ l.fn.moves.items ++ moves_of_parts l.facts l.orders (map deref_pair l.yielded);
  steps : l.steps + length l.fn.moves.items ≡ l.fn.steps + length l.moves.items;
}

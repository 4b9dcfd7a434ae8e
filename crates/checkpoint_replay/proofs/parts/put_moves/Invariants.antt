-- The moves that are left do the same to the parts as all of them do to the parts before, and fit.
use Rattle.checkpoint_replay.specs.Moves.{AreApart, HasTradeRoom, day_if_moved, part_after}
use Rattle.checkpoint_replay.specs.Parts.{AreParts, part_in}
use Rattle.std.proofs.Common.{fold, length, ℕ, ◌≡◌, ◌≤◌}
use Rattle.std.specs.HashMap.{spare}
use Rattle.std.specs.List.{AllByRecursion}
use Rattle.std.specs.Vec.Iter.{into_iter_items}
use Rattle.checkpoint_replay.proofs.parts.put_moves.Given as goal

abbrev pub invariant-loop-change : goal.invariant-loop-change
invariant-loop-change l = record {
  can_next : (goal.iterator-loop-change).can_next l.change-iterator;
  is_finite : (goal.iterator-loop-change).is_finite l.change-iterator;
  parts : (household : ℕ) → fold (day_if_moved household) (part_in l.parts.entries household) (into_iter_items l.change-iterator) ≡ part_after l.fn.moves.items l.fn.parts.entries household;
  room : length (into_iter_items l.change-iterator) ≤ spare l.parts;
  trades : AllByRecursion (HasTradeRoom l.parts.entries) (into_iter_items l.change-iterator);
  apart : AreApart (into_iter_items l.change-iterator);
  numbers : AllByRecursion (λ change. change.state.number ≡ change.household) (into_iter_items l.change-iterator);
  own : AreParts l.fn.parts.entries → AreParts l.parts.entries;
}

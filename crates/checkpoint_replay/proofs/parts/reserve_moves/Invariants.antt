-- The moves so far have room, and all parts are as before.
use Rattle.checkpoint_replay.specs.Moves.{HasTradeRoom}
use Rattle.checkpoint_replay.specs.Parts.{AreParts, part_in}
use Rattle.std.proofs.Common.{All, length, take, ℕ, ◌≡◌, ◌≤◌}
use Rattle.std.specs.HashMap.{spare}
use Rattle.checkpoint_replay.proofs.parts.reserve_moves.Given as goal

abbrev pub invariant-loop-change : goal.invariant-loop-change
invariant-loop-change l = record {
  room : length l.fn.moves ≤ spare l.parts;
  trades : All (HasTradeRoom l.parts.entries) (take l.change-index l.moves);
  same : (household : ℕ) → part_in l.parts.entries household ≡ part_in l.fn.parts.entries household;
  own : AreParts l.fn.parts.entries → AreParts l.parts.entries;
}

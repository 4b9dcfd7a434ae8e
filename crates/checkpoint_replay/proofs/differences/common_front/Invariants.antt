-- The trades so far move the same on both sides.
use Rattle.agent_events.specs.declared.order.Party.{Party}
use Rattle.checkpoint_replay.specs.Differences.{trades_cash}
use Rattle.gain_loss_book.specs.Movements.{trades_mils}
use Rattle.std.proofs.Common.{length, take, ℕ, ◌-◌, ◌≡◌, ◌≤◌}
use Rattle.checkpoint_replay.proofs.differences.common_front.Given as goal

abbrev pub invariant-loop-place : goal.invariant-loop-place
invariant-loop-place l = record {
  first : l.place ≤ length l.a;
  second : l.place ≤ length l.b;
  cash : (party : Party) → trades_cash (take l.place l.a) party ≡ trades_cash (take l.place l.b) party;
  mils : (class : ℕ) → trades_mils (take l.place l.a) class ≡ trades_mils (take l.place l.b) class;
}

abbrev pub decreases-loop-place : goal.decreases-loop-place
decreases-loop-place l = length l.a - l.place

-- The changes so far are added, and there is room for the others.
use Rattle.gain_loss_book.specs.ClassGains.{all_mils, mils_flow}
use Rattle.gain_loss_book.specs.Flows.{flow_at, whole_flow, with_flow}
use Rattle.std.proofs.Common.{take, ℕ, ◌+◌, ◌≡◌, ◌≤◌}
use Rattle.checkpoint_replay.proofs.shares.add_shares.Given as goal

abbrev pub invariant-loop-change : goal.invariant-loop-change
invariant-loop-change l = record {
  flows : (class : ℕ) → flow_at l.shares.rows class ≡ with_flow (flow_at l.fn.shares.rows class) (mils_flow (take l.change-index l.changes) class);
  whole : whole_flow l.shares.rows ≡ with_flow (whole_flow l.fn.shares.rows) (all_mils (take l.change-index l.changes));
  room : l.fn.shares.room ≤ l.shares.room + l.change-index;
}

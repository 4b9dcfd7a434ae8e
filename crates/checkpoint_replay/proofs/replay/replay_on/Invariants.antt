-- What holds at each turn of the loops of `replay_on`.
use Rattle.std.proofs.Common.{◌+◌, ◌-◌, ◌≡◌, ◌≤◌}
use Rattle.household_fold.specs.Households.{first_of}
use Rattle.checkpoint_replay.specs.BusySheets.{busy_sheets}
use Rattle.checkpoint_replay.specs.Premises.{CanBeReplayed}
use Rattle.checkpoint_replay.specs.Replays.{days_behind}
use Rattle.checkpoint_replay.proofs.replay.replay_on.Given as goal

-- what is left can be replayed, and it leads to the day that all sheets lead to
abbrev pub invariant-loop-sheet : goal.invariant-loop-sheet
invariant-loop-sheet g l = record {
  begin : l.fn.from ≤ l.sheet;
  last : l.sheet ≤ l.facts.sheet;
  number : l.reached.number ≡ l.fn.state.number;
  ready : CanBeReplayed l.facts l.fn.state.number l.orders l.sheet (l.facts.sheet - l.sheet) (record { register = l.reached.register; trades = l.trades });
  day : days_behind l.facts l.orders l.sheet (l.facts.sheet - l.sheet) (record { register = l.reached.register; trades = l.trades }) ≡ days_behind l.facts l.orders l.fn.from (l.facts.sheet - l.fn.from) (first_of l.fn.state.register);
  most : l.steps ≤ l.initial.steps + (l.sheet - l.fn.from);
  steps : l.steps + busy_sheets l.facts l.orders l.sheet (l.facts.sheet - l.sheet) (record { register = l.reached.register; trades = l.trades }) ≡ l.initial.steps + busy_sheets l.facts l.orders l.fn.from (l.facts.sheet - l.fn.from) (first_of l.fn.state.register);
}

abbrev pub decreases-loop-sheet : goal.decreases-loop-sheet
decreases-loop-sheet g l = l.last - l.sheet

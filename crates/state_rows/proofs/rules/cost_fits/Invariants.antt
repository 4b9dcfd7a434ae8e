-- The total so far, which is within the limit.
use Rattle.std.proofs.Common.{◌≡◌, ◌≤◌, take}
use Rattle.std.specs.Prelude.{sum_by}
use Rattle.state_rows.specs.Rules.{cost_of}
use Rattle.state_rows.proofs.rules.cost_fits.Given as goal

abbrev pub invariant-loop-lot : goal.invariant-loop-lot
invariant-loop-lot l = record {
  total : l.total ≡ sum_by cost_of (take l.lot-index l.lots);
  within : l.total ≤ 1000000000000000;
}

-- The lots so far, which are within the limit.
use Rattle.std.proofs.Common.{◌≡◌, ◌≤◌, take}
use Rattle.std.specs.Prelude.{sum_by}
use Rattle.state_rows.specs.Rules.{account_lots}
use Rattle.state_rows.proofs.rules.few_loaded_lots.Given as goal

abbrev pub invariant-loop-row : goal.invariant-loop-row
invariant-loop-row l = record {
  total : l.total ≡ sum_by (account_lots l.account) (take l.row-index l.rows);
  within : l.total ≤ 8192;
}

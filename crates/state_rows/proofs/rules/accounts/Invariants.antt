-- The accounts so far, and those that come after the last of them.
use Rattle.std.proofs.Common.{◌≡◌, ◌+◌, ◌≤◌, drop}
use Rattle.state_rows.specs.Rules.{accounts_after}
use Rattle.state_rows.proofs.rules.accounts.Given as goal

abbrev pub invariant-loop-row : goal.invariant-loop-row
invariant-loop-row l = record {
  count : accounts_after 0 l.rows ≡ l.count + accounts_after l.account (drop l.row-index l.rows);
  few : l.count ≤ l.row-index;
}

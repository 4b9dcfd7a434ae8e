-- The accounts so far keep their limits, the last of them too.
use Rattle.std.proofs.Common.{◌≡◌, true, take}
use Rattle.std.specs.Prelude.{IfSome}
use Rattle.std.specs.List.{list_all}
use Rattle.state_rows.specs.Rules.{is_account}
use Rattle.state_rows.proofs.rules.all_accounts.Given as goal

abbrev pub invariant-loop-row : goal.invariant-loop-row
invariant-loop-row l = record {
  all : list_all (λ row. is_account l.rows row.account) (take l.row-index l.rows) ≡ true;
  last : IfSome l.last (λ account. is_account l.rows account ≡ true);
}

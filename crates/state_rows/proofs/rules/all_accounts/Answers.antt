-- That `all_accounts` keeps its contract.
use Rattle.std.proofs.Common.{◌≡◌, ℕ, suc, ◌+◌, true, take, sym, subst, ◌∙◌, arith}
use Rattle.std.specs.List.{list_all}
use Rattle.state_rows.specs.Rules.{is_account}
use Rattle.state_rows.proofs.Tests.{one_fails, one_more}
use Rattle.state_rows.proofs.rules.all_accounts.Goals as goal

pub returns-then-not-is_account_after : goal.returns-then-not-is_account_after
returns-then-not-is_account_after c =
    sym (one_fails (λ row. is_account c.args.rows.now row.account) c.args.rows.now c.loop-row.row-index c.row-item.result c.loop-row-test.true c.row-item.is (sym c.is_account_after.ensures ∙ c.if-not-is_account_after.true))

pub loop-row-preserved : goal.loop-row-preserved
loop-row-preserved c =
    let passes = sym c.is_account_after.ensures ∙ c.if-not-is_account_after.false in
    let next : suc c.loop-row.row-index ≡ c.loop-row.row-index + 1 = omega arith in
    record {
      all = subst (λ (n : ℕ). list_all (λ row. is_account c.args.rows.now row.account) (take n c.args.rows.now) ≡ true) next
          (one_more (λ row. is_account c.args.rows.now row.account) c.args.rows.now c.loop-row.row-index c.row-item.result c.loop-row-test.true c.row-item.is c.loop-row.invariant.all passes);
      last = passes;
    }

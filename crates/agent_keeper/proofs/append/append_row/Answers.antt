-- That `append_row` keeps its contract.
use Rattle.std.proofs.Common.{◌≤◌, arith}
use Rattle.agent_keeper.proofs.append.append_row.Goals as goal

pub returns-then-found-clause-given : goal.returns-then-found-clause-given
returns-then-found-clause-given g c = λ since before.
    let counted = c.in_ok-number.ensures.goes_on.later in
    let committed = c.in_ok-commit.ensures.goes_on.later in
    let later : since ≤ g.K.Keeper.moment c.commit.new.self = omega (arith, before, counted, committed) in
    rw c.if-found.true at (c.in_ok-found.ensures.given since later)

pub returns-clause-missing : goal.returns-clause-missing
returns-clause-missing g c = (
  c.in_ok-number.number,
  λ since before.
      let counted = c.in_ok-number.ensures.goes_on.later in
      let committed = c.in_ok-commit.ensures.goes_on.later in
      let later : since ≤ g.K.Keeper.moment c.commit.new.self = omega (arith, before, counted, committed) in
      rw c.if-found.false at (c.in_ok-found.ensures.given since later),
)

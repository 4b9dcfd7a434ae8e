-- That `put_checks` keeps its contract.
use Rattle.std.proofs.Common.{◌∙◌, arith}
use Rattle.sqlite.specs.Held.{state}
use Rattle.sqlite_keeper.specs.Commits.{check_put}
use Rattle.sqlite_keeper.proofs.StatementFacts.{nothing-then, each-step}
use Rattle.sqlite_keeper.proofs.commit.put_checks.Goals as goal

pub loop-put-preserved : goal.loop-put-preserved
loop-put-preserved g c =
    let step = c.put_check.ensures.nothing in
    record {
      same = c.put_check.ensures.same_reference ∙ c.loop-put.invariant.same;
      ran = λ clean inside.
          let was = c.loop-put.invariant.ran (omega (arith, step.survives.clean)) inside in
          let made = c.in_ok-put_check.ensures.ran clean was.0 in
          (made.ran.1.mode, λ last more. was.1 last (each-step (state g.S.Store) check_put _ c.loop-put.put-index c.put-item.result _ _ _ last c.loop-put-test.true c.put-item.is made more));
      nothing = nothing-then _ _ _ c.loop-put.invariant.nothing step;
    }

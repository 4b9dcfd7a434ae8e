-- That `remove_checks` keeps its contract.
use Rattle.std.proofs.Common.{refl, ◌∙◌, arith}
use Rattle.sqlite.specs.Held.{state}
use Rattle.sqlite_keeper.specs.Commits.{check_removed}
use Rattle.sqlite_keeper.proofs.StatementFacts.{nothing-then, each-step}
use Rattle.sqlite_keeper.proofs.commit.remove_checks.Goals as goal

pub loop-name-preserved : goal.loop-name-preserved
loop-name-preserved g c =
    let step = c.remove_check.ensures.nothing in
    record {
      same = c.remove_check.ensures.same_reference ∙ c.loop-name.invariant.same;
      ran = λ clean inside.
          let was = c.loop-name.invariant.ran (omega (arith, step.survives.clean)) inside in
          let made = c.in_ok-remove_check.ensures.ran clean was.0 in
          (made.ran.1.mode, λ last more. was.1 last (each-step (state g.S.Store) check_removed _ c.loop-name.name-index _ _ _ _ last c.loop-name-test.true refl made more));
      nothing = nothing-then _ _ _ c.loop-name.invariant.nothing step;
    }

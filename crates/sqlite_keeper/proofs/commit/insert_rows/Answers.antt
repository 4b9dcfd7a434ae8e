-- That `insert_rows` keeps its contract.
use Rattle.std.proofs.Common.{◌≡◌, ◌+◌, ◌∙◌, drop, subst, arith, rules}
use Rattle.sqlite.specs.Held.{state}
use Rattle.sqlite_keeper.specs.Commits.{row_added, rows_added, Runs, RunsAll}
use Rattle.sqlite_keeper.proofs.StatementFacts.{nothing-then, row-step}
use Rattle.sqlite_keeper.proofs.commit.insert_rows.Goals as goal

pub loop-row-preserved : goal.loop-row-preserved
loop-row-preserved g c =
    let shows = state g.S.Store in
    let place = c.loop-row.place in
    let step = c.insert_row.ensures.nothing in
    let next : c.in_ok-place.place ≡ place + 1 = search rules in
    record {
      same = c.insert_row.ensures.same_reference ∙ c.loop-row.invariant.same;
      ran = λ clean inside.
          let was = c.loop-row.invariant.ran (omega (arith, step.survives.clean)) inside in
          let made = subst (λ bytes. Runs shows (row_added place bytes) c.loop-row.changes.conn.now c.insert_row.new.changes.conn.now) c.as_slice.ensures (c.in_ok-insert_row.ensures.ran clean was.0) in (
            made.ran.1.mode,
            λ last more. was.1 last (row-step shows place c.args.rows.now c.loop-row.row-index c.row-item.result _ _ last c.loop-row-test.true c.row-item.is made
                (subst (λ n. RunsAll shows (rows_added n (drop (c.loop-row.row-index + 1) c.args.rows.now)) c.insert_row.new.changes.conn.now last) next more)),
          );
      nothing = nothing-then _ _ _ c.loop-row.invariant.nothing step;
    }

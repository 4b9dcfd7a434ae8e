-- That `make_changes` keeps its contract.
use Rattle.std.proofs.Common.{map, arith}
use Rattle.sqlite.specs.Held.{state}
use Rattle.sqlite_keeper.specs.Commits.{check_put, check_removed, rows_added, RunsAll}
use Rattle.sqlite_keeper.proofs.StatementFacts.{nothing-then, runs-append, runs-inside}
use Rattle.sqlite_keeper.proofs.commit.make_changes.Goals as goal

pub returns-clause-ran : goal.returns-clause-ran
returns-clause-ran g c clean inside =
    let shows = state g.S.Store in
    let batch = c.args.batch.now in
    let one : RunsAll shows (rows_added c.args.base batch.rows) c.args.changes.now.conn.now c.insert_rows.new.changes.conn.now =
    rw c.as_slice.ensures at (c.in_ok-insert_rows.ensures.ran (omega (arith, c.put_checks.ensures.nothing.survives.clean, c.remove_checks.ensures.nothing.survives.clean)) inside) in
    let still = runs-inside shows _ _ _ one inside in
    let two : RunsAll shows (map check_put batch.puts) c.insert_rows.new.changes.conn.now c.put_checks.new.changes.conn.now =
    rw c.as_slice-2.ensures at (c.in_ok-put_checks.ensures.ran (omega (arith, c.remove_checks.ensures.nothing.survives.clean)) still) in
    let three : RunsAll shows (map check_removed batch.removes) c.put_checks.new.changes.conn.now c.remove_checks.new.changes.conn.now =
    rw c.as_slice-3.ensures at (c.in_ok-remove_checks.ensures.ran clean (runs-inside shows _ _ _ two still)) in
    runs-append shows _ _ _ _ _ (runs-append shows _ _ _ _ _ one two) three

pub returns-clause-nothing : goal.returns-clause-nothing
returns-clause-nothing g c =
    nothing-then _ _ _ c.insert_rows.ensures.nothing (nothing-then _ _ _ c.put_checks.ensures.nothing c.remove_checks.ensures.nothing)

pub returns-in_err-put_checks-clause-nothing : goal.returns-in_err-put_checks-clause-nothing
returns-in_err-put_checks-clause-nothing g c = nothing-then _ _ _ c.insert_rows.ensures.nothing c.put_checks.ensures.nothing

pub returns-in_err-remove_checks-clause-nothing : goal.returns-in_err-remove_checks-clause-nothing
returns-in_err-remove_checks-clause-nothing g c =
    nothing-then _ _ _ c.insert_rows.ensures.nothing (nothing-then _ _ _ c.put_checks.ensures.nothing c.remove_checks.ensures.nothing)

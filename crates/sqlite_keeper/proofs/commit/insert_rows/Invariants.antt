-- What is left to run leads from what has run to all of them.
use Rattle.std.proofs.Common.{◌≡◌, drop, IsTrue}
use Rattle.sqlite.specs.State.{HasCleanDisk}
use Rattle.sqlite.specs.Held.{state}
use Rattle.sqlite_keeper.specs.Commits.{rows_added, CommitsNothing, RunsAll}
use Rattle.sqlite_keeper.proofs.commit.insert_rows.Given as goal

abbrev pub invariant-loop-row : goal.invariant-loop-row
invariant-loop-row g l =
    let first = state g.S.Store l.fn.changes.conn.now in
    let now = state g.S.Store l.changes.conn.now in
    record {
      same : l.changes.conn.ghost_name ≡ l.fn.changes.conn.ghost_name;
      ran : HasCleanDisk now → IsTrue first.in_transaction → IsTrue now.in_transaction × ((last : _) → RunsAll (state g.S.Store) (rows_added l.place (drop l.row-index l.rows)) l.changes.conn.now last → RunsAll (state g.S.Store) (rows_added l.fn.base l.rows) l.fn.changes.conn.now last);
      nothing : CommitsNothing first now;
    }

-- What is left to run leads from what has run to all of them.
use Rattle.std.proofs.Common.{◌≡◌, drop, map, IsTrue}
use Rattle.sqlite.specs.State.{HasCleanDisk}
use Rattle.sqlite.specs.Held.{state}
use Rattle.sqlite_keeper.specs.Commits.{check_removed, CommitsNothing, RunsAll}
use Rattle.sqlite_keeper.proofs.commit.remove_checks.Given as goal

abbrev pub invariant-loop-name : goal.invariant-loop-name
invariant-loop-name g l =
    let first = state g.S.Store l.fn.changes.conn.now in
    let now = state g.S.Store l.changes.conn.now in
    record {
      same : l.changes.conn.ghost_name ≡ l.fn.changes.conn.ghost_name;
      ran : HasCleanDisk now → IsTrue first.in_transaction → IsTrue now.in_transaction × ((last : _) → RunsAll (state g.S.Store) (map check_removed (drop l.name-index l.names)) l.changes.conn.now last → RunsAll (state g.S.Store) (map check_removed l.names) l.fn.changes.conn.now last);
      nothing : CommitsNothing first now;
    }

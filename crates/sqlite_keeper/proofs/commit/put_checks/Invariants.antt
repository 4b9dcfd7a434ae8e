-- What is left to run leads from what has run to all of them.
use Rattle.std.proofs.Common.{◌≡◌, drop, map, IsTrue}
use Rattle.sqlite.specs.State.{HasCleanDisk}
use Rattle.sqlite.specs.Held.{state}
use Rattle.sqlite_keeper.specs.Commits.{check_put, CommitsNothing, RunsAll}
use Rattle.sqlite_keeper.proofs.commit.put_checks.Given as goal

abbrev pub invariant-loop-put : goal.invariant-loop-put
invariant-loop-put g l =
    let first = state g.S.Store l.fn.changes.conn.now in
    let now = state g.S.Store l.changes.conn.now in
    record {
      same : l.changes.conn.ghost_name ≡ l.fn.changes.conn.ghost_name;
      ran : HasCleanDisk now → IsTrue first.in_transaction → IsTrue now.in_transaction × ((last : _) → RunsAll (state g.S.Store) (map check_put (drop l.put-index l.puts)) l.changes.conn.now last → RunsAll (state g.S.Store) (map check_put l.puts) l.fn.changes.conn.now last);
      nothing : CommitsNothing first now;
    }

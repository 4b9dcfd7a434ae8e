-- What holds at each turn of the loops of `read_all`.
use Rattle.std.proofs.Common.{IsTrue}
use Rattle.edge_tests.proofs.doors.read_all.Given as goal

abbrev pub invariant-loop : goal.invariant-loop
invariant-loop g l = IsTrue (g.D.Door.is_connected l.door)

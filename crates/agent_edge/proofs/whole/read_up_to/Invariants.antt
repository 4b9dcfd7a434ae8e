-- What holds at each turn of the loops of `read_up_to`.
use Rattle.std.proofs.Common.{◌≡◌, ◌≤◌, ◌-◌, vec_len}
use Rattle.std.specs.Io.KnownBytes.{Consumes}
use Rattle.agent_edge.proofs.whole.read_up_to.Given as goal

abbrev pub invariant-loop-bytes : goal.invariant-loop-bytes
invariant-loop-bytes g l = record {
  within : vec_len l.bytes ≤ l.limit;
  consumed : Consumes (g.S.Source.left l.initial.input) (g.S.Source.left l.input) l.bytes.items;
  no_fault : g.S.Source.faults l.input ≡ g.S.Source.faults l.initial.input;
}

abbrev pub decreases-loop-bytes : goal.decreases-loop-bytes
decreases-loop-bytes g l = l.limit - vec_len l.bytes

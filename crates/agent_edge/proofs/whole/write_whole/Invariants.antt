-- What holds at each turn of the loops of `write_whole`.
use Rattle.std.proofs.Common.{length, ◌-◌, ◌≡◌, ◌≤◌, take}
use Rattle.std.specs.Io.KnownBytes.{Appends}
use Rattle.agent_edge.proofs.whole.write_whole.Given as goal

abbrev pub invariant-loop-written : goal.invariant-loop-written
invariant-loop-written g l = record {
  in_range : l.written ≤ length l.bytes;
  appended : Appends (g.O.Sink.contents l.initial.out) (g.O.Sink.contents l.out) (take l.written l.bytes);
  no_fault : g.O.Sink.faults l.out ≡ g.O.Sink.faults l.initial.out;
}

abbrev pub decreases-loop-written : goal.decreases-loop-written
decreases-loop-written g l = length l.bytes - l.written

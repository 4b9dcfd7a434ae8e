-- What holds at each turn of the loops of `waiting_links`.
use Rattle.std.proofs.Common.{◌≡◌, map}
use Rattle.agent_edge.specs.MemoryDoors.{waiting}
use Rattle.agent_edge.proofs.memory_door.waiting_links.Given as goal

abbrev pub invariant-loop-bytes : goal.invariant-loop-bytes
invariant-loop-bytes l = record {
  room : l.room ≡ l.fn.room;
  links : l.links.items ≡ map (waiting l.fn.room) l.yielded;
}

-- What holds at each turn of the loops of `write_reply`.
use Rattle.std.proofs.Common.{length, ◌-◌, ◌≡◌, ◌≤◌, take, IsTrue, option_map}
use Rattle.agent_edge.specs.Links.{after_write}
use Rattle.agent_edge.proofs.replies.write_reply.Given as goal

abbrev pub invariant-loop-written : goal.invariant-loop-written
invariant-loop-written g l = record {
  in_range : l.written ≤ length l.bytes;
  connected : IsTrue (g.D.Door.is_connected l.door);
  links : g.D.Door.told l.door ≡ option_map (after_write (take l.written l.bytes)) (g.D.Door.told l.initial.door);
  no_fault : g.D.Door.link_faults l.door ≡ g.D.Door.link_faults l.initial.door;
  door : g.D.Door.door_faults l.door ≡ g.D.Door.door_faults l.initial.door;
}

abbrev pub decreases-loop-written : goal.decreases-loop-written
decreases-loop-written g l = length l.bytes - l.written

-- What is true of a door in memory as its code holds it.
use Rattle.std.specs.Prelude.{◌≤◌, ◌+◌, length, option_to_list, vec_len, vec_capacity}
use Rattle.agent_edge.specs.declared.memory_door.MemoryDoor.TheInside.{Inside}

-- a read gives at least a byte, and there is a place for each connection among those that were shut
pub record HasPlaces (door : Inside) : Type 0 where
  pub piece : 1 ≤ door.piece
  pub places : vec_len door.finished + length (option_to_list door.present)
      + length door.coming.items ≤ vec_capacity door.finished

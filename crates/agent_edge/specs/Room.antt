-- What is true of a sink in memory as its code holds it.
use Rattle.std.specs.Prelude.{◌≤◌, vec_len, vec_capacity}
use Rattle.agent_edge.specs.declared.memory_sink.MemorySink.TheInside.{Inside}

-- the bytes written fit in its room, which is taken already, and a write takes at least a byte
pub record HasItsRoom (sink : Inside) : Type 0 where
  pub within : vec_len sink.contents ≤ sink.room
  pub taken : sink.room ≤ vec_capacity sink.contents
  pub piece : 1 ≤ sink.piece

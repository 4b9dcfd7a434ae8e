-- The objects in memory. Their calls are numbered from 1, in the order in which they are made; a list of
-- fails names the calls that fail.
use Rattle.std.specs.Prelude.{◌≡◌, ℕ, ◌-◌, ◌<◌, min, List, ◌++◌, length, take, drop, Contains, ◌⊎◌}
use Rattle.agent_edge.specs.Counts.{next_count}

-- a source: the bytes left to read, at most how many a read gives, and the calls and faults so far
pub record SourceState : Type 0 where
  pub left : List ℕ
  pub piece : ℕ
  pub fails : List ℕ
  pub calls : ℕ
  pub faults : ℕ

-- a sink: the bytes written, at most how many a write takes, how many bytes there is room for in all, and
-- the calls and faults so far
pub record SinkState : Type 0 where
  pub contents : List ℕ
  pub piece : ℕ
  pub room : ℕ
  pub fails : List ℕ
  pub calls : ℕ
  pub faults : ℕ

-- how many bytes a read gives into a piece of this length
abbrev pub read_count : SourceState → ℕ → ℕ
read_count source len = min source.piece (min len (length source.left))

-- a source after a read that gave this many bytes
abbrev pub source_after_read : SourceState → ℕ → SourceState
source_after_read source count = record source { left = drop count source.left; calls = next_count source.calls }

-- a source after a read that failed
abbrev pub after_read_fault : SourceState → SourceState
after_read_fault source = record source { calls = next_count source.calls; faults = next_count source.faults }

-- the next read fails: it is listed
abbrev pub FailsToRead : SourceState → Type 0
FailsToRead source = Contains source.fails (next_count source.calls)

-- how many bytes a sink has room for
abbrev pub room_left : SinkState → ℕ
room_left sink = sink.room - length sink.contents

-- how many of these bytes a write takes
abbrev pub write_count : SinkState → List ℕ → ℕ
write_count sink from = min sink.piece (min (length from) (room_left sink))

-- a sink after a write that took this many of these bytes
abbrev pub sink_after_write : SinkState → List ℕ → ℕ → SinkState
sink_after_write sink from count = record sink {
  contents = sink.contents
      ++ take count from;
  calls = next_count sink.calls;
}

-- a sink after a write that failed
abbrev pub after_write_fault : SinkState → SinkState
after_write_fault sink = record sink { calls = next_count sink.calls; faults = next_count sink.faults }

-- the next write of these bytes fails: it is listed, or they aren't empty and no room is left
abbrev pub FailsToWrite : SinkState → List ℕ → Type 0
FailsToWrite sink from = Contains sink.fails (next_count sink.calls) ⊎ (0 < length from)
    × (room_left sink ≡ 0)

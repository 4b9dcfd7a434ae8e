-- The door in memory: what each call does.
use Rattle.std.specs.Prelude.{◌≡◌, ℕ, ◌-◌, ◌<◌, ◌≤◌, min, List, [], ◌∷◌, ◌++◌, length, drop, map, Option, None, Some, option_map, option_to_list, ◌⊎◌}
use Rattle.agent_edge.specs.CallCounts.{CallsState, after_call, after_failed, IsListed}
use Rattle.agent_edge.specs.Links.{Link, Links}

-- a connection that was accepted: the bytes that weren't read, the bytes written on it, and how many bytes it takes
-- in all
pub record LinkState : Type 0 where
  pub unread : List ℕ
  pub written : List ℕ
  pub room : ℕ

-- What a connection keeps: it has read no more bytes than it has, and written no more than its room, for which the memory is taken.
pub record HoldsLink (bytes : List ℕ) (position : ℕ) (written : List ℕ) (room taken : ℕ) : Type 0 where
  pub read : position ≤ length bytes
  pub fits : length written ≤ room
  pub memory : room ≤ taken

-- a connection that is still to be accepted: its bytes, and how many bytes it takes in all
pub record WaitingState : Type 0 where
  pub bytes : List ℕ
  pub room : ℕ

-- a door: the connections that were shut, the open one, and those that are still to be accepted; at most how many
-- bytes a read gives and a write takes; and the calls of `listen` and `accept`, and the reads and writes
pub record DoorState : Type 0 where
  pub finished : List LinkState
  pub present : Option LinkState
  pub coming : List WaitingState
  pub piece : ℕ
  pub door_calls : CallsState
  pub link_calls : CallsState

-- a connection with these bytes and this room, before it is accepted
abbrev pub waiting : ℕ → List ℕ → WaitingState
waiting room bytes = record { bytes = bytes; room = room }

-- that connection when it was accepted
abbrev pub opened_link : WaitingState → LinkState
opened_link link = record { unread = link.bytes; written = []; room = link.room }

-- how many bytes a read of at most `most` gives into a piece of this length
abbrev pub link_read_count : LinkState → ℕ → ℕ → ℕ
link_read_count link most len = min most (min len (length link.unread))

-- a connection after a read that gave this many bytes
abbrev pub link_after_read : ℕ → LinkState → LinkState
link_after_read count link = record link { unread = drop count link.unread }

-- how many bytes a connection has room for
abbrev pub link_room_left : LinkState → ℕ
link_room_left link = link.room - length link.written

-- how many of these bytes a write of at most `most` takes
abbrev pub link_write_count : LinkState → ℕ → List ℕ → ℕ
link_write_count link most from = min most (min (length from) (link_room_left link))

-- these bytes aren't empty, and no room is left for them
abbrev pub IsFull : LinkState → List ℕ → Type 0
IsFull link from = (0 < length from) × (link_room_left link ≡ 0)

-- a connection after a write that took these bytes
abbrev pub link_after_write : List ℕ → LinkState → LinkState
link_after_write bytes link = record link { written = link.written ++ bytes }

-- what is told of a connection
abbrev pub link_of : LinkState → Link
link_of link = record { unread = link.unread; written = link.written }

-- the bytes to be read on the open connection, none where none is open
abbrev pub unread_of : Option LinkState → List ℕ
unread_of None = []
unread_of (Some link) = link.unread

-- the bytes written on the open connection, none where none is open
abbrev pub written_of : Option LinkState → List ℕ
written_of None = []
written_of (Some link) = link.written

-- what is told of a door
abbrev pub links_of : DoorState → Links
links_of door = record {
  finished = map link_of door.finished;
  unread = unread_of door.present;
  written = written_of door.present;
  coming = map (λ link. link.bytes) door.coming;
}

-- a door after a `listen`
abbrev pub after_listen : DoorState → DoorState
after_listen door = record door { door_calls = after_call door.door_calls }

-- a door after a `listen` or an `accept` that failed
abbrev pub after_door_fault : DoorState → DoorState
after_door_fault door = record door { door_calls = after_failed door.door_calls }

-- the connections that are shut when the next one is accepted
abbrev pub all_finished : DoorState → List LinkState
all_finished door = door.finished ++ option_to_list door.present

-- a door after an `accept`: the next connection is open, and one that was open is shut; nothing where none comes
abbrev pub after_accepted : DoorState → List WaitingState → DoorState
after_accepted door [] = after_listen door
after_accepted door (next ∷ rest) = record (after_listen door) {
  finished = all_finished door;
  present = Some (opened_link next);
  coming = rest;
}

-- a door after a read that gave this many bytes
abbrev pub door_after_read : ℕ → DoorState → DoorState
door_after_read count door = record door {
  present = option_map (link_after_read count) door.present;
  link_calls = after_call door.link_calls;
}

-- a door after a write that took these bytes
abbrev pub door_after_write : List ℕ → DoorState → DoorState
door_after_write bytes door = record door {
  present = option_map (link_after_write bytes) door.present;
  link_calls = after_call door.link_calls;
}

-- a door after a read or a write that failed
abbrev pub after_link_fault : DoorState → DoorState
after_link_fault door = record door { link_calls = after_failed door.link_calls }

-- a door after the open connection was shut
abbrev pub door_after_shut : DoorState → DoorState
door_after_shut door = record door { finished = all_finished door; present = None }

-- the open connection has no room left for these bytes, which aren't empty
abbrev pub PresentIsFull : Option LinkState → List ℕ → Type 0
PresentIsFull None from = ⊥
PresentIsFull (Some link) from = IsFull link from

-- the next write of these bytes fails: it is listed, or they aren't empty and no room is left
abbrev pub FailsToSend : DoorState → List ℕ → Type 0
FailsToSend door from = IsListed door.link_calls ⊎ PresentIsFull door.present from

-- how many bytes a read of at most `most` gives, of the open connection, into a piece of this length
abbrev pub present_read_count : Option LinkState → ℕ → ℕ → ℕ
present_read_count None most len = 0
present_read_count (Some link) most len = link_read_count link most len

-- how many of these bytes a write of at most `most` takes, on the open connection
abbrev pub present_write_count : Option LinkState → ℕ → List ℕ → ℕ
present_write_count None most from = 0
present_write_count (Some link) most from = link_write_count link most from

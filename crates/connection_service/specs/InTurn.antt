-- How connections are served one after another.
use Rattle.std.specs.Prelude.{Bool, IfSome, List, OnOk, Option, Result, false, option_map, true, ℕ, ◌+◌, ◌≡◌, ◌≤◌, ◌⊎◌}
use Rattle.agent_edge.specs.Links.{Links, after_accept, has_more}
use Rattle.agent_edge.specs.declared.doors.DoorFault.{DoorFault}
use Rattle.connection_service.specs.Answers.{At}
use Rattle.connection_service.specs.Serving.{CountsLink, IsServedAndShut}
use Rattle.connection_service.specs.declared.serving.Served.{Served}

-- a door: whether a connection is open, what is told of the connections, and the count of their faults
pub record DoorAt : Type 0 where
  pub is_connected : Bool
  pub links : Option Links
  pub link_faults : ℕ

abbrev pub door_at : Bool → Option Links → ℕ → DoorAt
door_at is_connected links link_faults = record { is_connected = is_connected; links = links; link_faults = link_faults }

-- A connection was accepted, served and shut, however its link fared.
pub record IsOneServed (operator : List ℕ) (opened : At) (before now : DoorAt) (at : At) : Type 0 where
  pub served : Served
  pub more : IfSome before.links (λ links. has_more links ≡ true)
  pub is_served : IsServedAndShut operator opened (option_map (after_accept before.is_connected) before.links) served now.links at
  pub shut : now.is_connected ≡ false
  pub link : CountsLink served before.link_faults now.link_faults

-- nothing was served, and nothing changed
abbrev pub IsUnchanged : At → At → DoorAt → DoorAt → Type 0
IsUnchanged opened at before now = (at ≡ opened) × (now ≡ before)

-- the next connection was served; or the door is closed
abbrev pub ServesNext : List ℕ → At → At → DoorAt → DoorAt → Bool → Type 0
ServesNext operator opened at before now true = IsOneServed operator opened before now at
ServesNext operator opened at before now false = IsUnchanged opened at before now × IfSome now.links (λ links. has_more links ≡ false)

-- So many connections were served, each behind what those before it left.
pub data InTurn (operator : List ℕ) (opened : At) (before : DoorAt) : ℕ → DoorAt → At → Type 0 where
  none : InTurn operator opened before 0 before opened
  next : (count : ℕ) (mid now : DoorAt) (at after : At) → InTurn operator opened before count mid at
      → IsOneServed operator at mid now after → InTurn operator opened before (count + 1) now after

-- Connections were served, up to so many; fewer only where the door is closed, or where the next one couldn't be accepted.
pub record AreServed (operator : List ℕ) (most : ℕ) (opened : At) (before : DoorAt) (ends : Result Unit DoorFault) (now : DoorAt) (at : At) : Type 0 where
  pub count : ℕ
  pub in_turn : InTurn operator opened before count now at
  pub within : count ≤ most
  pub whole : OnOk ends ((count ≡ most) ⊎ IfSome now.links (λ links. has_more links ≡ false))

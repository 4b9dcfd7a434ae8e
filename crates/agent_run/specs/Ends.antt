-- How a run ends, by the command that its words give: what was done, what is kept, and the cause of each status.
use Rattle.std.specs.Io.KnownBytes.{Appends}
use Rattle.std.specs.List.{list_any}
use Rattle.std.specs.Prelude.{IfSome, IsTrue, List, None, Ok, Option, Some, [], length, ℕ, ◌<◌, ◌==◌, ◌∷◌, ◌≡◌, ◌≢◌, ◌≤◌, ◌⊎◌}
use Rattle.agent_run.specs.Runs.{AreServedFrom, GrowLawfully, IsCut, IsDone, IsStopped, IsUntouched, MaySayLine, SaysLine, ServiceAt, SinkAt, TellSame, TellsLawful, damaged_line, door_failed, service_at, sink_at, status_line}
use Rattle.agent_run.specs.declared.applying.TheConstants.{MAX_SCRIPT}
use Rattle.agent_edge.specs.Counts.{Rose}
use Rattle.agent_keeper.specs.Calls.{Rose as KeeperRose}
use Rattle.agent_keeper.specs.Content.{Content}
use Rattle.agent_run.specs.Commands.{Apply, Command, Load, Serve, apply, load, serve}
use Rattle.agent_run.specs.declared.command.Command.{Command as CommandRead}
use Rattle.agent_run.specs.declared.command.Command.TheVariants as read
use Rattle.connection_service.specs.Answers.{ClockAt}
use Rattle.connection_service.specs.InTurn.{DoorAt}
use Rattle.load_requests.specs.Summaries.{load_text}
use Rattle.load_requests.specs.declared.load.Load.{Load as Generated}
use Rattle.register_desk.specs.Rows.{IsDamagedAt}
use Rattle.script_answers.specs.Runs.{AppendsFront}

-- What a run is handed, and what it leaves: what the keeper tells, the door, the clock, what the source has left, what was
-- written to the sink, and the count of faults of each; of the door that of its listening and accepting.
pub record Sides : Type 1 where
  pub told : Content → Type 0
  pub keeper_faults : ℕ
  pub door : DoorAt
  pub door_faults : ℕ
  pub clock : ClockAt
  pub left : Option (List ℕ)
  pub read_faults : ℕ
  pub written : Option (List ℕ)
  pub write_faults : ℕ

-- these by the objects that are handed in, each with its count
abbrev pub sides_of : (Content → Type 0) × ℕ → DoorAt × ℕ → ClockAt → Option (List ℕ) × ℕ → Option (List ℕ) × ℕ → Sides
sides_of keeper door clock source sink = record {
  told = keeper.0;
  keeper_faults = keeper.1;
  door = door.0;
  door_faults = door.1;
  clock = clock;
  left = source.0;
  read_faults = source.1;
  written = sink.0;
  write_faults = sink.1;
}

-- what of them serving works on
abbrev pub service : Sides → ServiceAt
service sides = service_at sides.told sides.keeper_faults sides.door sides.clock

-- what of them is the sink's
abbrev pub sink : Sides → SinkAt
sink sides = sink_at sides.written sides.write_faults

-- the numbers of a load are within its bounds
abbrev pub IsInRange : CommandRead → Type 0
IsInRange (read.Apply store key) = Unit {0}
IsInRange (read.Load number households days) = (1 ≤ households) × (households ≤ 1000) × (days ≤ 2000)
IsInRange (read.Serve store port key connections) = Unit {0}

-- what holds where the command is `apply`, where it is `load`, and where it is `serve`
abbrev pub IfApply : Option Command → (Apply → Type 0) → Type 0
IfApply (Some (apply options)) Holds = Holds options
IfApply (Some (load options)) Holds = Unit {0}
IfApply (Some (serve options)) Holds = Unit {0}
IfApply None Holds = Unit {0}

abbrev pub IfLoad : Option Command → (Load → Type 0) → Type 0
IfLoad (Some (load options)) Holds = Holds options
IfLoad (Some (apply options)) Holds = Unit {0}
IfLoad (Some (serve options)) Holds = Unit {0}
IfLoad None Holds = Unit {0}

abbrev pub IfServe : Option Command → (Serve → Type 0) → Type 0
IfServe (Some (serve options)) Holds = Holds options
IfServe (Some (apply options)) Holds = Unit {0}
IfServe (Some (load options)) Holds = Unit {0}
IfServe None Holds = Unit {0}

-- the command is `apply`, and this holds of its options; and the same of `serve`
abbrev pub IsApply : Option Command → (Apply → Type 0) → Type 0
IsApply (Some (apply options)) Holds = Holds options
IsApply (Some (load options)) Holds = ⊥
IsApply (Some (serve options)) Holds = ⊥
IsApply None Holds = ⊥

abbrev pub IsServe : Option Command → (Serve → Type 0) → Type 0
IsServe (Some (serve options)) Holds = Holds options
IsServe (Some (apply options)) Holds = ⊥
IsServe (Some (load options)) Holds = ⊥
IsServe None Holds = ⊥

-- the load that the options of the command name
abbrev pub load_of_options : Load → Generated
load_of_options options = record { number = options.number; households = options.households; days = options.days }

abbrev pub is_one_of : List ℕ → ℕ → Type 0
is_one_of statuses status = IsTrue (list_any (λ known. status == known) statuses)

-- what is kept is as it was, and the line of a status was said
abbrev pub SaysOnly : List ℕ → Sides → Sides → Type 0
SaysOnly line before after = IsUntouched line before.told after.told (sink before) (sink after)

-- the door and the clock are as they were
abbrev pub LeavesDoor : Sides → Sides → Type 0
LeavesDoor before after = (after.door ≡ before.door) × (after.door_faults ≡ before.door_faults) × (after.clock ≡ before.clock)

pub record Ends (command : Option Command) (status : ℕ) (before after : Sides) : Type 0 where
  -- the statuses that there are
  pub known : is_one_of (0 ∷ 1 ∷ 2 ∷ 3 ∷ 4 ∷ 5 ∷ 6 ∷ 7 ∷ 8 ∷ []) status
  -- 0: the script was read to its end; what was written is exactly the lines of the register machine's run over its items, from
  -- the journal as it was opened, and where rows are told they are those of the journal at the end of that run
  pub done : status ≡ 0 → IfApply command (λ options.
      IsDone options.key before.told after.told before.left after.left before.written after.written)
  -- 0: or what was written is the summary of the machine's run over the generated requests
  pub loaded : status ≡ 0 → IfLoad command (λ options.
      Appends before.written after.written (load_text (load_of_options options)))
  -- 0: or as many connections as were asked for were served in turn, from the journal as it was opened, or all that the door
  -- had; where rows are told they are those of the journal that the last one left, and nothing was written to the sink
  pub served : status ≡ 0 → IfServe command (λ options.
      AreServedFrom options.key options.connections (Ok tt) (service before) (service after) × (after.written ≡ before.written))
  pub no_write_fault : status ≡ 0 → after.write_faults ≡ before.write_faults
  -- whatever the status: told rows only grow, and by what the machine appends; a load leaves all but the sink as it was
  pub kept : (first last : Content) → before.told first → after.told last → GrowLawfully first.rows last.rows
  pub load_leaves : IfLoad command (λ _.
      TellSame before.told after.told × (after.keeper_faults ≡ before.keeper_faults) × (after.left ≡ before.left))
  pub load_ends : IfLoad command (λ _. is_one_of (0 ∷ 4 ∷ 7 ∷ []) status)
  -- serving leaves the source as it was
  pub serve_leaves : IfServe command (λ _. (after.left ≡ before.left) × (after.read_faults ≡ before.read_faults))
  pub serve_ends : IfServe command (λ _. is_one_of (0 ∷ 5 ∷ 6 ∷ 7 ∷ 8 ∷ []) status)
  -- door and clock are as they were but where connections were served
  pub door_leaves : LeavesDoor before after ⊎ IsServe command (λ _. is_one_of (0 ∷ 8 ∷ []) status)
  -- 1: the words give no command, and they give none only with this status or want of memory
  pub usage : status ≡ 1 → command ≡ None
  pub usage_due : command ≡ None → (status ≡ 1) ⊎ (status ≡ 7)
  pub usage_line : status ≡ 1 → SaysOnly (status_line 1) before after
  -- 2: only where the script has more than 16 MiB; and such a script ends with no other status but those of a store that isn't
  -- opened, of a read fault and of want of memory
  pub too_long : status ≡ 2 → IfSome before.left (λ script. MAX_SCRIPT < length script)
  pub not_long : IfApply command (λ _. IfSome before.left (λ script. MAX_SCRIPT < length script
      → is_one_of (2 ∷ 3 ∷ 5 ∷ 6 ∷ 7 ∷ []) status))
  pub long_line : status ≡ 2 → SaysOnly (status_line 2) before after
  -- 3: only where a read failed in this call; and a read that failed ends with no other status
  pub read_fault : status ≡ 3 → Rose before.read_faults after.read_faults
  pub no_read_fault : status ≢ 3 → after.read_faults ≡ before.read_faults
  pub fault_line : status ≡ 3 → SaysOnly (status_line 3) before after
  -- 4: only where a write failed in this call; the items up to one were answered and kept, and of the line of this one, or of
  -- the summary, a front was written
  pub write_fault : status ≡ 4 → Rose before.write_faults after.write_faults
  pub cut : status ≡ 4 → IfApply command (λ options.
      IsCut options.key before.told after.told before.left after.left before.written after.written)
  pub load_cut : status ≡ 4 → IfLoad command (λ options.
      AppendsFront before.written after.written (load_text (load_of_options options)))
  -- 5: only where the keeper failed in this call: before the store was open, or behind the items that were answered and kept
  pub keeper_fault : status ≡ 5 → KeeperRose before.keeper_faults after.keeper_faults
  pub failed : status ≡ 5
      → SaysOnly (status_line 5) before after
      ⊎ IsApply command (λ options.
      IsStopped (status_line 5) options.key before.told after.told before.left (sink before) (sink after))
  -- 6: the line says the first row of the store that is missing, no spelling, or not lawful behind the rows before it; where memory
  -- for the line is wanting nothing is written. A store with such a row ends with none of the statuses of a store that is open
  pub damaged : status ≡ 6 → (place : ℕ) × MaySayLine (damaged_line place) (sink before) (sink after)
      × TellSame before.told after.told
      × ((kept : Content) → after.told kept → IsDamagedAt place kept.rows)
  pub not_damaged : IfApply command (λ _. is_one_of (0 ∷ 2 ∷ 3 ∷ 4 ∷ []) status → TellsLawful after.told)
  pub served_undamaged : IfServe command (λ _. is_one_of (0 ∷ 8 ∷ []) status → TellsLawful after.told)
  -- 7: want of memory, before the store was open or behind the items that were answered and kept
  pub no_memory : status ≡ 7
      → SaysOnly (status_line 7) before after
      ⊎ IsApply command (λ options.
      IsStopped (status_line 7) options.key before.told after.told before.left (sink before) (sink after))
  -- 8: only where listening or accepting failed in this call, and then with no other status; only `serve` ends so, and the
  -- connections before it were served
  pub door_fault : status ≡ 8 → Rose before.door_faults after.door_faults
  pub no_door_fault : status ≢ 8 → after.door_faults ≡ before.door_faults
  pub served_before : status ≡ 8 → IsServe command (λ options.
      AreServedFrom options.key options.connections door_failed (service before) (service after))
  pub door_line : status ≡ 8 → SaysLine (status_line 8) (sink before) (sink after)

-- What a run leaves where it ends, and the line of a status.
use Rattle.std.specs.Io.KnownBytes.{Appends}
use Rattle.std.specs.Prelude.{Err, IfSome, List, Option, Result, Some, [], codes, decimal, if◌then◌else◌, length, take, ℕ, ◌++◌, ◌<◌, ◌==◌, ◌∷◌, ◌≡◌, ◌≤◌, ◌⊎◌}
use Rattle.agent_edge.specs.Counts.{Rose}
use Rattle.agent_edge.specs.declared.doors.DoorFault.{DoorFault}
use Rattle.connection_service.specs.Answers.{At, ClockAt, kept_at}
use Rattle.connection_service.specs.InTurn.{AreServed, DoorAt}
use Rattle.script_answers.specs.declared.answering.AnswerFault.{AnswerFault}
use Rattle.script_answers.specs.declared.answering.AnswerFault.TheVariants.{Keeper, NoMemory, Write}
use Rattle.script_answers.specs.Runs.{AreAnswered, IsCutShort, OfFront, run_over}
use Rattle.agent_events.specs.declared.item.ScriptItem.{ScriptItem}
use Rattle.agent_keeper.specs.Content.{Content}
use Rattle.register_desk.specs.Rows.{TellsRowsOf, rows_of}
use Rattle.register_machine.specs.journal.Journals.{Journal}
use Rattle.register_machine.specs.journal.Lawful.{IsLawful}
use Rattle.register_machine.specs.run.Scripts.{script_items}

-- The rows are as they were, or both are those of lawful journals of which the later begins with the earlier.
abbrev pub GrowLawfully : List (List ℕ) → List (List ℕ) → Type 0
GrowLawfully first last =
    (last ≡ first) ⊎ ((opened more : Journal) × IsLawful (opened ++ more) × (first ≡ rows_of opened) × (last ≡ rows_of (opened ++ more)))

-- rows that are told are those of a lawful journal
abbrev pub TellsLawful : (Content → Type 0) → Type 0
TellsLawful told = (kept : Content) → told kept → (journal : Journal) × IsLawful journal × (kept.rows ≡ rows_of journal)

-- what is told now is no other than what was told before, where there is both
abbrev pub TellSame : (Content → Type 0) → (Content → Type 0) → Type 0
TellSame before now = (first last : Content) → before first → now last → last ≡ first

-- A journal is the one that was opened: it is lawful, and where something is told before and after the run its rows were told before.
pub record IsOpened (before now : Content → Type 0) (opened : Journal) : Type 0 where
  pub lawful : IsLawful opened
  pub rows : (first last : Content) → before first → now last → first.rows ≡ rows_of opened

-- The script was read to its end, and each of its items answered.
abbrev pub IsDone : List ℕ → (Content → Type 0) → (Content → Type 0) → Option (List ℕ) → Option (List ℕ) → Option (List ℕ) → Option (List ℕ) → Type 0
IsDone operator before now left_before left_after old new =
    IfSome left_before
    (λ script. (left_after ≡ Some []) × (opened : Journal) × IsOpened before now opened
    × AreAnswered operator opened (script_items script) now old new)

-- The script was read to its end, and the line of one of its items was cut short.
abbrev pub IsCut : List ℕ → (Content → Type 0) → (Content → Type 0) → Option (List ℕ) → Option (List ℕ) → Option (List ℕ) → Option (List ℕ) → Type 0
IsCut operator before now left_before left_after old new =
    IfSome left_before
    (λ script. (left_after ≡ Some []) × (opened : Journal) × IsOpened before now opened
    × IsCutShort operator opened (script_items script) now old new)

-- what was written to a sink, where it is told, and the sink's count of faults
pub record SinkAt : Type 0 where
  pub written : Option (List ℕ)
  pub faults : ℕ

abbrev pub sink_at : Option (List ℕ) → ℕ → SinkAt
sink_at written faults = record { written = written; faults = faults }

-- Behind these lines all of the line was written, and no write failed; or a write failed, and less than all of it stands.
abbrev pub SaysBehind : List ℕ → List ℕ → SinkAt → SinkAt → Type 0
SaysBehind lines line old new =
    (Appends old.written new.written (lines ++ line) × (new.faults ≡ old.faults))
    ⊎ (Rose old.faults new.faults × (count : ℕ) × (count < length line)
    × Appends old.written new.written (lines ++ take count line))

-- all of the line was written, and no write failed; or a write failed, and less than all of it stands
abbrev pub SaysLine : List ℕ → SinkAt → SinkAt → Type 0
SaysLine line old new = SaysBehind [] line old new

-- the line was said, or memory for making it was wanting, and the sink is as it was
abbrev pub MaySayLine : List ℕ → SinkAt → SinkAt → Type 0
MaySayLine line old new = SaysLine line old new ⊎ (new ≡ old)

-- The items were answered, all of their lines are written, and behind them the run said a line of its own.
pub record AreEndedSaying (line operator : List ℕ) (opened : Journal) (items : List ScriptItem) (told : Content → Type 0) (old new : SinkAt) : Type 0 where
  pub lines : SaysBehind (run_over operator opened items).lines line old new
  pub kept : TellsRowsOf told (run_over operator opened items).journal

-- Behind some items of the script the run ended with a line of its own.
abbrev pub IsStopped : List ℕ → List ℕ → (Content → Type 0) → (Content → Type 0) → Option (List ℕ) → SinkAt → SinkAt → Type 0
IsStopped line operator before now left_before old new =
    IfSome left_before
    (λ script. (opened : Journal) × IsOpened before now opened
    × OfFront (λ front. AreEndedSaying line operator opened front now old new) (script_items script))

-- Nothing was answered, and nothing that is kept was changed.
pub record IsUntouched (said : List ℕ) (before now : Content → Type 0) (old new : SinkAt) : Type 0 where
  pub line : SaysLine said old new
  pub kept : TellSame before now

-- what serving works on: what the keeper tells and its count of faults, the door and the clock
pub record ServiceAt : Type 1 where
  pub told : Content → Type 0
  pub keeper_faults : ℕ
  pub door : DoorAt
  pub clock : ClockAt

abbrev pub service_at : (Content → Type 0) → ℕ → DoorAt → ClockAt → ServiceAt
service_at told keeper_faults door clock = record { told = told; keeper_faults = keeper_faults; door = door; clock = clock }

-- Connections were served from here on, and rows that are told are those of the journal that they left.
pub record AreServedBehind (operator : List ℕ) (most : ℕ) (opened : At) (before : DoorAt) (ends : Result Unit DoorFault) (after : ServiceAt)
    : Type 0 where
  pub left : Journal
  pub in_turn : AreServed operator most opened before ends after.door
      (record { kept = kept_at left after.keeper_faults; clock = after.clock })
  pub told : TellsRowsOf after.told left

-- The store was opened, which may have raised the keeper's count and nothing else, and connections were served from its journal on.
pub record AreServedFrom (operator : List ℕ) (most : ℕ) (ends : Result Unit DoorFault) (before after : ServiceAt) : Type 0 where
  pub opened : Journal
  pub is_opened : IsOpened before.told after.told opened
  pub keeper_faults : ℕ
  pub no_fewer : before.keeper_faults ≤ keeper_faults
  pub behind : AreServedBehind operator most (record { kept = kept_at opened keeper_faults; clock = before.clock }) before.door ends after

-- serving ended since the door couldn't listen, or couldn't accept the next connection
abbrev pub door_failed : Result Unit DoorFault
door_failed = Err (record {})

-- the line that a status prints
abbrev pub status_line : ℕ → List ℕ
status_line status =
    if status == 1 then codes "usage" ++ 10 ∷ []
    else if status == 2 then codes "input too long" ++ 10 ∷ []
    else if status == 3 then codes "read fault" ++ 10 ∷ []
    else if status == 5 then codes "keeper fault" ++ 10 ∷ []
    else if status == 8 then codes "door fault" ++ 10 ∷ []
    else codes "no memory" ++ 10 ∷ []

-- the line of a store that is damaged at this row
abbrev pub damaged_line : ℕ → List ℕ
damaged_line place = codes "damaged " ++ (decimal place ++ 10 ∷ [])

-- the status of answers that ended early, and the line with which they end
abbrev pub status_of : AnswerFault → ℕ
status_of Write = 4
status_of Keeper = 5
status_of NoMemory = 7

abbrev pub EndsWithLine : AnswerFault → SinkAt → SinkAt → Type 0
EndsWithLine Write old new = new ≡ old
EndsWithLine Keeper old new = SaysLine (status_line 5) old new
EndsWithLine NoMemory old new = SaysLine (status_line 7) old new

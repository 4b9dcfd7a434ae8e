-- Positions behind a script, with the numbers of their lots, and the lines that a load sends.
use Rattle.std.specs.Prelude.{Err, List, None, Ok, Option, Some, ℕ, ◌++◌, ◌∷◌, ◌≡◌, bytes_eq, codes, false, if◌then◌else◌, map}
use Rattle.agent_events.specs.VerbForms.{Asked}
use Rattle.agent_events.specs.declared.item.ScriptItem.{ScriptItem}
use Rattle.load_requests.specs.Requests.{requests_of, sent_at}
use Rattle.load_requests.specs.declared.load.Load.{Load}
use Rattle.load_requests.specs.declared.load.Sent.{Sent}
use Rattle.register_machine.specs.pricing.CorrectedBook.{book_of}
use Rattle.register_machine.specs.replay.Positions.{Position, position_of}
use Rattle.register_machine.specs.replay.Replay.{replay}
use Rattle.register_machine.specs.run.Scripts.{Run, empty_run, run_from, script_items}
use Rattle.register_worked.specs.WorkedRuns.{calendar_over, days_of_july, openings, operator_key, text_of}
use Rattle.share_lots.specs.declared.lot.Lot.{Lot}

-- the position of account 101 in class 14 behind a run
abbrev pub position_in : Run → Position
position_in run = position_of (replay (book_of run.table run.journal)).register 101 14

-- and behind the preamble in July and these lines
abbrev pub position_behind : List (List ℕ) → Position
position_behind items =
    position_in
    (run_from operator_key empty_run (script_items (text_of (calendar_over (codes "1") days_of_july ∷ openings ++ items))))

-- a lot by its number, with its date, its mils and its cost
abbrev pub lot_of : ℕ → ℕ → ℕ → ℕ → Lot
lot_of number day mils cents =
    record { number = number; day = day; loose = mils; held = 0; cost = cents; free = false }

-- what the operator sends by an item, in its form
abbrev pub asked_at : ℕ → Asked → Option Sent
asked_at moment (Ok request) = Some (sent_at moment request)
asked_at moment (Err place) = None

abbrev pub sent_by : ScriptItem → Option Sent
sent_by ScriptItem.Bad = None
sent_by (ScriptItem.Good now key asked) = if bytes_eq key operator_key then asked_at now asked else None

-- a load sends what these lines ask, in order
abbrev pub Sends : Load → List (List ℕ) → Type 0
Sends load lines = map sent_by (script_items (text_of lines)) ≡ map Some (requests_of load)

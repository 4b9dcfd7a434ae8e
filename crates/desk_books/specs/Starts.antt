-- Where the replay of a household begins: before all sheets, or at the last state that is kept of it behind a sheet which the
-- correction doesn't touch.
use Rattle.std.specs.Option.{option_map_or}
use Rattle.std.specs.Prelude.{List, Option, Some, [], find, length, ℕ, ◌-◌, ◌<◌, ◌≡◌, ◌≤◌}
use Rattle.agent_events.specs.Events.{Event}
use Rattle.agent_events.specs.declared.event.EventKind.{EventKind}
use Rattle.checkpoint_replay.specs.declared.reopening.ReplayStart.{ReplayStart}
use Rattle.desk_books.specs.declared.starts.KeptStart.{KeptStart}
use Rattle.forward_price.specs.declared.price_sheet.Sheet.{Sheet}
use Rattle.ledger_laws.specs.KeptOfBooks.{part_to}
use Rattle.checkpoint_replay.specs.KeptStates.{last_before, states_in}
use Rattle.checkpoint_replay.specs.declared.states.KeptState.{KeptState}
use Rattle.register_laws.specs.Lawful.{book_behind}
use Rattle.register_machine.specs.journal.Journals.{Journal, with_event}
use Rattle.register_machine.specs.rules.NamedThings.{lists_at}
use Rattle.standing_orders.specs.Priced.{AreSettledOnTrial}
use Rattle.standing_orders.specs.IndexOfJournals.{sheets_of}
use Rattle.standing_orders.specs.SettledOrders.{AreSettled}

-- no part changes behind a sheet before this one
abbrev pub LeavesPartsBefore : Journal → Event → ℕ → Type 0
LeavesPartsBefore journal event before =
    (household sheet : ℕ) → sheet < before
    → part_to (book_behind (with_event journal event)) household sheet ≡ part_to (book_behind journal) household sheet

-- what is settled of a household up to a sheet before this one stays so, on trial and behind the event
abbrev pub LeavesSettledOnTrial : Journal → Event → ℕ → Type 0
LeavesSettledOnTrial journal event before =
    (household first number : ℕ) → number < before → AreSettled (book_behind journal) household first number
    → AreSettledOnTrial journal (Some event) (sheets_of journal) household first number

abbrev pub LeavesSettledBehind : Journal → Event → ℕ → Type 0
LeavesSettledBehind journal event before =
    (household first number : ℕ) → number < before → first ≤ length (book_behind journal).orders
    → AreSettled (book_behind journal) household first number
    → AreSettled (book_behind (with_event journal event)) household first number

-- The event touches no sheet before this one.
pub record LeavesBefore (journal : Journal) (event : Event) (before : ℕ) : Type 0 where
  pub parts : LeavesPartsBefore journal event before
  pub trial : LeavesSettledOnTrial journal event before
  pub settled : LeavesSettledBehind journal event before

-- before all sheets nothing is known of the household
abbrev pub first_start : ℕ → ReplayStart
first_start household =
    record { household = household; state = record { number = household; register = [] }; sheet = 0; kept = 0 }

abbrev pub start_at : ℕ → KeptState → ReplayStart
start_at household kept =
    record { household = household; state = kept.state; sheet = kept.sheet; kept = kept.trades }

-- at the state that is found, or before all sheets
abbrev pub start_by : ℕ → Option KeptState → KeptStart
start_by household found =
    option_map_or (λ (kept : KeptState). record { replay = start_at household kept; orders = kept.orders })
    found (record { replay = first_start household; orders = 0 })

-- how many sheets, as far as the last one, the replay of a household goes over behind its start
abbrev pub sheets_replayed : List (ℕ × List KeptState) → ℕ → ℕ → ℕ → ℕ
sheets_replayed rows before last household =
    last - (start_by household (last_before before (states_in rows household))).replay.sheet

-- the number of the sheet that lists a class at a moment, 0 where there is none
abbrev pub number_listed : ℕ → ℕ → List Sheet → ℕ
number_listed class moment sheets = option_map_or (λ sheet. sheet.number) (find (lists_at class moment) sheets) 0

-- the sheet that a corrected price or rate touches; where a corrected order is executed isn't looked for
abbrev pub first_touched : List Sheet → EventKind → ℕ
first_touched sheets (EventKind.FixPrice form) = number_listed form.class form.moment sheets
first_touched sheets (EventKind.FixRate form) = number_listed form.class form.moment sheets
first_touched sheets _ = 0

-- The opening bound of a journal: how many steps its events take at most, each asked again behind those before it; and how many are
-- taken where the rows of a store end in a bad one.
use Rattle.std.specs.Prelude.{All, List, None, Option, Some, [], slice_get, take, ℕ, ◌+◌, ◌∷◌, ◌≡◌, ◌≤◌, ◌⊎◌}
use Rattle.agent_events.specs.Events.{Event}
use Rattle.register_desk.specs.StepBounds.{AreFewSteps, most_steps}
use Rattle.event_rows.specs.InForm.{InForm}
use Rattle.event_rows.specs.Rows.{event_row}
use Rattle.register_desk.specs.Rows.{rows_of}
use Rattle.register_machine.specs.journal.Journals.{Journal, with_event}
use Rattle.register_machine.specs.journal.Lawful.{IsLawful}

-- the sum over these events, each behind the journal and those before it
abbrev pub bound_behind : Journal → List Event → ℕ
bound_behind journal [] = 0
bound_behind journal (event ∷ later) = most_steps journal event + bound_behind (with_event journal event) later

abbrev pub opening_bound : Journal → ℕ
opening_bound journal = bound_behind [] journal

-- A bad row behind the journal takes none, or it is the row of an event that doesn't follow, and takes what such a one does: none
-- either, unless it is a correction.
abbrev pub TakesWhereBad : Option (List ℕ) → Journal → ℕ → ℕ → Type 0
TakesWhereBad row journal before after =
    (after ≤ before)
    ⊎ ((event : Event) × InForm event × (row ≡ Some (event_row event)) × AreFewSteps journal event None before after)

-- The rows before this place are those of a lawful journal, which take at most its opening bound; and behind them is the bad one.
pub record TakesUpToBad (place : ℕ) (kept : List (List ℕ)) (before after : ℕ) : Type 0 where
  pub journal : Journal
  pub lawful : IsLawful journal
  pub in_form : All InForm journal
  pub rows : take place kept ≡ rows_of journal
  pub few : TakesWhereBad (slice_get kept place) journal (before + opening_bound journal) after

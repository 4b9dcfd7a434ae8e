-- How many households are taken over a sheet for an answer: none but for a new sheet and a new correction.
use Rattle.std.specs.List.Sorted.{IsStrictlyIncreasing}
use Rattle.std.specs.Prelude.{List, None, Option, Some, false, length, true, ℕ, ◌*◌, ◌+◌, ◌||◌, ◌≡◌, ◌≤◌, ◌⊎◌}
use Rattle.agent_events.specs.Events.{Event, request_of}
use Rattle.agent_events.specs.declared.event.EventKind.{EventKind}
use Rattle.agent_events.specs.declared.verdict.Verdict.{Verdict}
use Rattle.checkpoint_replay.specs.Moves.{households_of}
use Rattle.desk_books.specs.HouseholdsReopened.{AreReached}
use Rattle.register_desk.specs.Fresh.{ledger_of, moves_in}
use Rattle.desk_books.specs.declared.change.EventChange.{EventChange}
use Rattle.register_laws.specs.EventReplays.{is_correction, is_sheet}
use Rattle.register_laws.specs.Lawful.{book_behind, own_at}
use Rattle.register_machine.specs.journal.Journals.{Journal}
use Rattle.register_machine.specs.journal.Lawful.{asker_of}
use Rattle.register_machine.specs.run.Verdicts.{verdict}
use Rattle.desk_books.specs.SheetReach.{TakeOneStepEach}

-- at most as many steps as there are sheets, for each household that a correction can reach, each once
abbrev pub StepsWhereReached : Journal → EventKind → ℕ → ℕ → Type 0
StepsWhereReached journal kind before after =
    (households : List ℕ) × IsStrictlyIncreasing households × AreReached journal kind households
    × (after ≤ before + length households * length (book_behind journal).table.sheets)

-- a new sheet takes one step for each household that it moves, for which it isn't quiet, a new correction those of the households that it can reach, and
-- any other new event none
pub record TakesSteps (journal : Journal) (event : Event) (change : Option EventChange) (before after : ℕ) : Type 0 where
  pub sheet : is_sheet event.kind ≡ true → TakeOneStepEach journal event (households_of (moves_in (ledger_of change))) before after
  pub correction : is_correction event.kind ≡ true → StepsWhereReached journal event.kind before after
  pub other : (is_sheet event.kind || is_correction event.kind) ≡ false → after ≡ before

-- and what isn't new takes none
abbrev pub AreStepsOf : Journal → Verdict → Option EventChange → ℕ → ℕ → Type 0
AreStepsOf journal (Verdict.Fresh event) change before after =
    TakesSteps journal event change before after
AreStepsOf journal (Verdict.Again place) change before after = after ≡ before
AreStepsOf journal Verdict.Query change before after = after ≡ before
AreStepsOf journal (Verdict.Refused why) change before after = after ≡ before

-- ---- An event that is asked for again.

-- by its own request, its asker and its moment
abbrev pub AreStepsAsked : Journal → Event → Option EventChange → ℕ → ℕ → Type 0
AreStepsAsked journal event change before after =
    AreStepsOf journal (verdict (own_at journal event.moment (asker_of journal event.kind)) (request_of event.kind))
    change before after

-- One that follows the journal takes the steps of a new event; one that doesn't takes those of a correction, or none.
abbrev pub AreStepsFound : Journal → Event → Option EventChange → ℕ → ℕ → Type 0
AreStepsFound journal event (Some change) before after =
    TakesSteps journal event (Some change) before after
AreStepsFound journal event None before after =
    (after ≡ before)
    ⊎ ((is_correction event.kind ≡ true) × StepsWhereReached journal event.kind before after)

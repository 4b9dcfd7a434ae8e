-- What is read from a text has its lists in their forms, so every event of a script's run fits a stored row.
use Rattle.std.specs.List.{list_all}
use Rattle.std.specs.Prelude.{Bool, Err, List, Ok, true, ℕ, ◌≡◌}
use Rattle.agent_events.specs.Events.{Event, fits_row}
use Rattle.agent_events.specs.Fields.{are_holidays, is_rising}
use Rattle.agent_events.specs.Items.{asked_by, batch_line}
use Rattle.agent_events.specs.VerbForms.{Asked}
use Rattle.agent_events.specs.declared.request.Request.{Request}
use Rattle.register_laws.specs.LawfulLimits.{has_list_forms}
use Rattle.register_machine.specs.journal.Journals.{Journal}
use Rattle.register_machine.specs.journal.Lawful.{IsLawful}
use Rattle.register_machine.specs.rules.Situations.{Situation}
use Rattle.register_machine.specs.run.Answers.{answer}
use Rattle.register_machine.specs.run.Scripts.{empty_run, run_from, script_items}

abbrev pub request_has_list_forms : Request → Bool
request_has_list_forms (Request.Calendar form) = are_holidays form.holidays
request_has_list_forms (Request.Sheet form) = is_rising form.prices
request_has_list_forms _ = true

abbrev pub asked_has_list_forms : Asked → Bool
asked_has_list_forms (Ok request) = request_has_list_forms request
asked_has_list_forms (Err place) = true

-- whatever is read by its verb, and as a batch's line
abbrev pub ReadsListForms : List ℕ → List (List ℕ) → Type 0
ReadsListForms verb fields =
    (asked_has_list_forms (asked_by verb fields) ≡ true) × (asked_has_list_forms (batch_line fields) ≡ true)

abbrev pub event_has_list_forms : Event → Bool
event_has_list_forms event = has_list_forms event.kind

abbrev pub event_fits_row : Event → Bool
event_fits_row event = fits_row event.kind

-- what a request brings has the lists of the request
abbrev pub BringsListForms : Situation → Request → Type 0
BringsListForms situation request =
    request_has_list_forms request ≡ true → list_all event_has_list_forms (answer situation request).events ≡ true

-- a lawful journal whose events have their lists in their forms fits stored rows
abbrev pub LawfulFitsRows : Journal → Type 0
LawfulFitsRows journal =
    IsLawful journal → list_all event_has_list_forms journal ≡ true → list_all event_fits_row journal ≡ true

-- and so does the journal of a script's run
abbrev pub ScriptFitsRows : List ℕ → List ℕ → Type 0
ScriptFitsRows operator script =
    list_all event_fits_row (run_from operator empty_run (script_items script)).journal ≡ true

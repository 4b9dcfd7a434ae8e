-- The events of a script's run have their lists in their forms, so they fit stored rows.
use Rattle.std.proofs.Common.{Bool, Err, List, None, Ok, Option, Some, [], ap, cond, drop, false, fold, length, map, nat_lt, refl, sym, true, ℕ, ◌&&◌, ◌∙◌, ◌∷◌, ◌≡◌}
use Rattle.std.proofs.lemmas.Bool.{and_parts}
use Rattle.std.proofs.lemmas.List.Folds.{list_all-append}
use Rattle.std.specs.List.{list_all}
use Rattle.agent_events.specs.Events.{fits_row, order_request, request_of}
use Rattle.agent_events.specs.Fields.{moment}
use Rattle.agent_events.specs.Forms.{field, is_key_text}
use Rattle.agent_events.specs.Items.{asked_by, script_item, script_item_at}
use Rattle.agent_events.specs.declared.item.ScriptItem.{ScriptItem}
use Rattle.agent_events.specs.VerbForms.{Asked}
use Rattle.agent_events.specs.declared.event.EventKind.{EventKind}
use Rattle.agent_events.specs.declared.event.Source.{Source}
use Rattle.agent_events.specs.declared.reply.Refusal.{Refusal}
use Rattle.agent_events.specs.declared.request.Request.{Request}
use Rattle.csv.specs.Reading.{default_config, records, strip_bom}
use Rattle.register_laws.proofs.AnswersByCases.{asks, each-answer}
use Rattle.register_laws.proofs.FitsRows.{fits-brought}
use Rattle.register_laws.proofs.LawfulJournals.{lawful-keeps}
use Rattle.register_laws.proofs.ListForms.{asked-forms}
use Rattle.register_laws.proofs.RunsAreLawful.{run_is_lawful}
use Rattle.register_laws.specs.LawfulLimits.{has_list_forms}
use Rattle.register_laws.specs.RowForms.{BringsListForms, LawfulFitsRows, ScriptFitsRows, asked_has_list_forms, event_fits_row, event_has_list_forms, request_has_list_forms}
use Rattle.register_machine.specs.journal.Journals.{Journal, last_moment}
use Rattle.register_machine.specs.rules.Situations.{Situation}
use Rattle.register_machine.specs.run.Answers.{answer_asked, refuses}
use Rattle.register_machine.specs.run.Scripts.{Run, empty_run, item_answer, item_step, run_from, script_items, situation_in}
use Rattle.register_machine.specs.run.Verdicts.{due_now}

-- an event has the lists of its request
kind-forms : (kind : EventKind) → has_list_forms kind ≡ request_has_list_forms (request_of kind)
kind-forms (EventKind.Order placed) = by_source placed.source
  where
    by_source : (from : Source) → true ≡ request_has_list_forms (order_request from placed.receipt placed.order)
    by_source Source.Direct = refl
    by_source Source.Dealer = refl
kind-forms _ = refl

pub brings_list_forms : (situation : Situation) (request : Request) → BringsListForms situation request
brings_list_forms situation request forms =
    each-answer (λ said. list_all event_has_list_forms said.events ≡ true) situation request (λ reply. refl)
    (λ kind brings.
    ap (λ b. b && true)
    (kind-forms kind ∙ (ap request_has_list_forms (asks request situation.now (due_now situation request) kind brings) ∙ forms)))

-- ---- a lawful journal

pub fits_rows : (journal : Journal) → LawfulFitsRows journal
fits_rows journal lawful =
    lawful-keeps (λ known. list_all event_has_list_forms known ≡ true → list_all event_fits_row known ≡ true)
    (λ known event before brought fits forms.
    let both = and_parts (list_all event_has_list_forms known) (has_list_forms event.kind && true) (sym (list_all-append event_has_list_forms known (event ∷ [])) ∙ forms) in
    list_all-append event_fits_row known (event ∷ [])
    ∙ (ap (λ b. b && (fits_row event.kind && true)) (fits both.0)
    ∙ ap (λ b. b && true) (fits-brought known event before brought (and_parts (has_list_forms event.kind) true both.1).0)))
    (λ forms. refl) journal lawful

-- ---- a run

abbrev item_has_list_forms : ScriptItem → Bool
item_has_list_forms ScriptItem.Bad = true
item_has_list_forms (ScriptItem.Good now key asked) = asked_has_list_forms asked

item-forms : (fields : List (List ℕ)) → item_has_list_forms (script_item fields) ≡ true
item-forms fields = by_short (nat_lt (length fields) 3)
  where
    by_key : (now : ℕ) (good : Bool) → item_has_list_forms (cond good (ScriptItem.Good now (field fields 2) (asked_by (field fields 3) (drop 3 fields))) ScriptItem.Bad) ≡ true
    by_key now true = asked-forms (field fields 3) (drop 3 fields)
    by_key now false = refl

    by_moment : (found : Option ℕ) → item_has_list_forms (script_item_at found (field fields 2) (asked_by (field fields 3) (drop 3 fields))) ≡ true
    by_moment None = refl
    by_moment (Some now) = by_key now (is_key_text (field fields 2))

    by_short : (short : Bool) → item_has_list_forms (cond short ScriptItem.Bad (script_item_at (moment (field fields 1)) (field fields 2) (asked_by (field fields 3) (drop 3 fields)))) ≡ true
    by_short true = refl
    by_short false = by_moment (moment (field fields 1))

items-forms : (rows : List (List (List ℕ))) → list_all item_has_list_forms (map script_item rows) ≡ true
items-forms [] = refl
items-forms (row ∷ rows) = ap (λ b. b && list_all item_has_list_forms (map script_item rows)) (item-forms row) ∙ items-forms rows

answer-forms : (operator : List ℕ) (run : Run) (item : ScriptItem) → item_has_list_forms item ≡ true → list_all event_has_list_forms (item_answer operator run item).events ≡ true
answer-forms operator run ScriptItem.Bad forms = refl
answer-forms operator run (ScriptItem.Good now key asked) forms = by_moment (nat_lt now (last_moment run.journal))
  where
    by_asked : (asks : Asked) → asked_has_list_forms asks ≡ true → list_all event_has_list_forms (answer_asked (situation_in operator run now key) asks).events ≡ true
    by_asked (Ok request) held = brings_list_forms (situation_in operator run now key) request held
    by_asked (Err place) held = refl

    by_moment : (early : Bool) → list_all event_has_list_forms (cond early (refuses (Refusal.StampBack (last_moment run.journal))) (answer_asked (situation_in operator run now key) asked)).events ≡ true
    by_moment true = refl
    by_moment false = by_asked asked forms

run-forms : (operator : List ℕ) (run : Run) (items : List ScriptItem) → list_all item_has_list_forms items ≡ true → list_all event_has_list_forms run.journal ≡ true → list_all event_has_list_forms (fold (item_step operator) run items).journal ≡ true
unfolding item_step
run-forms operator run [] all held = held
run-forms operator run (item ∷ items) all held =
    let both = and_parts (item_has_list_forms item) (list_all item_has_list_forms items) all in
    run-forms operator (item_step operator run item) items both.1
    (list_all-append event_has_list_forms run.journal (item_answer operator run item).events
    ∙ (ap (λ b. b && list_all event_has_list_forms (item_answer operator run item).events) held
    ∙ answer-forms operator run item both.0))

pub script_fits_rows : (operator script : List ℕ) → ScriptFitsRows operator script
unfolding run_from
script_fits_rows operator script =
    fits_rows (run_from operator empty_run (script_items script)).journal (run_is_lawful operator (script_items script))
    (run-forms operator empty_run (script_items script) (items-forms (records default_config (strip_bom script))) refl)

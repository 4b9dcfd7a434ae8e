-- The events of a script's run are in their forms, so all limits hold of it.
use Rattle.std.proofs.Common.{All, Bool, Err, List, None, Ok, Option, Some, [], cond, drop, false, fold, length, map, nat_lt, subst, sym, true, ℕ, ◌∷◌}
use Rattle.std.proofs.lemmas.List.Elements.{All-append, All-cons, All-head, All-nil, All-tail}
use Rattle.agent_events.specs.Events.{order_request, request_of}
use Rattle.agent_events.specs.Fields.{moment}
use Rattle.agent_events.specs.Forms.{field, is_key_text}
use Rattle.agent_events.specs.Items.{asked_by, script_item, script_item_at}
use Rattle.agent_events.specs.VerbForms.{Asked}
use Rattle.agent_events.specs.declared.event.EventKind.{EventKind}
use Rattle.agent_events.specs.declared.event.Source.{Source}
use Rattle.agent_events.specs.declared.item.ScriptItem.{ScriptItem}
use Rattle.agent_events.specs.declared.order.Order.{Order}
use Rattle.agent_events.specs.declared.reply.Refusal.{Refusal}
use Rattle.agent_events.specs.declared.request.Request.{Request}
use Rattle.csv.specs.Reading.{default_config, records, strip_bom}
use Rattle.limit_laws.proofs.LawfulWithin.{in_form_stays_within}
use Rattle.limit_laws.proofs.PostsFit.{in_form_books_fit}
use Rattle.limit_laws.proofs.ReadInForm.{asked-forms}
use Rattle.limit_laws.specs.InForm.{AreInForm, IsInForm, SaysInForm}
use Rattle.limit_laws.specs.Runs.{AskedInForm, BringsInForm, RequestInForm, ScriptStaysWithin}
use Rattle.register_laws.proofs.AnswersByCases.{asks, each-answer}
use Rattle.register_laws.proofs.ReplayTurns.{All-one}
use Rattle.register_laws.proofs.RunsAreLawful.{run_is_lawful}
use Rattle.register_laws.specs.LawfulReplays.{SaysInRange}
use Rattle.register_laws.specs.ReplayKeeps.{AsksInRange}
use Rattle.register_machine.specs.journal.Journals.{last_moment}
use Rattle.register_machine.specs.rules.Situations.{Situation, event_at}
use Rattle.register_machine.specs.run.Answers.{answer_asked, refuses}
use Rattle.register_machine.specs.run.Scripts.{Run, empty_run, item_answer, item_step, run_from, script_items, situation_in}
use Rattle.register_machine.specs.run.Verdicts.{due_now}

-- ---- what a request brings

-- an event has the ranges of its request
kind-range : (kind : EventKind) → RequestInForm (request_of kind) → SaysInRange kind
kind-range (EventKind.Sheet form) is = is.low
kind-range (EventKind.FixPrice form) is = is
kind-range (EventKind.Order placed) is = by placed.source is
  where
    by : (source : Source) → RequestInForm (order_request source placed.receipt placed.order) → AsksInRange placed.order.body
    by Source.Direct asks = asks
    by Source.Dealer asks = asks
kind-range (EventKind.Enter form) is = is
kind-range (EventKind.Replace form) is = is
kind-range kind is = tt

kind-form : (kind : EventKind) → RequestInForm (request_of kind) → SaysInForm kind
kind-form (EventKind.Sheet form) is = is.rises
kind-form (EventKind.Dividend form) is = is
kind-form (EventKind.FixRate form) is = is
kind-form kind is = tt

pub brings_in_form : (situation : Situation) (request : Request) → BringsInForm situation request
brings_in_form situation request is =
    each-answer (λ said. All IsInForm said.events) situation request (λ reply. All-nil IsInForm)
    (λ kind brings.
    let own = subst RequestInForm (sym (asks request situation.now (due_now situation request) kind brings)) is in
    All-one IsInForm (event_at situation kind) (record { range = kind-range kind own; form = kind-form kind own }))

-- ---- a run

abbrev ItemInForm : ScriptItem → Type 0
ItemInForm ScriptItem.Bad = Unit {0}
ItemInForm (ScriptItem.Good now key asked) = AskedInForm asked

item-forms : (fields : List (List ℕ)) → ItemInForm (script_item fields)
item-forms fields = by_short (nat_lt (length fields) 3)
  where
    by_key : (now : ℕ) (good : Bool) → ItemInForm (cond good (ScriptItem.Good now (field fields 2) (asked_by (field fields 3) (drop 3 fields))) ScriptItem.Bad)
    by_key now true = asked-forms (field fields 3) (drop 3 fields)
    by_key now false = tt

    by_moment : (found : Option ℕ) → ItemInForm (script_item_at found (field fields 2) (asked_by (field fields 3) (drop 3 fields)))
    by_moment None = tt
    by_moment (Some now) = by_key now (is_key_text (field fields 2))

    by_short : (short : Bool) → ItemInForm (cond short ScriptItem.Bad (script_item_at (moment (field fields 1)) (field fields 2) (asked_by (field fields 3) (drop 3 fields))))
    by_short true = tt
    by_short false = by_moment (moment (field fields 1))

items-forms : (rows : List (List (List ℕ))) → All ItemInForm (map script_item rows)
items-forms [] = All-nil ItemInForm
items-forms (row ∷ rows) = All-cons ItemInForm (script_item row) (map script_item rows) (item-forms row) (items-forms rows)

answer-forms : (operator : List ℕ) (run : Run) (item : ScriptItem) → ItemInForm item → All IsInForm (item_answer operator run item).events
answer-forms operator run ScriptItem.Bad is = All-nil IsInForm
answer-forms operator run (ScriptItem.Good now key asked) is = by_moment (nat_lt now (last_moment run.journal))
  where
    by_asked : (asks : Asked) → AskedInForm asks → All IsInForm (answer_asked (situation_in operator run now key) asks).events
    by_asked (Ok request) held = brings_in_form (situation_in operator run now key) request held
    by_asked (Err place) held = All-nil IsInForm

    by_moment : (early : Bool) → All IsInForm (cond early (refuses (Refusal.StampBack (last_moment run.journal))) (answer_asked (situation_in operator run now key) asked)).events
    by_moment true = All-nil IsInForm
    by_moment false = by_asked asked is

run-forms : (operator : List ℕ) (run : Run) (items : List ScriptItem) → All ItemInForm items → AreInForm run.journal → AreInForm (fold (item_step operator) run items).journal
unfolding item_step
run-forms operator run [] all held = held
run-forms operator run (item ∷ items) all held =
    run-forms operator (item_step operator run item) items (All-tail ItemInForm item items all)
    (All-append IsInForm run.journal (item_answer operator run item).events held (answer-forms operator run item (All-head ItemInForm item items all)))

script-forms : (operator script : List ℕ) → AreInForm (run_from operator empty_run (script_items script)).journal
unfolding run_from
script-forms operator script =
    run-forms operator empty_run (script_items script) (items-forms (records default_config (strip_bom script))) (All-nil IsInForm)

pub script_stays_within : (operator script : List ℕ) → ScriptStaysWithin operator script
script_stays_within operator script =
    let lawful = run_is_lawful operator (script_items script) in
    let says = script-forms operator script in
    let journal = (run_from operator empty_run (script_items script)).journal in
    record { in_form = says; within = in_form_stays_within journal lawful says; booked = in_form_books_fit journal lawful says }

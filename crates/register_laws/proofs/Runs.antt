-- The price table that a run carries is that of its journal, and what each answer keeps, a run keeps.
use Rattle.std.proofs.Common.{Bool, Err, List, Ok, [], ap, append-nil, cond, false, fold, nat_lt, refl, subst, sym, true, ℕ, ◌++◌, ◌∙◌, ◌∷◌, ◌≡◌, ◌≤◌}
use Rattle.std.proofs.lemmas.Bool.{ltb-false}
use Rattle.std.proofs.lemmas.List.Sums.{fold-append}
use Rattle.agent_events.specs.Events.{Event}
use Rattle.agent_events.specs.declared.item.ScriptItem.{ScriptItem}
use Rattle.agent_events.specs.VerbForms.{Asked}
use Rattle.agent_events.specs.declared.reply.Refusal.{Refusal}
use Rattle.agent_events.specs.declared.request.Request.{Request}
use Rattle.forward_price.specs.PriceTables.{Table}
use Rattle.register_laws.specs.Answers.{AnswersByTheJournal, KeepsItsTable}
use Rattle.register_machine.specs.journal.Journals.{Journal, last_moment, with_event}
use Rattle.register_machine.specs.pricing.PublishedTable.{empty_table, table_after, table_behind, table_by, table_of}
use Rattle.register_machine.specs.rules.Callers.{caller_of}
use Rattle.register_machine.specs.rules.Situations.{situation_at}
use Rattle.register_machine.specs.run.Answers.{Answer, answer, answer_asked, refuses}
use Rattle.register_machine.specs.run.Scripts.{Run, empty_run, item_answer, item_step, run_from, situation_in}

-- the table behind one event more
pub table-one : (journal : Journal) (event : Event) → table_of (with_event journal event) ≡ table_by (table_of journal) event.moment event.kind
unfolding table_behind
table-one journal event = fold-append table_after empty_table journal (event ∷ [])

pub table-more : (table : Table) (journal events : Journal) → table ≡ table_of journal → table_behind table events ≡ table_of (journal ++ events)
unfolding table_behind
table-more table journal events e =
    ap (λ known. fold table_after known events) e ∙ sym (fold-append table_after empty_table journal events)

table-run : (operator : List ℕ) (run : Run) (items : List ScriptItem) → KeepsItsTable run → KeepsItsTable (fold (item_step operator) run items)
unfolding item_step
table-run operator run [] keeps = keeps
table-run operator run (first ∷ items) keeps =
    table-run operator (item_step operator run first) items (table-more run.table run.journal (item_answer operator run first).events keeps)

pub run_keeps_its_table : (operator : List ℕ) (items : List ScriptItem) → KeepsItsTable (run_from operator empty_run items)
unfolding run_from table_behind
run_keeps_its_table operator items = table-run operator empty_run items refl

-- what holds of every refusal, and of the answer to a request that doesn't come before the last event, holds of an item's
each-item : (C : Answer → Type 0) (operator : List ℕ) (run : Run) (item : ScriptItem) → ((refusal : Refusal) → C (refuses refusal)) → ((now : ℕ) (key : List ℕ) (request : Request) → last_moment run.journal ≤ now → C (answer (situation_in operator run now key) request)) → C (item_answer operator run item)
each-item C operator run ScriptItem.Bad refused answered = refused (Refusal.BadForm 0)
each-item C operator run (ScriptItem.Good now key asked) refused answered = by_moment (nat_lt now (last_moment run.journal)) refl
  where
    by_asked : (asked : Asked) → last_moment run.journal ≤ now → C (answer_asked (situation_in operator run now key) asked)
    by_asked (Ok request) late = answered now key request late
    by_asked (Err place) late = refused (Refusal.BadForm place)

    by_moment : (early : Bool) → nat_lt now (last_moment run.journal) ≡ early → C (cond early (refuses (Refusal.StampBack (last_moment run.journal))) (answer_asked (situation_in operator run now key) asked))
    by_moment true e = refused (Refusal.StampBack (last_moment run.journal))
    by_moment false e = by_asked asked (ltb-false now (last_moment run.journal) e)

-- so what each answer to a caller by its key keeps, in a situation with its journal's own table, a run keeps
run-with-table : (P : Journal → Type 0) (operator : List ℕ) → ((journal : Journal) (now : ℕ) (key : List ℕ) (request : Request) → last_moment journal ≤ now → P journal → P (journal ++ (answer (situation_at (table_of journal) journal now (caller_of journal operator key)) request).events)) → (run : Run) (items : List ScriptItem) → KeepsItsTable run → P run.journal → P (fold (item_step operator) run items).journal
unfolding item_step
run-with-table P operator keeps run [] own holds = holds
run-with-table P operator keeps run (first ∷ items) own holds =
    run-with-table P operator keeps (item_step operator run first) items
    (table-more run.table run.journal (item_answer operator run first).events own)
    (each-item (λ said. P (run.journal ++ said.events)) operator run first
    (λ refusal. subst P (sym (append-nil run.journal)) holds)
    (λ now key request late.
    subst (λ table. P (run.journal ++ (answer (situation_at table run.journal now (caller_of run.journal operator key)) request).events)) (sym own)
    (keeps run.journal now key request late holds)))

pub run-keeps-its : (P : Journal → Type 0) (operator : List ℕ) → ((journal : Journal) (now : ℕ) (key : List ℕ) (request : Request) → last_moment journal ≤ now → P journal → P (journal ++ (answer (situation_at (table_of journal) journal now (caller_of journal operator key)) request).events)) → (items : List ScriptItem) → P [] → P (run_from operator empty_run items).journal
unfolding run_from table_behind
run-keeps-its P operator keeps items holds = run-with-table P operator keeps empty_run items refl holds

pub answers_by_the_journal : (operator : List ℕ) (run : Run) (now : ℕ) (key : List ℕ) (request : Request) → AnswersByTheJournal operator run now key request
answers_by_the_journal operator run now key request own =
    ap (λ table. answer (situation_at table run.journal now (caller_of run.journal operator key)) request) own

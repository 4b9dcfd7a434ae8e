-- Runs from a journal on, item by item.
use Rattle.std.proofs.Common.{Err, List, None, Ok, OnErr, OnOk, Option, Result, Some, [], ap, append-nil, append_assoc, arith, cond, false, fold, length, length-append, nat_lt, refl, slice_get, drop, subst, sym, take, true, true≢false, ℕ, ◌+◌, ◌++◌, ◌∙◌, ◌∷◌, ◌<◌, ◌≡◌, ◌≤◌}
use Rattle.std.proofs.lemmas.List.Sums.{fold-append}
use Rattle.std.specs.Result.{IsErrAnd, is_err}
use Rattle.std.specs.Io.KnownBytes.{Appends}
use Rattle.std.proofs.KnownBytes.{Appends-trans}
use Rattle.script_answers.specs.Runs.{AreAnswered, CutsShort, IsCutShort, OfFront, answer_behind, line_behind, run_at, run_over}
use Rattle.agent_events.specs.declared.item.ScriptItem.{ScriptItem}
use Rattle.agent_keeper.specs.Content.{Content}
use Rattle.agent_events.specs.declared.reply.Refusal.{Refusal}
use Rattle.agent_events.specs.VerbForms.{Asked}
use Rattle.agent_events.specs.declared.request.Request.{Request}
use Rattle.agent_events.specs.declared.verdict.Caller.{Caller}
use Rattle.register_desk.specs.Rows.{TellsRowsOf}
use Rattle.register_laws.proofs.Runs.{table-more}
use Rattle.register_laws.specs.Lawful.{own_at}
use Rattle.register_machine.specs.journal.Journals.{Journal, last_moment}
use Rattle.register_machine.specs.pricing.PublishedTable.{table_of}
use Rattle.register_machine.specs.rules.Callers.{caller_of}
use Rattle.register_machine.specs.rules.Situations.{situation_at}
use Rattle.register_machine.specs.run.Answers.{answer, answer_asked, refuses}
use Rattle.register_machine.specs.run.Scripts.{Run, item_answer, item_step, reply_line, run_from, situation_in}

table-kept : (operator : List ℕ) (run : Run) (items : List ScriptItem) → run.table ≡ table_of run.journal → (fold (item_step operator) run items).table ≡ table_of (fold (item_step operator) run items).journal
unfolding item_step
table-kept operator run [] own = own
table-kept operator run (first ∷ items) own =
    table-kept operator (item_step operator run first) items
    (table-more run.table run.journal (item_answer operator run first).events own)

-- the table that a run carries is that of its journal
own-table : (operator : List ℕ) (opened : Journal) (items : List ScriptItem) → (run_over operator opened items).table ≡ table_of (run_over operator opened items).journal
unfolding run_from
own-table operator opened items = table-kept operator (run_at opened) items refl

-- so its answers are those behind its journal
own-answer : (operator : List ℕ) (run : Run) (item : ScriptItem) → run.table ≡ table_of run.journal → item_answer operator run item ≡ answer_behind operator run.journal item
own-answer operator run ScriptItem.Bad own = refl
own-answer operator run (ScriptItem.Good now key asked) own =
    ap (λ table. cond (nat_lt now (last_moment run.journal)) (refuses (Refusal.StampBack (last_moment run.journal)))
    (answer_asked (situation_at table run.journal now (caller_of run.journal operator key)) asked)) own

-- the run over one item more
run-more : (operator : List ℕ) (opened : Journal) (items : List ScriptItem) (item : ScriptItem) → run_over operator opened (items ++ item ∷ []) ≡ item_step operator (run_over operator opened items) item
unfolding run_from
run-more operator opened items item = fold-append (item_step operator) (run_at opened) items (item ∷ [])

pub journal-more : (operator : List ℕ) (opened : Journal) (items : List ScriptItem) (item : ScriptItem) → (run_over operator opened (items ++ item ∷ [])).journal ≡ (run_over operator opened items).journal ++ (answer_behind operator (run_over operator opened items).journal item).events
unfolding item_step
journal-more operator opened items item =
    ap (λ run. run.journal) (run-more operator opened items item)
    ∙ ap (λ said. (run_over operator opened items).journal ++ said.events)
    (own-answer operator (run_over operator opened items) item (own-table operator opened items))

pub lines-more : (operator : List ℕ) (opened : Journal) (items : List ScriptItem) (item : ScriptItem) → (run_over operator opened (items ++ item ∷ [])).lines ≡ (run_over operator opened items).lines ++ line_behind operator opened items item
unfolding item_step
lines-more operator opened items item =
    ap (λ run. run.lines) (run-more operator opened items item)
    ∙ ap (λ said. (run_over operator opened items).lines ++ reply_line said.reply)
    (own-answer operator (run_over operator opened items) item (own-table operator opened items))

-- before the first item
pub journal-none : (operator : List ℕ) (opened : Journal) → (run_over operator opened []).journal ≡ opened
unfolding run_from
journal-none operator opened = refl

pub lines-none : (operator : List ℕ) (opened : Journal) → (run_over operator opened []).lines ≡ []
unfolding run_from
lines-none operator opened = refl

-- nothing written is nothing appended
pub appends-nothing : (told : Option (List ℕ)) (bytes : List ℕ) → bytes ≡ [] → Appends told told bytes
appends-nothing None bytes e = tt
appends-nothing (Some xs) bytes e = sym (ap (λ bs. xs ++ bs) e ∙ append-nil xs)

lines-nothing : (told : Option (List ℕ)) → Appends told told []
lines-nothing told = appends-nothing told [] refl

-- no item answered yet
pub answered-none : (operator : List ℕ) (opened : Journal) (told : Content → Type 0) (out : Option (List ℕ)) → TellsRowsOf told opened → AreAnswered operator opened [] told out out
answered-none operator opened told out kept = record {
  lines = appends-nothing out (run_over operator opened []).lines (lines-none operator opened);
  kept = subst (TellsRowsOf told) (sym (journal-none operator opened)) kept;
}

pub none-answered : (operator : List ℕ) (opened : Journal) (items : List ScriptItem) (told : Content → Type 0) (out : Option (List ℕ)) → TellsRowsOf told opened → OfFront (λ front. AreAnswered operator opened front told out out) items
none-answered operator opened items told out kept = (0, omega arith, answered-none operator opened told out kept)

-- the line of an item behind the journal that the items before it leave
line-there : (operator : List ℕ) (opened : Journal) (items : List ScriptItem) (item : ScriptItem) (journal : Journal) → journal ≡ (run_over operator opened items).journal → reply_line (answer_behind operator journal item).reply ≡ line_behind operator opened items item
line-there operator opened items item journal same = ap (λ known. reply_line (answer_behind operator known item).reply) same

journal-there : (operator : List ℕ) (opened : Journal) (items : List ScriptItem) (item : ScriptItem) (journal after : Journal) → journal ≡ (run_over operator opened items).journal → after ≡ journal ++ (answer_behind operator journal item).events → after ≡ (run_over operator opened (items ++ item ∷ [])).journal
journal-there operator opened items item journal after same e =
    e ∙ (ap (λ known. known ++ (answer_behind operator known item).events) same ∙ sym (journal-more operator opened items item))

-- a request in its form that isn't before the last event gets the machine's answer
pub answered-in-turn : (operator : List ℕ) (journal : Journal) (now : ℕ) (key : List ℕ) (asked : Asked) (request : Request) (caller : Caller) → nat_lt now (last_moment journal) ≡ false → asked ≡ Ok request → caller ≡ caller_of journal operator key → answer (own_at journal now caller) request ≡ answer_behind operator journal (ScriptItem.Good now key asked)
answered-in-turn operator journal now key asked request caller late is who =
    ap (λ known. answer (own_at journal now known) request) who
    ∙ (ap (λ form. answer_asked (situation_in operator (run_at journal) now key) form) (sym is)
    ∙ ap (λ early. cond early (refuses (Refusal.StampBack (last_moment journal)))
    (answer_asked (situation_in operator (run_at journal) now key) asked)) (sym late))

-- what is known of an answer by its test
pub on-err-of : {T E : Type 0} (r : Result T E) {P : Type 0} → is_err r ≡ true → OnErr r P → P
on-err-of (Ok x) failed holds = absurd (true≢false (sym failed))
on-err-of (Err e) failed holds = holds

pub on-ok-of : {T E : Type 0} (r : Result T E) {P : Type 0} → is_err r ≡ false → OnOk r P → P
on-ok-of (Ok x) done holds = holds
on-ok-of (Err e) done holds = absurd (true≢false done)

pub ok-not-err : {T E : Type 0} (r : Result T E) (e : E) → is_err r ≡ false → r ≡ Err e → ⊥
ok-not-err r e done is = true≢false (sym (ap is_err is) ∙ done)

pub grows-on : (opened journal after events : Journal) → (more : Journal) × (journal ≡ opened ++ more) → after ≡ journal ++ events → (more : Journal) × (after ≡ opened ++ more)
grows-on opened journal after events (more, e) is = (more ++ events, is ∙ (ap (λ known. known ++ events) e ∙ append_assoc opened more events))

-- ---- the items answered so far

pub record SoFar (operator : List ℕ) (opened : Journal) (items left : List ScriptItem) (journal : Journal) (old new : Option (List ℕ)) : Type 0 where
  pub done : List ScriptItem
  pub all : items ≡ done ++ left
  pub journal_is : journal ≡ (run_over operator opened done).journal
  pub lines : Appends old new (run_over operator opened done).lines

front-of : (done left : List ScriptItem) → take (length done) (done ++ left) ≡ done
front-of [] left = refl
front-of (first ∷ done) left = ap (λ items. first ∷ items) (front-of done left)

behind-front : (done : List ScriptItem) (item : ScriptItem) (rest : List ScriptItem) → slice_get (done ++ item ∷ rest) (length done) ≡ Some item
behind-front [] item rest = refl
behind-front (first ∷ done) item rest = behind-front done item rest

head-is : (left : List ScriptItem) (item : ScriptItem) → slice_get left 0 ≡ Some item → left ≡ item ∷ drop 1 left
head-is [] item is = cc
head-is (first ∷ rest) item is = let same : first ≡ item = cc in ap (λ next. next ∷ rest) same

none-left : (left : List ScriptItem) → slice_get left 0 ≡ None → left ≡ []
none-left [] is = refl
none-left (first ∷ rest) is = cc

pub fewer-left : (left : List ScriptItem) (item : ScriptItem) → slice_get left 0 ≡ Some item → length (drop 1 left) < length left
fewer-left [] item is = cc
fewer-left (first ∷ rest) item is = omega arith

pub so-far-none : (operator : List ℕ) (opened : Journal) (items : List ScriptItem) (out : Option (List ℕ)) → SoFar operator opened items items opened out out
so-far-none operator opened items out = record {
  done = [];
  all = refl;
  journal_is = sym (journal-none operator opened);
  lines = appends-nothing out _ (lines-none operator opened);
}

-- one item more
pub so-far-next : (operator : List ℕ) (opened : Journal) (items left : List ScriptItem) (item : ScriptItem) (journal after : Journal) (line : List ℕ) (old mid new : Option (List ℕ))
    → SoFar operator opened items left journal old mid → slice_get left 0 ≡ Some item → after ≡ journal ++ (answer_behind operator journal item).events
    → line ≡ reply_line (answer_behind operator journal item).reply → Appends mid new line → SoFar operator opened items (drop 1 left) after old new
so-far-next operator opened items left item journal after line old mid new so_far is e says wrote = record {
  done = so_far.done ++ item ∷ [];
  all = so_far.all ∙ (ap (λ rest. so_far.done ++ rest) (head-is left item is) ∙ sym (append_assoc so_far.done (item ∷ []) (drop 1 left)));
  journal_is = journal-there operator opened so_far.done item journal after so_far.journal_is e;
  lines = subst (Appends old new)
      (sym (lines-more operator opened so_far.done item
      ∙ ap (λ said. (run_over operator opened so_far.done).lines ++ said)
      (sym (says ∙ line-there operator opened so_far.done item journal so_far.journal_is))))
      (Appends-trans old mid new (run_over operator opened so_far.done).lines line so_far.lines wrote);
}

-- the items so far were answered
pub so-far-answered : (operator : List ℕ) (opened : Journal) (items left : List ScriptItem) (journal : Journal) (told : Content → Type 0) (old new : Option (List ℕ))
    → SoFar operator opened items left journal old new → TellsRowsOf told journal → OfFront (λ front. AreAnswered operator opened front told old new) items
so-far-answered operator opened items left journal told old new so_far kept =
    let front = ap (take (length so_far.done)) so_far.all ∙ front-of so_far.done left in
    let size : length items ≡ length so_far.done + length left = ap length so_far.all ∙ length-append so_far.done left in (
      length so_far.done,
      omega (arith, size),
      subst (λ items. AreAnswered operator opened items told old new) (sym front)
          (record { lines = so_far.lines; kept = subst (TellsRowsOf told) so_far.journal_is kept }),
    )

-- none is left
pub all-answered : (operator : List ℕ) (opened : Journal) (items left : List ScriptItem) (journal : Journal) (told : Content → Type 0) (old new : Option (List ℕ))
    → SoFar operator opened items left journal old new → slice_get left 0 ≡ None → TellsRowsOf told journal → AreAnswered operator opened items told old new
all-answered operator opened items left journal told old new so_far none kept =
    let all : items ≡ so_far.done = so_far.all ∙ (ap (λ rest. so_far.done ++ rest) (none-left left none) ∙ append-nil so_far.done) in
    subst (λ items. AreAnswered operator opened items told old new) (sym all)
    (record { lines = so_far.lines; kept = subst (TellsRowsOf told) so_far.journal_is kept })

-- the line of the next one was cut short
pub next-cut : (operator : List ℕ) (opened : Journal) (items left : List ScriptItem) (item : ScriptItem) (journal after : Journal) (line : List ℕ) (told : Content → Type 0) (old mid new : Option (List ℕ))
    → SoFar operator opened items left journal old mid → slice_get left 0 ≡ Some item → after ≡ journal ++ (answer_behind operator journal item).events
    → line ≡ reply_line (answer_behind operator journal item).reply → TellsRowsOf told after
    → (count : ℕ) × (count < length line) × Appends mid new (take count line) → IsCutShort operator opened items told old new
next-cut operator opened items left item journal after line told old mid new so_far is e says kept (count, less, wrote) =
    let all : items ≡ so_far.done ++ item ∷ drop 1 left = so_far.all ∙ ap (λ rest. so_far.done ++ rest) (head-is left item is) in
    let front : take (length so_far.done) items ≡ so_far.done = ap (take (length so_far.done)) all ∙ front-of so_far.done (item ∷ drop 1 left) in
    let there = says ∙ line-there operator opened so_far.done item journal so_far.journal_is in (
      length so_far.done,
      item,
      ap (λ known. slice_get known (length so_far.done)) all ∙ behind-front so_far.done item (drop 1 left),
      subst (λ front. CutsShort operator opened front item told old new) (sym front)
          (record {
            front = subst (λ text. (count : ℕ) × (count ≤ length text) × Appends old new ((run_over operator opened so_far.done).lines ++ take count text)) there
                (count, omega (arith, less), Appends-trans old mid new (run_over operator opened so_far.done).lines (take count line) so_far.lines wrote);
            kept = subst (TellsRowsOf told) (journal-there operator opened so_far.done item journal after so_far.journal_is e) kept;
          }),
    )

-- an answer that is this fault
pub err-is : {T E : Type 0} (r : Result T E) (e : E) → IsErrAnd r (λ given. given ≡ e) → r ≡ Err e
err-is (Err given) e same = ap (λ known. Err known) same
err-is (Ok x) e same = absurd same

-- What a whole run leaves, by the status with which it ends.
use Rattle.std.proofs.Common.{Err, IfSome, List, None, Ok, OnErr, OnOk, Option, Result, Some, [], ap, append-nil, arith, inl, inr, length, refl, subst, sym, take, true, ℕ, ◌++◌, ◌==◌, ◌∙◌, ◌∷◌, ◌<◌, ◌≡◌}
use Rattle.std.specs.Io.KnownBytes.{Appends}
use Rattle.std.proofs.KnownBytes.{Appends-trans}
use Rattle.agent_run.specs.Runs.{AreEndedSaying, EndsWithLine, GrowLawfully, IsOpened, IsStopped, SaysBehind, SaysLine, SinkAt, TellSame, status_line, status_of}
use Rattle.script_answers.specs.Runs.{AreAnswered, CountsEnds, EndsAs, IsCutShort, OfFront, run_over}
use Rattle.script_answers.proofs.RunFacts.{none-answered}
use Rattle.script_answers.specs.declared.answering.AnswerFault.{AnswerFault}
use Rattle.script_answers.specs.declared.answering.AnswerFault.TheVariants.{Keeper, NoMemory, Write}
use Rattle.agent_events.specs.declared.item.ScriptItem.{ScriptItem}
use Rattle.agent_run.specs.declared.applying.TheConstants.{MAX_SCRIPT}
use Rattle.agent_edge.specs.Counts.{Rose}
use Rattle.agent_edge.specs.declared.sinks.SinkFault.{SinkFault}
use Rattle.std.specs.List.{list_any}
use Rattle.agent_keeper.specs.Calls.{Rose as KeeperRose}
use Rattle.agent_keeper.specs.Content.{Content}
use Rattle.register_desk.specs.Rows.{TellsRowsOf, rows_of}
use Rattle.register_machine.specs.journal.Journals.{Journal}
use Rattle.register_machine.specs.journal.Lawful.{IsLawful}
use Rattle.register_machine.specs.run.Scripts.{script_items}

-- a line that was written by itself
pub line-said : (line : List ℕ) (old new : SinkAt) (result : Result Unit SinkFault) → OnOk result (Appends old.written new.written line)
    → OnErr result ((count : ℕ) × (count < length line) × Appends old.written new.written (take count line))
    → OnErr result (Rose old.faults new.faults) → OnOk result (new.faults ≡ old.faults) → SaysLine line old new
line-said line old new (Ok done) all front fault no_fault = inl (all, no_fault)
line-said line old new (Err failed) all (count, within, written) fault no_fault = inr (fault, count, within, written)

-- a line behind others, which were written without a fault
pub said-behind : (lines line : List ℕ) (old mid new : SinkAt) → Appends old.written mid.written lines → mid.faults ≡ old.faults
    → SaysLine line mid new → SaysBehind lines line old new
said-behind lines line old mid new before same (inl (after, no_fault)) =
    inl (Appends-trans old.written mid.written new.written lines line before after, no_fault ∙ same)
said-behind lines line old mid new before same (inr (rose, count, within, after)) = inr (
  subst (λ n. Rose n new.faults) same rose,
  count,
  within,
  Appends-trans old.written mid.written new.written lines (take count line) before after,
)

pub ended-by : (line operator : List ℕ) (opened : Journal) (items : List ScriptItem) (told : Content → Type 0) (old mid new : SinkAt) → AreAnswered operator opened items told old.written mid.written → mid.faults ≡ old.faults → SaysLine line mid new → AreEndedSaying line operator opened items told old new
ended-by line operator opened items told old mid new answered same said = record {
  lines = said-behind (run_over operator opened items).lines line old mid new answered.lines same said;
  kept = answered.kept;
}

pub front-ended : (line operator : List ℕ) (opened : Journal) (items : List ScriptItem) (told : Content → Type 0) (old mid new : SinkAt) → OfFront (λ front. AreAnswered operator opened front told old.written mid.written) items → mid.faults ≡ old.faults → SaysLine line mid new → OfFront (λ front. AreEndedSaying line operator opened front told old new) items
front-ended line operator opened items told old mid new (count, within, answered) same said =
    (count, within, ended-by line operator opened (take count items) told old mid new answered same said)

-- what a status says of answers that ended early
pub ended-cut : (operator : List ℕ) (opened : Journal) (items : List ScriptItem) (told : Content → Type 0) (old mid new : SinkAt) (ends : Result Unit AnswerFault) (fault : AnswerFault) (status : ℕ) → EndsAs operator opened items told old.written mid.written ends → ends ≡ Err fault → status ≡ status_of fault → EndsWithLine fault mid new → status ≡ 4 → IsCutShort operator opened items told old.written new.written
ended-cut operator opened items told old mid new ends Write status held is known line e =
    subst (λ (sink : SinkAt). IsCutShort operator opened items told old.written sink.written) (sym line)
    (subst (EndsAs operator opened items told old.written mid.written) is held)
ended-cut operator opened items told old mid new ends Keeper status held is known line e = absurd (wrong e known)
  where
    wrong : status ≡ 4 → status ≡ 5 → ⊥
    wrong a b = omega (arith, a, b)
ended-cut operator opened items told old mid new ends NoMemory status held is known line e = absurd (wrong e known)
  where
    wrong : status ≡ 4 → status ≡ 7 → ⊥
    wrong a b = omega (arith, a, b)

pub ended-failed : (operator : List ℕ) (opened : Journal) (items : List ScriptItem) (told : Content → Type 0) (kb ka : ℕ) (old mid new : SinkAt) (ends : Result Unit AnswerFault) (fault : AnswerFault) (status : ℕ) → EndsAs operator opened items told old.written mid.written ends → CountsEnds kb ka old.faults mid.faults ends → ends ≡ Err fault → status ≡ status_of fault → EndsWithLine fault mid new → status ≡ 5 → OfFront (λ front. AreEndedSaying (status_line 5) operator opened front told old new) items
ended-failed operator opened items told kb ka old mid new ends Keeper status held counts is known line e =
    front-ended (status_line 5) operator opened items told old mid new (subst (EndsAs operator opened items told old.written mid.written) is held)
    (subst (CountsEnds kb ka old.faults mid.faults) is counts).1 line
ended-failed operator opened items told kb ka old mid new ends Write status held counts is known line e = absurd (wrong e known)
  where
    wrong : status ≡ 5 → status ≡ 4 → ⊥
    wrong a b = omega (arith, a, b)
ended-failed operator opened items told kb ka old mid new ends NoMemory status held counts is known line e = absurd (wrong e known)
  where
    wrong : status ≡ 5 → status ≡ 7 → ⊥
    wrong a b = omega (arith, a, b)

pub ended-short : (operator : List ℕ) (opened : Journal) (items : List ScriptItem) (told : Content → Type 0) (kb ka : ℕ) (old mid new : SinkAt) (ends : Result Unit AnswerFault) (fault : AnswerFault) (status : ℕ) → EndsAs operator opened items told old.written mid.written ends → CountsEnds kb ka old.faults mid.faults ends → ends ≡ Err fault → status ≡ status_of fault → EndsWithLine fault mid new → status ≡ 7 → OfFront (λ front. AreEndedSaying (status_line 7) operator opened front told old new) items
ended-short operator opened items told kb ka old mid new ends NoMemory status held counts is known line e =
    front-ended (status_line 7) operator opened items told old mid new (subst (EndsAs operator opened items told old.written mid.written) is held)
    (subst (CountsEnds kb ka old.faults mid.faults) is counts) line
ended-short operator opened items told kb ka old mid new ends Write status held counts is known line e = absurd (wrong e known)
  where
    wrong : status ≡ 7 → status ≡ 4 → ⊥
    wrong a b = omega (arith, a, b)
ended-short operator opened items told kb ka old mid new ends Keeper status held counts is known line e = absurd (wrong e known)
  where
    wrong : status ≡ 7 → status ≡ 5 → ⊥
    wrong a b = omega (arith, a, b)

-- and of the counts
pub counts-write : (kb ka before after new : ℕ) (ends : Result Unit AnswerFault) (fault : AnswerFault) (status : ℕ) → CountsEnds kb ka before after ends → ends ≡ Err fault → status ≡ status_of fault → (fault ≡ Write → new ≡ after) → status ≡ 4 → Rose before new
counts-write kb ka before after new ends Write status held is known silent e =
    subst (Rose before) (sym (silent refl)) (subst (CountsEnds kb ka before after) is held)
counts-write kb ka before after new ends Keeper status held is known silent e = absurd (wrong e known)
  where
    wrong : status ≡ 4 → status ≡ 5 → ⊥
    wrong a b = omega (arith, a, b)
counts-write kb ka before after new ends NoMemory status held is known silent e = absurd (wrong e known)
  where
    wrong : status ≡ 4 → status ≡ 7 → ⊥
    wrong a b = omega (arith, a, b)

pub counts-keeper : (kb ka before after : ℕ) (ends : Result Unit AnswerFault) (fault : AnswerFault) (status : ℕ) → CountsEnds kb ka before after ends → ends ≡ Err fault → status ≡ status_of fault → status ≡ 5 → KeeperRose kb ka
counts-keeper kb ka before after ends Keeper status held is known e = (subst (CountsEnds kb ka before after) is held).0
counts-keeper kb ka before after ends Write status held is known e = absurd (wrong e known)
  where
    wrong : status ≡ 5 → status ≡ 4 → ⊥
    wrong a b = omega (arith, a, b)
counts-keeper kb ka before after ends NoMemory status held is known e = absurd (wrong e known)
  where
    wrong : status ≡ 5 → status ≡ 7 → ⊥
    wrong a b = omega (arith, a, b)

-- no such status is 0
pub never-done : (fault : AnswerFault) (status : ℕ) → status ≡ status_of fault → status ≡ 0 → ⊥
never-done Write status known e = wrong e known
  where
    wrong : status ≡ 0 → status ≡ 4 → ⊥
    wrong a b = omega (arith, a, b)
never-done Keeper status known e = wrong e known
  where
    wrong : status ≡ 0 → status ≡ 5 → ⊥
    wrong a b = omega (arith, a, b)
never-done NoMemory status known e = wrong e known
  where
    wrong : status ≡ 0 → status ≡ 7 → ⊥
    wrong a b = omega (arith, a, b)

-- ended before the first item
pub ended-at-once : (line operator : List ℕ) (opened : Journal) (items : List ScriptItem) (told : Content → Type 0) (old new : SinkAt) → TellsRowsOf told opened → SaysLine line old new → OfFront (λ front. AreEndedSaying line operator opened front told old new) items
ended-at-once line operator opened items told old new kept said =
    front-ended line operator opened items told old old new (none-answered operator opened items told old.written kept) refl said

-- what was told before the run is told when the store is open, so it is of the journal that was opened
pub is-opened : (before mid now : Content → Type 0) (opened : Journal) → ((last : Content) → now last → (first : Content) → before first → mid first) → TellsRowsOf mid opened → IsLawful opened → IsOpened before now opened
is-opened before mid now opened speaks told lawful = record {
  lawful = lawful;
  rows = λ first last was is. told first (speaks last is first was);
}

-- what a run leaves told
abbrev pub Grown : (Content → Type 0) → Journal → Type 0
Grown now opened = (kept : Content) → now kept → (more : Journal) × IsLawful (opened ++ more) × (kept.rows ≡ rows_of (opened ++ more))

pub grow-lawfully : (before now : Content → Type 0) (opened : Journal) → IsOpened before now opened → Grown now opened → (first last : Content) → before first → now last → GrowLawfully first.rows last.rows
grow-lawfully before now opened is-of grown first last was is =
    let more = grown last is in
    inr (opened, more.0, more.1, is-of.rows first last was is, more.2)

pub same-grow : (before now : Content → Type 0) → TellSame before now → (first last : Content) → before first → now last → GrowLawfully first.rows last.rows
same-grow before now same first last was is = inl (ap (λ content. content.rows) (same first last was is))

pub grown-nothing : (now : Content → Type 0) (opened : Journal) → IsLawful opened → TellsRowsOf now opened → Grown now opened
grown-nothing now opened lawful told kept is =
    ([], subst IsLawful (sym (append-nil opened)) lawful, told kept is ∙ ap rows_of (sym (append-nil opened)))

pub grown-lawful : (now : Content → Type 0) (opened : Journal) → Grown now opened → (kept : Content) → now kept → (journal : Journal) × IsLawful journal × (kept.rows ≡ rows_of journal)
grown-lawful now opened grown kept is = let more = grown kept is in (opened ++ more.0, more.1, more.2)

-- a journal that grew so is told
pub grown-by : (now : Content → Type 0) (opened last : Journal) → (more : Journal) × (last ≡ opened ++ more) → IsLawful last → TellsRowsOf now last → Grown now opened
grown-by now opened last (more, e) lawful told kept is = (more, subst IsLawful e lawful, told kept is ∙ ap rows_of e)

-- a keeper that speaks when it is attached and when the store is opened speaks on
pub opened-speaks : {T E : Type 0} (result : Result T E) (before mid now : Content → Type 0) (honest_mid honest_now : Type 0) → (honest_mid → (kept : Content) → before kept → mid kept) → (honest_now → honest_mid) → OnOk result (honest_now → (kept : Content) → mid kept → now kept) → OnOk result (honest_now → (kept : Content) → before kept → now kept)
opened-speaks (Ok x) before mid now honest_mid honest_now attached was opened = λ honest kept is. opened honest kept (attached (was honest) kept is)
opened-speaks (Err e) before mid now honest_mid honest_now attached was opened = tt

-- what is true of the bytes that were read is true of the script, where it is told
pub over-script : (P : List ℕ → Type 0) (left : Option (List ℕ)) (bytes : List ℕ) → IfSome left (λ text. bytes ≡ text) → P bytes → IfSome left P
over-script P None bytes e holds = tt
over-script P (Some text) bytes e holds = subst P e holds

pub over-whole : (Q : Type 0) (P : List ℕ → Type 0) (left : Option (List ℕ)) (bytes : List ℕ) → IfSome left (λ text. bytes ≡ text) → IfSome left (λ _. Q) → P bytes → IfSome left (λ script. Q × P script)
over-whole Q P None bytes e q holds = tt
over-whole Q P (Some text) bytes e q holds = (q, subst P e holds)

-- what is true of any script is true of this one, where it is told
pub over-any : (P : List ℕ → Type 0) (left : Option (List ℕ)) → ((script : List ℕ) → P script) → IfSome left P
over-any P None holds = tt
over-any P (Some text) holds = holds text

-- a status that is known ends a script that is too long
pub ends-too-long : (status known : ℕ) (left : Option (List ℕ)) → status ≡ known → list_any (λ n. known == n) (2 ∷ 3 ∷ 7 ∷ []) ≡ true → IfSome left (λ script. MAX_SCRIPT < length script → list_any (λ n. status == n) (2 ∷ 3 ∷ 7 ∷ []) ≡ true)
ends-too-long status known left e is =
    over-any (λ script. MAX_SCRIPT < length script → list_any (λ n. status == n) (2 ∷ 3 ∷ 7 ∷ []) ≡ true) left
    (λ script long. ap (λ s. list_any (λ n. s == n) (2 ∷ 3 ∷ 7 ∷ [])) e ∙ is)

-- a run that ended behind some items, from the journal that was opened
pub stopped : (line operator : List ℕ) (before mid now : Content → Type 0) (left : Option (List ℕ)) (old new : SinkAt) (opened : Journal) → ((last : Content) → now last → (first : Content) → before first → mid first) → TellsRowsOf mid opened → IsLawful opened → IfSome left (λ script. OfFront (λ front. AreEndedSaying line operator opened front now old new) (script_items script)) → IsStopped line operator before now left old new
stopped line operator before mid now None old new opened speaks told lawful held = tt
stopped line operator before mid now (Some script) old new opened speaks told lawful held =
    (opened, is-opened before mid now opened speaks told lawful, held)

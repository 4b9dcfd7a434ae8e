-- A run behind a lawful journal leaves it lawful.
use Rattle.std.proofs.Common.{Err, List, Ok, Result, ap, append-nil, arith, max, refl, subst, sym, ℕ, ◌++◌, ◌≡◌, ◌≤◌}
use Rattle.std.specs.Prelude.{Bool}
use Rattle.agent_events.specs.Events.{Event}
use Rattle.agent_events.specs.VerbForms.{Asked}
use Rattle.agent_events.specs.declared.reply.Refusal.{Refusal}
use Rattle.connection_service.specs.Answers.{AnswersBy, At, Gets, Kept, Said, said_to_lines}
use Rattle.connection_service.specs.Runs.{Run}
use Rattle.agent_http.specs.Calls.{item_answer, item_key}
use Rattle.agent_http.specs.declared.calls.CallAsk.{CallAsk}
use Rattle.http_stream.specs.Stream.{Stream}
use Rattle.register_laws.proofs.RunsAreLawful.{answer_is_lawful, keyed-among}
use Rattle.register_laws.specs.Lawful.{own_at}
use Rattle.register_laws.specs.LawfulBatches.{BatchLeavesLawful, batch_events}
use Rattle.register_machine.specs.journal.Journals.{Journal, last_moment}
use Rattle.register_machine.specs.journal.Lawful.{IsLawful}
use Rattle.register_machine.specs.rules.Callers.{caller_of}
use Rattle.register_machine.specs.run.Batches.{BatchAnswer, batch_answer}

abbrev BatchesLeaveLawful : Type 0
BatchesLeaveLawful = (operator : List ℕ) (journal : Journal) (now : ℕ) (key : List ℕ) (lines : Result (List Asked) ℕ) → BatchLeavesLawful operator journal now key lines

later : (reading last : ℕ) → last ≤ max reading last
later reading last = omega arith

gets-lawful : (last : Bool) (said : Said) (old : Kept) (bytes : List ℕ) (new : Kept) → Gets last said old bytes new → IsLawful old.journal → IsLawful (old.journal ++ said.events)
    → IsLawful new.journal
gets-lawful last said old bytes new (Gets.Answered is next) lawful more = subst IsLawful (sym (ap (λ (kept : Kept). kept.journal) next)) more
gets-lawful last said old bytes new (Gets.NoMemory is next) lawful more = subst IsLawful (sym (ap (λ (kept : Kept). kept.journal) next)) lawful
gets-lawful last said old bytes new (Gets.NotKept is some rose next) lawful more = subst IsLawful (sym next) lawful

lines-events : (last : Bool) (answered : Result BatchAnswer Refusal) → batch_events answered ≡ (said_to_lines last answered).events
lines-events last (Ok answered) = refl
lines-events last (Err why) = refl

by-lawful : BatchesLeaveLawful → (operator key : List ℕ) (last : Bool) (ask : CallAsk) (old : At) (bytes : List ℕ) (new : At)
    → AnswersBy operator key last ask old bytes new → IsLawful old.kept.journal → IsLawful new.kept.journal
by-lawful batches operator key last (CallAsk.Request request) old bytes new is lawful =
    let journal = old.kept.journal in
    gets-lawful last _ old.kept bytes new.kept is.gets lawful
    (answer_is_lawful journal (max is.reading (last_moment journal)) (caller_of journal operator key) request (keyed-among journal operator key)
    (later is.reading (last_moment journal)) lawful)
by-lawful batches operator key last (CallAsk.BadForm place) old bytes new is lawful =
    gets-lawful last _ old.kept bytes new.kept is.gets lawful (subst IsLawful (sym (append-nil old.kept.journal)) lawful)
by-lawful batches operator key last (CallAsk.Batch lines) old bytes new is lawful =
    let journal = old.kept.journal in
    let now = max is.reading (last_moment journal) in
    gets-lawful last _ old.kept bytes new.kept is.gets lawful
    (subst (λ (events : List Event). IsLawful (journal ++ events)) (lines-events last (batch_answer (own_at journal now (caller_of journal operator key)) (Ok lines)))
    (batches operator journal now key (Ok lines) lawful (later is.reading (last_moment journal))))
by-lawful batches operator key last (CallAsk.Fault fault) old bytes new is lawful = subst (λ (at : At). IsLawful at.kept.journal) (sym is.1) lawful

pub run-lawful : BatchesLeaveLawful → (operator : List ℕ) (stream : Stream) (opened : At) (left : Stream) (at : At) (texts : List (List ℕ))
    → IsLawful opened.kept.journal → Run operator stream opened left at texts → IsLawful at.kept.journal
run-lawful batches operator stream opened left at texts lawful Run.none = lawful
run-lawful batches operator stream opened left at texts lawful (Run.more between after mid now before item text run is answers) =
    by-lawful batches operator (item_key item) after.closed (item_answer item) mid text now answers
    (run-lawful batches operator stream opened between mid before lawful run)

-- What a run over a connection does, item by item.
use Rattle.std.proofs.Common.{List, [], ap, append-nil, arith, sym, ℕ, ◌++◌, ◌∙◌, ◌≡◌, ◌≤◌}
use Rattle.std.specs.Prelude.{Bool}
use Rattle.agent_http.specs.Calls.{item_answer, item_key}
use Rattle.agent_http.specs.declared.calls.CallAsk.{CallAsk}
use Rattle.http_stream.specs.Stream.{Stream}
use Rattle.connection_service.proofs.AnswerFacts.{grown-then}
use Rattle.connection_service.specs.Answers.{AnswersBy, At, Gets, Kept, Said}
use Rattle.connection_service.specs.Runs.{Run}
use Rattle.register_machine.specs.journal.Journals.{Journal}

gets-grows : (last : Bool) (said : Said) (old : Kept) (bytes : List ℕ) (new : Kept) → Gets last said old bytes new → (more : Journal) × (new.journal ≡ old.journal ++ more)
gets-grows last said old bytes new (Gets.Answered is next) = (said.events, ap (λ (kept : Kept). kept.journal) next)
gets-grows last said old bytes new (Gets.NoMemory is next) = ([], ap (λ (kept : Kept). kept.journal) next ∙ sym (append-nil old.journal))
gets-grows last said old bytes new (Gets.NotKept is some rose next) = ([], next ∙ sym (append-nil old.journal))

by-grows : (operator key : List ℕ) (last : Bool) (ask : CallAsk) (old : At) (bytes : List ℕ) (new : At) → AnswersBy operator key last ask old bytes new
    → (more : Journal) × (new.kept.journal ≡ old.kept.journal ++ more)
by-grows operator key last (CallAsk.Request request) old bytes new is = gets-grows last _ old.kept bytes new.kept is.gets
by-grows operator key last (CallAsk.BadForm place) old bytes new is = gets-grows last _ old.kept bytes new.kept is.gets
by-grows operator key last (CallAsk.Batch lines) old bytes new is = gets-grows last _ old.kept bytes new.kept is.gets
by-grows operator key last (CallAsk.Fault fault) old bytes new is = ([], ap (λ (at : At). at.kept.journal) is.1 ∙ sym (append-nil old.kept.journal))

by-later : (operator key : List ℕ) (last : Bool) (ask : CallAsk) (old : At) (bytes : List ℕ) (new : At) → AnswersBy operator key last ask old bytes new
    → old.clock.last ≤ new.clock.last
by-later operator key last (CallAsk.Request request) old bytes new is =
    let later = is.read.never_falls in let same : new.clock.last ≡ is.reading = ap (λ c. c.last) is.read.new_is in omega arith
by-later operator key last (CallAsk.BadForm place) old bytes new is =
    let same : new.clock.last ≡ old.clock.last = ap (λ c. c.last) is.unread in omega arith
by-later operator key last (CallAsk.Batch lines) old bytes new is =
    let later = is.read.never_falls in let same : new.clock.last ≡ is.reading = ap (λ c. c.last) is.read.new_is in omega arith
by-later operator key last (CallAsk.Fault fault) old bytes new is =
    let same : new.clock.last ≡ old.clock.last = ap (λ (at : At). at.clock.last) is.1 in omega arith

pub run-grows : (operator : List ℕ) (stream : Stream) (opened : At) (left : Stream) (at : At) (texts : List (List ℕ))
    → Run operator stream opened left at texts → (more : Journal) × (at.kept.journal ≡ opened.kept.journal ++ more)
run-grows operator stream opened left at texts Run.none = ([], sym (append-nil opened.kept.journal))
run-grows operator stream opened left at texts (Run.more between after mid now before item text run is answers) =
    grown-then opened.kept.journal mid.kept.journal now.kept.journal (run-grows operator stream opened between mid before run)
    (by-grows operator (item_key item) after.closed (item_answer item) mid text now answers)

pub run-later : (operator : List ℕ) (stream : Stream) (opened : At) (left : Stream) (at : At) (texts : List (List ℕ))
    → Run operator stream opened left at texts → opened.clock.last ≤ at.clock.last
run-later operator stream opened left at texts Run.none = omega arith
run-later operator stream opened left at texts (Run.more between after mid now before item text run is answers) =
    let first = run-later operator stream opened between mid before run in
    let then_ = by-later operator (item_key item) after.closed (item_answer item) mid text now answers in
    omega arith

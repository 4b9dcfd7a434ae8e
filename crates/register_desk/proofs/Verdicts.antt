-- What a verdict tells: the moment of the event that a request brings, the event that it repeats, and that the situation which
-- is asked is the journal's own.
use Rattle.std.proofs.Common.{None, Option, Some, ap, is_some, position, refl, slice_get, subst, sym, true, ℕ, ◌∙◌, ◌≡◌}
use Rattle.agent_events.specs.Events.{Event, event_of}
use Rattle.agent_events.specs.declared.event.EventKind.{EventKind}
use Rattle.agent_events.specs.declared.reply.Refusal.{Refusal}
use Rattle.agent_events.specs.declared.request.Request.{Request}
use Rattle.agent_events.specs.declared.verdict.Caller.{Caller}
use Rattle.agent_events.specs.declared.verdict.Verdict.{Verdict}
use Rattle.forward_price.specs.PriceTables.{Table}
use Rattle.order_intake.proofs.LawfulFits.{own_situation, same_situation}
use Rattle.register_laws.proofs.RefusedByFirst.{found-there}
use Rattle.register_laws.specs.Lawful.{own_at}
use Rattle.register_laws.specs.OneEventMore.{corrected_table}
use Rattle.register_machine.specs.journal.Choices.{first_some}
use Rattle.register_machine.specs.journal.Journals.{Journal}
use Rattle.register_machine.specs.rules.InOrder.{broken_rule, first_rules}
use Rattle.register_machine.specs.rules.Situations.{Situation, event_at, situation_at}
use Rattle.register_machine.specs.run.Verdicts.{due_now, repeats, verdict, verdict_by_event, verdict_by_place, verdict_by_right, verdict_by_rule}

-- What holds of a refusal, of a repeat that is there, of a look, and of the request's own event, holds of every verdict.
each-verdict : (C : Verdict → Type 0) (situation : Situation) (request : Request) → ((why : Refusal) → C (Verdict.Refused why)) → ((place : ℕ) → position (repeats request) situation.journal ≡ Some place → C (Verdict.Again place)) → C Verdict.Query → ((kind : EventKind) → event_of request situation.now (due_now situation request) ≡ Some kind → C (Verdict.Fresh (event_at situation kind))) → C (verdict situation request)
each-verdict C situation request refused again look fresh = by_right (first_some (first_rules situation request))
  where
    by_event : (found : Option EventKind) → event_of request situation.now (due_now situation request) ≡ found → C (verdict_by_event situation found)
    by_event None e = look
    by_event (Some kind) e = fresh kind e

    by_rule : (broken : Option Refusal) → C (verdict_by_rule situation request broken)
    by_rule (Some why) = refused why
    by_rule None = by_event (event_of request situation.now (due_now situation request)) refl

    by_place : (place : Option ℕ) → position (repeats request) situation.journal ≡ place → C (verdict_by_place situation request place)
    by_place (Some place) e = again place e
    by_place None e = by_rule (broken_rule situation request)

    by_right : (broken : Option Refusal) → C (verdict_by_right situation request broken)
    by_right (Some why) = refused why
    by_right None = by_place (position (repeats request) situation.journal) refl

-- a new event has the moment of its request
pub fresh_moment : (situation : Situation) (request : Request) (event : Event) → verdict situation request ≡ Verdict.Fresh event → event.moment ≡ situation.now
fresh_moment situation request event =
    each-verdict (λ said. said ≡ Verdict.Fresh event → event.moment ≡ situation.now) situation request
    (λ why e. absurd (refused why e)) (λ place found e. absurd (again place e)) (λ e. absurd (look e))
    (λ kind brings e. let same : event_at situation kind ≡ event = cc in ap (λ (v : Event). v.moment) (sym same))
  where
    refused : (why : Refusal) → Verdict.Refused why ≡ Verdict.Fresh event → ⊥
    refused why h = cc

    again : (place : ℕ) → Verdict.Again place ≡ Verdict.Fresh event → ⊥
    again place h = cc

    look : Verdict.Query ≡ Verdict.Fresh event → ⊥
    look h = cc

-- a new event is the request's own
pub fresh_brings : (situation : Situation) (request : Request) (event : Event) → verdict situation request ≡ Verdict.Fresh event → (kind : EventKind) × (event_of request situation.now (due_now situation request) ≡ Some kind) × (event_at situation kind ≡ event)
fresh_brings situation request event =
    each-verdict (λ said. said ≡ Verdict.Fresh event → (kind : EventKind) × (event_of request situation.now (due_now situation request) ≡ Some kind) × (event_at situation kind ≡ event)) situation request
    (λ why e. absurd (refused why e)) (λ place found e. absurd (again place e)) (λ e. absurd (look e)) (λ kind brings e. (kind, brings, cc))
  where
    refused : (why : Refusal) → Verdict.Refused why ≡ Verdict.Fresh event → ⊥
    refused why h = cc

    again : (place : ℕ) → Verdict.Again place ≡ Verdict.Fresh event → ⊥
    again place h = cc

    look : Verdict.Query ≡ Verdict.Fresh event → ⊥
    look h = cc

-- what is repeated is there
pub again_there : (situation : Situation) (request : Request) (place : ℕ) → verdict situation request ≡ Verdict.Again place → is_some (slice_get situation.journal place) ≡ true
again_there situation request place =
    each-verdict (λ said. said ≡ Verdict.Again place → is_some (slice_get situation.journal place) ≡ true) situation request
    (λ why e. absurd (refused why e)) there (λ e. absurd (look e)) (λ kind brings e. absurd (fresh kind e))
  where
    refused : (why : Refusal) → Verdict.Refused why ≡ Verdict.Again place → ⊥
    refused why h = cc

    look : Verdict.Query ≡ Verdict.Again place → ⊥
    look h = cc

    fresh : (kind : EventKind) → Verdict.Fresh (event_at situation kind) ≡ Verdict.Again place → ⊥
    fresh kind h = cc

    there : (other : ℕ) → position (repeats request) situation.journal ≡ Some other → Verdict.Again other ≡ Verdict.Again place → is_some (slice_get situation.journal place) ≡ true
    there other found e =
        let same : other ≡ place = cc in
        subst (λ p. is_some (slice_get situation.journal p) ≡ true) same
        (ap is_some (found-there (repeats request) situation.journal other found).1)

-- the situation that is asked by the corrected table is the journal's own
pub asked_situation : (table : Table) (journal : Journal) (now : ℕ) (caller : Caller) → table ≡ corrected_table journal → situation_at table journal now caller ≡ own_at journal now caller
asked_situation table journal now caller is =
    sym (same_situation table journal now caller is) ∙ own_situation table journal now caller is

-- and so is the verdict
pub asked_verdict : (table : Table) (journal : Journal) (now : ℕ) (caller : Caller) (request : Request) (said : Verdict) → table ≡ corrected_table journal → said ≡ verdict (situation_at table journal now caller) request → verdict (own_at journal now caller) request ≡ said
asked_verdict table journal now caller request said is e =
    sym (e ∙ ap (λ (s : Situation). verdict s request) (asked_situation table journal now caller is))

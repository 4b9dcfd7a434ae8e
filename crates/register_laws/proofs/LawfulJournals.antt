-- Lawful journals: what their events met, and how a law is shown of all of them, event by event.
use Rattle.std.proofs.Common.{List, None, Some, [], ap, append-nil, append_assoc, get_or, position, slice_get, subst, suc, sym, take, zero, ℕ, ◌++◌, ◌∙◌, ◌∷◌, ◌≡◌}
use Rattle.agent_events.specs.Events.{Event, event_of, request_of}
use Rattle.agent_events.specs.declared.event.EventKind.{EventKind}
use Rattle.agent_events.specs.declared.request.Request.{Request}
use Rattle.register_laws.proofs.AnswersByCases.{each-new}
use Rattle.register_laws.proofs.Choosing.{none_some}
use Rattle.register_laws.specs.Lawful.{EachIsBrought, IsBrought, own_at}
use Rattle.register_machine.specs.journal.Choices.{first_some}
use Rattle.register_machine.specs.journal.Journals.{Journal, with_event}
use Rattle.register_machine.specs.journal.Lawful.{AllFollow, Follows, IsLawful, asker_of}
use Rattle.register_machine.specs.rules.Breaks.{breaks}
use Rattle.register_machine.specs.rules.InOrder.{broken_rule, first_rules}
use Rattle.register_machine.specs.rules.Situations.{Situation, event_at}
use Rattle.register_machine.specs.run.Verdicts.{due_now, repeats}

-- an event that follows is brought
pub brought : (journal : Journal) (event : Event) → Follows journal event → IsBrought journal event
brought journal event follows =
    each-new (λ said. said.events ≡ event ∷ [] → IsBrought journal event) situation request
    (λ reply none. absurd (no_event none)) one follows.appended
  where
    no_event : [] ≡ event ∷ [] → ⊥
    no_event h = cc

    situation : Situation
    situation = own_at journal event.moment (asker_of journal event.kind)

    request : Request
    request = request_of event.kind

    one : first_some (first_rules situation request) ≡ None → position (repeats request) situation.journal ≡ None → broken_rule situation request ≡ None → (kind : EventKind) → event_of request situation.now (due_now situation request) ≡ Some kind → breaks situation (event_at situation kind) ≡ None → event_at situation kind ∷ [] ≡ event ∷ [] → IsBrought journal event
    one allowed new clear kind brings keeps same =
        let is : event_at situation kind ≡ event = ap (λ (events : List Event). get_or events 0 event) same in
        record {
          caller = asker_of journal event.kind;
          not_before = follows.not_before;
          allowed = allowed;
          new = new;
          clear = clear;
          brings = brings ∙ ap (λ (e : Event). Some e.kind) is;
          keeps = subst (λ e. breaks situation e ≡ None) is keeps;
        }

-- ---- one event more

pub all-follow : (before journal : Journal) (event : Event) → AllFollow before journal → Follows (before ++ journal) event → AllFollow before (journal ++ event ∷ [])
all-follow before [] event all next = (subst (λ known. Follows known event) (append-nil before) next, tt)
all-follow before (first ∷ journal) event all next = (
  all.0,
  all-follow (with_event before first) journal event all.1
      (subst (λ known. Follows known event) (sym (append_assoc before (first ∷ []) journal)) next),
)

keeps-from : (P : Journal → Type 0) → ((journal : Journal) (event : Event) → IsLawful journal → IsBrought journal event → P journal → P (with_event journal event)) → (before later : Journal) → IsLawful before → AllFollow before later → P before → P (before ++ later)
keeps-from P keeps before [] lawful all holds = subst P (sym (append-nil before)) holds
keeps-from P keeps before (event ∷ later) lawful all holds =
    subst P (append_assoc before (event ∷ []) later)
    (keeps-from P keeps (with_event before event) later (all-follow [] before event lawful all.0) all.1
    (keeps before event lawful (brought before event all.0) holds))

-- What each event that is brought keeps, every lawful journal has.
pub lawful-keeps : (P : Journal → Type 0) → ((journal : Journal) (event : Event) → IsLawful journal → IsBrought journal event → P journal → P (with_event journal event)) → P [] → (journal : Journal) → IsLawful journal → P journal
lawful-keeps P keeps none journal lawful = keeps-from P keeps [] journal tt lawful none

-- the events before a place of a lawful journal are lawful
pub lawful-before : (before later : Journal) → AllFollow [] (before ++ later) → IsLawful before
lawful-before before later all = front [] before later all
  where
    front : (known before later : Journal) → AllFollow known (before ++ later) → AllFollow known before
    front known [] later all = tt
    front known (event ∷ before) later all = (all.0, front (with_event known event) before later all.1)

-- ---- each event by its place

event-at : (known later : Journal) (place : ℕ) (event : Event) → AllFollow known later → slice_get later place ≡ Some event → IsBrought (known ++ take place later) event
event-at known [] place event all e = absurd (none_some e)
event-at known (first ∷ later) zero event all e =
    let same : first ≡ event = cc in
    subst (λ j. IsBrought j event) (sym (append-nil known)) (subst (λ x. IsBrought known x) same (brought known first all.0))
event-at known (first ∷ later) (suc place) event all e =
    subst (λ j. IsBrought j event) (append_assoc known (first ∷ []) (take place later))
    (event-at (with_event known first) later place event all.1 e)

pub each_is_brought : (journal : Journal) → IsLawful journal → EachIsBrought journal
each_is_brought journal lawful place event e = event-at [] journal place event lawful e

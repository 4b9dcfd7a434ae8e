-- The steps of an event that is asked again: those of a new event where it follows the journal, those of a correction where it
-- doesn't, and else none.
use Rattle.std.proofs.Common.{Bool, List, None, Option, Some, [], ap, false, get_or, inl, inr, is_some, refl, slice_get, subst, sym, take, true, ℕ, ◌||◌, ◌∙◌, ◌∷◌, ◌≡◌, ◌⊎◌}
use Rattle.std.proofs.lemmas.Bool.{true≢false}
use Rattle.std.specs.Option.{option_map_or}
use Rattle.agent_events.specs.Events.{Event, event_of, order_request, request_of}
use Rattle.agent_events.specs.declared.event.EventKind.{EventKind}
use Rattle.agent_events.specs.declared.event.Placed.{Placed}
use Rattle.agent_events.specs.declared.event.Source.{Source}
use Rattle.agent_events.specs.declared.order.Bearer.{Bearer}
use Rattle.agent_events.specs.declared.reply.Refusal.{Refusal}
use Rattle.agent_events.specs.declared.request.Request.{Request}
use Rattle.agent_events.specs.declared.verdict.Verdict.{Verdict}
use Rattle.register_desk.proofs.AskedAgain.{brought-again, keeps-itself, unsome}
use Rattle.register_desk.proofs.Verdicts.{fresh_brings}
use Rattle.register_desk.specs.Answered.{events_of}
use Rattle.register_desk.specs.Asked.{IsAskedAgain, change_to, keeps_moments}
use Rattle.register_desk.specs.Steps.{AreStepsAsked, AreStepsFound, AreStepsOf, StepsWhereReached, TakesSteps}
use Rattle.register_desk.specs.declared.answering.Answered.{Answered}
use Rattle.desk_books.specs.declared.change.EventChange.{EventChange}
use Rattle.register_laws.specs.EventReplays.{is_correction, is_sheet}
use Rattle.register_laws.specs.Lawful.{own_at}
use Rattle.register_machine.specs.corrections.Payments.{bearer_in}
use Rattle.register_machine.specs.journal.Choices.{when}
use Rattle.register_machine.specs.journal.Journals.{Journal}
use Rattle.register_machine.specs.journal.Lawful.{asker_of}
use Rattle.register_machine.specs.rules.Breaks.{breaks, breaks_by}
use Rattle.register_machine.specs.rules.Situations.{Situation}
use Rattle.register_machine.specs.run.Answers.{Answer, answer_by, fresh_answer, repeat_answer, refuses, says}
use Rattle.register_machine.specs.run.Replies.{first_reply}
use Rattle.register_machine.specs.run.Verdicts.{due_now, verdict}

-- ---- the kind that is brought: the same, or an order's

kind-brought : (kind other : EventKind) (now due : ℕ) → event_of (request_of kind) now due ≡ Some other → (other ≡ kind) ⊎ ((is_sheet other || is_correction other) ≡ false)
kind-brought (EventKind.Order placed) other now due e = by_source placed.source e
  where
    plain : (own : Placed) → other ≡ EventKind.Order own → (is_sheet other || is_correction other) ≡ false
    plain own is = ap (λ k. is_sheet k || is_correction k) is

    by_source : (source : Source) → event_of (order_request source placed.receipt placed.order) now due ≡ Some other → (other ≡ EventKind.Order placed) ⊎ ((is_sheet other || is_correction other) ≡ false)
    by_source Source.Direct h = inr (plain _ (unsome h))
    by_source Source.Dealer h = inr (plain _ (unsome h))
kind-brought _ other now due e = inl (unsome e)

-- ---- what brings no event

again-nothing : (journal : Journal) (place : ℕ) → (repeat_answer journal place).events ≡ []
again-nothing journal place = by_found (slice_get journal place)
  where
    by_found : (found : Option Event) → (option_map_or (λ event. says (first_reply (take place journal) event)) found (refuses (Refusal.BadForm 0))).events ≡ []
    by_found None = refl
    by_found (Some event) = refl

cons-nil : {event : Event} → event ∷ [] ≡ [] → ⊥
cons-nil h = cc

nothing-changes : (change : Option EventChange) → events_of change ≡ [] → change ≡ None
nothing-changes None none = refl
nothing-changes (Some change) none = absurd (cons-nil none)

-- so nothing is found
none-found : (event : Event) (change found : Option EventChange) → found ≡ change_to change event → events_of change ≡ [] → found ≡ None
none-found event change found is none = is ∙ ap (λ c. change_to c event) (nothing-changes change none)

no-steps : (journal : Journal) (event : Event) (before after : ℕ) (found : Option EventChange) → found ≡ None → after ≡ before → AreStepsFound journal event found before after
no-steps journal event before after found none same =
    subst (λ (f : Option EventChange). AreStepsFound journal event f before after) (sym none) (inl same)

-- ---- a new event, by what the last rule says

breaks-none : (situation : Situation) (event : Event) → is_correction event.kind ≡ false → breaks situation event ≡ None
breaks-none situation event e = by_bearer (bearer_in event.kind) e
  where
    by_bearer : (bearer : Option Bearer) → is_some bearer ≡ false → breaks_by bearer situation event ≡ None
    by_bearer None h = refl
    by_bearer (Some bearer) h = absurd (true≢false h)

none-some : {X : Type 0} {x : X} → None ≡ Some x → ⊥
none-some h = cc

-- a correction that breaks an order takes its steps, and what is no sheet and no correction takes none
broken-steps : (journal : Journal) (event own : Event) (change : Option EventChange) (situation : Situation) (why : Refusal) (before after : ℕ)
    → breaks situation own ≡ Some why → (own.kind ≡ event.kind) ⊎ ((is_sheet own.kind || is_correction own.kind) ≡ false) → TakesSteps journal own change before after
    → AreStepsFound journal event None before after
broken-steps journal event own change situation why before after broken (inr other) steps = inl (steps.other other)
broken-steps journal event own change situation why before after broken (inl same) steps = by_kind (is_correction own.kind) refl
  where
    by_kind : (corrects : Bool) → is_correction own.kind ≡ corrects → AreStepsFound journal event None before after
    by_kind true is = inr (ap is_correction (sym same) ∙ is, subst (λ (kind : EventKind). StepsWhereReached journal kind before after) same (steps.correction is))
    by_kind false is = absurd (none-some (sym (breaks-none situation own is) ∙ broken))

-- one that isn't broken is found, but for an order with other moments
kept-steps : (journal : Journal) (event own : Event) (change found : Option EventChange) (before after : ℕ)
    → found ≡ change_to change event → own ∷ [] ≡ events_of change
    → (own.kind ≡ event.kind) ⊎ ((is_sheet own.kind || is_correction own.kind) ≡ false)
    → (keeps_moments own.kind event.kind ≡ true → own ≡ event) → TakesSteps journal own change before after
    → AreStepsFound journal event found before after
kept-steps journal event own None found before after is brings kind same steps = absurd (cons-nil brings)
kept-steps journal event own (Some change) found before after is brings kind same steps =
    by_moments (keeps_moments change.event.kind event.kind) refl
  where
    here : own ≡ change.event
    here = ap (λ (events : List Event). get_or events 0 own) brings

    by_moments : (keeps : Bool) → keeps_moments change.event.kind event.kind ≡ keeps → AreStepsFound journal event found before after
    by_moments true e =
        subst (λ (f : Option EventChange). AreStepsFound journal event f before after) (sym (is ∙ ap (λ b. when b change) e))
        (subst (λ (v : Event). TakesSteps journal v (Some change) before after) (same (ap (λ (v : Event). keeps_moments v.kind event.kind) here ∙ e)) steps)
    by_moments false e = none_by kind
      where
        none : found ≡ None
        none = is ∙ ap (λ b. when b change) e

        none_by : (own.kind ≡ event.kind) ⊎ ((is_sheet own.kind || is_correction own.kind) ≡ false) → AreStepsFound journal event found before after
        none_by (inr other) = no-steps journal event before after found none (steps.other other)
        none_by (inl alike) =
            absurd (true≢false (sym (ap (λ (k : EventKind). keeps_moments k event.kind) (sym (ap (λ (v : Event). v.kind) here) ∙ alike) ∙ keeps-itself event.kind) ∙ e))

-- ---- by the verdict

pub steps_found : (journal : Journal) (event : Event) (answered : Answered) (found : Option EventChange) (before after : ℕ)
    → found ≡ change_to answered.change event → IsAskedAgain journal event answered → AreStepsAsked journal event answered.change before after
    → AreStepsFound journal event found before after
steps_found journal event answered found before after is asked steps = by_verdict (verdict situation request) refl steps
  where
    situation : Situation
    situation = own_at journal event.moment (asker_of journal event.kind)

    request : Request
    request = request_of event.kind

    given : (said : Verdict) → verdict situation request ≡ said → (answer_by situation request said).events ≡ events_of answered.change
    given said e = sym (ap (λ (v : Verdict). (answer_by situation request v).events) e) ∙ ap (λ (a : Answer). a.events) asked

    nothing : (said : Verdict) → verdict situation request ≡ said → (answer_by situation request said).events ≡ [] → found ≡ None
    nothing said e none = none-found event answered.change found is (sym (given said e) ∙ none)

    by_broken : (own : Event) → verdict situation request ≡ Verdict.Fresh own → TakesSteps journal own answered.change before after → (broken : Option Refusal) → breaks situation own ≡ broken → AreStepsFound journal event found before after
    by_broken own e taken None keeps =
        let brings = fresh_brings situation request own e in
        let events = sym (ap (λ (broken : Option Refusal). (fresh_answer situation own broken).events) keeps) ∙ given (Verdict.Fresh own) e in
        kept-steps journal event own answered.change found before after is events
        (kind-brought event.kind own.kind situation.now (due_now situation request) (brings.1 ∙ ap (λ (v : Event). Some v.kind) brings.2))
        (brought-again journal event own (ap (λ (a : Answer). a.events) asked ∙ sym events)) taken
    by_broken own e taken (Some why) keeps =
        let brings = fresh_brings situation request own e in
        subst (λ (f : Option EventChange). AreStepsFound journal event f before after)
        (sym (nothing (Verdict.Fresh own) e (ap (λ (broken : Option Refusal). (fresh_answer situation own broken).events) keeps)))
        (broken-steps journal event own answered.change situation why before after keeps
        (kind-brought event.kind own.kind situation.now (due_now situation request) (brings.1 ∙ ap (λ (v : Event). Some v.kind) brings.2)) taken)

    by_verdict : (said : Verdict) → verdict situation request ≡ said → AreStepsOf journal said answered.change before after → AreStepsFound journal event found before after
    by_verdict (Verdict.Fresh own) e taken = by_broken own e taken (breaks situation own) refl
    by_verdict (Verdict.Again place) e taken = no-steps journal event before after found (nothing (Verdict.Again place) e (again-nothing journal place)) taken
    by_verdict Verdict.Query e taken = no-steps journal event before after found (nothing Verdict.Query e refl) taken
    by_verdict (Verdict.Refused why) e taken = no-steps journal event before after found (nothing (Verdict.Refused why) e refl) taken

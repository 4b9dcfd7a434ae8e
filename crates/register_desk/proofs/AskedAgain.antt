-- An event that is asked for again by its own request: the machine brings an event of the same kind and moment, which is this very
-- one where an order keeps the same moments; and it brings this one where it follows the journal.
use Rattle.std.proofs.Common.{Bool, List, None, Option, Some, [], ap, append-nil, append_assoc, arith, false, get_or, is_some, nat_lt, refl, subst, sym, true, ℕ, ◌&&◌, ◌++◌, ◌<◌, ◌==◌, ◌∙◌, ◌∷◌, ◌≡◌, ◌≤◌}
use Rattle.std.proofs.lemmas.Bool.{and_parts, eq-eqb, eqb-true, ltb-false, ltb-true}
use Rattle.std.specs.Prelude.{IfOk, IfSome, Result}
use Rattle.std.specs.Option.{option_map_or}
use Rattle.std.specs.Prelude.{option_and_then}
use Rattle.agent_events.specs.Events.{Event, event_of, order_request, request_of}
use Rattle.agent_events.specs.declared.event.EventKind.{EventKind}
use Rattle.agent_events.specs.declared.event.Placed.{Placed}
use Rattle.agent_events.specs.declared.event.Source.{Source}
use Rattle.agent_events.specs.declared.order.Order.{Order}
use Rattle.agent_events.specs.declared.request.Request.{Request}
use Rattle.agent_events.specs.declared.request.AccountForm.{AccountForm}
use Rattle.agent_events.specs.declared.request.DealerForm.{DealerForm}
use Rattle.agent_events.specs.declared.verdict.Caller.{Caller}
use Rattle.register_desk.specs.Answered.{IsAnswer, IsCaller, IsReadyToNote, events_of}
use Rattle.register_desk.specs.Asked.{IsAskedAgain, change_to, keeps_moments, moments_kept}
use Rattle.register_desk.specs.Steps.{AreStepsAsked, AreStepsOf}
use Rattle.register_desk.specs.declared.answering.Answered.{Answered}
use Rattle.desk_books.specs.ReadyChanges.{IsReady}
use Rattle.desk_books.specs.declared.books.DeskBooks.{DeskBooks}
use Rattle.desk_books.specs.declared.change.EventChange.{EventChange}
use Rattle.fund_calendar.proofs.LookUpLemmas.{find_passes}
use Rattle.register_laws.proofs.AnswersByCases.{each-answer}
use Rattle.register_laws.proofs.Choosing.{none_some, some_none}
use Rattle.register_laws.specs.Lawful.{own_at}
use Rattle.register_machine.specs.journal.Choices.{when}
use Rattle.register_machine.specs.journal.Journals.{Journal, last_moment, with_event}
use Rattle.register_machine.specs.journal.Kinds.{account_numbered, accounts_of, dealer_numbered, dealers_of}
use Rattle.register_machine.specs.journal.Lawful.{AllFollow, Follows, IsLawful, answer_again, asker_by, asker_of}
use Rattle.register_machine.specs.rules.Situations.{Situation, event_at}
use Rattle.register_machine.specs.run.Answers.{Answer}
use Rattle.register_machine.specs.run.Verdicts.{due_now, verdict}

-- ---- the last event of a lawful journal

last-follows : (before later : Journal) (event : Event) → AllFollow before (later ++ event ∷ []) → Follows (before ++ later) event
last-follows before [] event all = subst (λ known. Follows known event) (sym (append-nil before)) all.0
last-follows before (first ∷ later) event all =
    subst (λ known. Follows known event) (append_assoc before (first ∷ []) later) (last-follows (with_event before first) later event all.1)

pub follows_journal : (journal : Journal) (event : Event) → IsLawful (with_event journal event) → Follows journal event
follows_journal journal event lawful = last-follows [] journal event lawful

-- so none follows at a moment before the last one
pub never_before : (journal : Journal) (event : Event) → nat_lt event.moment (last_moment journal) ≡ true → IsLawful (with_event journal event) → ⊥
never_before journal event early lawful =
    apart (follows_journal journal event lawful).not_before (ltb-true event.moment (last_moment journal) early)
  where
    apart : last_moment journal ≤ event.moment → event.moment < last_moment journal → ⊥
    apart late before = omega (arith, late, before)

pub not_before : (moment last : ℕ) → nat_lt moment last ≡ false → last ≤ moment
not_before moment last late = ltb-false moment last late

-- ---- who asks is a caller of the journal

pub asker_is_caller : (journal : Journal) (kind : EventKind) → IsCaller journal (asker_of journal kind)
asker_is_caller journal (EventKind.Order placed) = by_source placed.source
  where
    by_dealer : (number : ℕ) (found : Option DealerForm) → dealer_numbered (dealers_of journal) number ≡ found → IsCaller journal (option_map_or (λ form. Caller.Dealer form.dealer) found Caller.Stranger)
    by_dealer number None e = tt
    by_dealer number (Some form) e =
        subst (λ n. is_some (dealer_numbered (dealers_of journal) n) ≡ true)
        (sym (eqb-true form.dealer number (find_passes (λ (d : DealerForm). d.dealer == number) (dealers_of journal) form e)))
        (ap is_some e)

    by_account : (found : Option AccountForm) → IsCaller journal (option_map_or (λ form. Caller.Dealer form.dealer) (option_and_then (λ account. dealer_numbered (dealers_of journal) account.dealer) found) Caller.Stranger)
    by_account None = tt
    by_account (Some account) = by_dealer account.dealer (dealer_numbered (dealers_of journal) account.dealer) refl

    by_source : (source : Source) → IsCaller journal (asker_by journal placed source)
    by_source Source.Direct = tt
    by_source Source.Dealer = by_account (account_numbered (accounts_of journal) placed.order.account)
asker_is_caller journal _ = tt

-- ---- the same event

pub unsome : {X : Type 0} {x y : X} → Some x ≡ Some y → y ≡ x
unsome e = cc

abbrev placed_as : Order → Source → ℕ → ℕ → Placed
placed_as order source receipt due = record { order = order; source = source; receipt = receipt; due = due }

same-placed : (placed : Placed) (source : Source) (receipt due : ℕ) → placed.source ≡ source → keeps_moments (EventKind.Order (placed_as placed.order source receipt due)) (EventKind.Order placed) ≡ true → placed_as placed.order source receipt due ≡ placed
same-placed placed source receipt due is kept =
    let both = and_parts (receipt == placed.receipt) (due == placed.due) kept in
    ap (λ (from : Source). placed_as placed.order from receipt due) (sym is)
    ∙ (ap (λ n. placed_as placed.order placed.source n due) (eqb-true receipt placed.receipt both.0)
    ∙ ap (λ n. placed_as placed.order placed.source placed.receipt n) (eqb-true due placed.due both.1))

-- the event of an event's own request, where it keeps the same moments
same-kind : (kind other : EventKind) (now due : ℕ) → event_of (request_of kind) now due ≡ Some other → keeps_moments other kind ≡ true → other ≡ kind
same-kind (EventKind.Order placed) other now due e kept = by_source placed.source refl e
  where
    made : (source : Source) (receipt : ℕ) → placed.source ≡ source → other ≡ EventKind.Order (placed_as placed.order source receipt due) → other ≡ EventKind.Order placed
    made source receipt is same =
        same
        ∙ ap EventKind.Order (same-placed placed source receipt due is (subst (λ k. keeps_moments k (EventKind.Order placed) ≡ true) same kept))

    by_source : (source : Source) → placed.source ≡ source → event_of (order_request source placed.receipt placed.order) now due ≡ Some other → other ≡ EventKind.Order placed
    by_source Source.Direct is h = made Source.Direct now is (unsome h)
    by_source Source.Dealer is h = made Source.Dealer placed.receipt is (unsome h)
same-kind _ other now due e kept = unsome e

pub keeps-itself : (kind : EventKind) → keeps_moments kind kind ≡ true
keeps-itself kind =
    ap (λ b. b && (moments_kept kind).1 == (moments_kept kind).1) (eq-eqb (moments_kept kind).0 (moments_kept kind).0 refl)
    ∙ eq-eqb (moments_kept kind).1 (moments_kept kind).1 refl

no-event : {event : Event} → [] ≡ event ∷ [] → ⊥
no-event h = cc

first-same : (event other : Event) → event ∷ [] ≡ other ∷ [] → event ≡ other
first-same event other e = ap (λ (events : List Event). get_or events 0 other) e

-- what is brought again is this event
pub brought-again : (journal : Journal) (event other : Event) → (answer_again journal event).events ≡ other ∷ [] → keeps_moments other.kind event.kind ≡ true → other ≡ event
brought-again journal event other =
    each-answer (λ (said : Answer). said.events ≡ other ∷ [] → keeps_moments other.kind event.kind ≡ true → other ≡ event) situation (request_of event.kind)
    (λ reply none. absurd (no-event none)) one
  where
    situation : Situation
    situation = own_at journal event.moment (asker_of journal event.kind)

    one : (kind : EventKind) → event_of (request_of event.kind) situation.now (due_now situation (request_of event.kind)) ≡ Some kind → event_at situation kind ∷ [] ≡ other ∷ [] → keeps_moments other.kind event.kind ≡ true → other ≡ event
    one kind brings same kept =
        let is = first-same (event_at situation kind) other same in
        sym is
        ∙ ap (event_at situation) (same-kind event.kind kind event.moment (due_now situation (request_of event.kind)) brings (ap (λ (e : Event). keeps_moments e.kind event.kind) is ∙ kept))

-- ---- the change that is found

when-some : {X : Type 0} (b : Bool) (x y : X) → when b x ≡ Some y → (b ≡ true) × (x ≡ y)
when-some true x y e = (refl, sym (unsome e))
when-some false x y e = absurd (none_some e)

events-given : (journal : Journal) (event : Event) (answered : Answered) → IsAskedAgain journal event answered → (answer_again journal event).events ≡ events_of answered.change
events-given journal event answered is = ap (λ (a : Answer). a.events) is

pub found_follows : (journal : Journal) (event : Event) (answered : Answered) (change : EventChange) → IsAskedAgain journal event answered → change_to answered.change event ≡ Some change → (answered.change ≡ Some change) × (change.event ≡ event)
found_follows journal event answered change is = by_change answered.change refl
  where
    by_change : (found : Option EventChange) → answered.change ≡ found → change_to found event ≡ Some change → (answered.change ≡ Some change) × (change.event ≡ event)
    by_change None there e = absurd (none_some e)
    by_change (Some other) there e =
        let kept = when-some (keeps_moments other.event.kind event.kind) other change e in (
          there ∙ ap Some kept.1,
          subst (λ (c : EventChange). c.event ≡ event) kept.1
              (brought-again journal event other.event (events-given journal event answered is ∙ ap events_of there) kept.0),
        )

pub not_found_never_follows : (journal : Journal) (event : Event) (answered : Answered) → IsAskedAgain journal event answered → change_to answered.change event ≡ None → IsLawful (with_event journal event) → ⊥
not_found_never_follows journal event answered is none lawful = by_change answered.change refl none
  where
    events : events_of answered.change ≡ event ∷ []
    events = sym (events-given journal event answered is) ∙ (follows_journal journal event lawful).appended

    by_change : (found : Option EventChange) → answered.change ≡ found → change_to found event ≡ None → ⊥
    by_change None there e = no-event (sym (ap events_of there) ∙ events)
    by_change (Some other) there e =
        let same = first-same other.event event (sym (ap events_of there) ∙ events) in
        some_none
        (sym (ap (λ b. when b other) (ap (λ (v : Event). keeps_moments v.kind event.kind) same ∙ keeps-itself event.kind)) ∙ e)

-- what is found is ready to be noted
pub found_ready : (journal : Journal) (books : DeskBooks) (event : Event) (answered : Answered) (found : Option EventChange) → found ≡ change_to answered.change event → IsAskedAgain journal event answered → IsReadyToNote books answered.change → IfSome found (λ change. (change.event ≡ event) × IsReady books change)
found_ready journal books event answered None same is ready = tt
found_ready journal books event answered (Some change) same is ready =
    let there = found_follows journal event answered change is (sym same) in
    (there.1, subst (λ (c : Option EventChange). IsReadyToNote books c) there.0 ready)

-- ---- the request that is asked

pub asked_as : {E : Type 0} (journal known : Journal) (event : Event) {moment : ℕ} {caller : Caller} {request : Request} (result : Result Answered E) → known ≡ journal → moment ≡ event.moment → caller ≡ asker_of journal event.kind → request ≡ request_of event.kind → IfOk result (IsAnswer known moment caller request) → IfOk result (IsAskedAgain journal event)
asked_as journal known event {moment = moment} {caller = caller} {request = request} result same then_too who asks given =
    subst (λ (r : Request). IfOk result (IsAnswer journal event.moment (asker_of journal event.kind) r)) asks
    (subst (λ (c : Caller). IfOk result (IsAnswer journal event.moment c request)) who
    (subst (λ (m : ℕ). IfOk result (IsAnswer journal m caller request)) then_too
    (subst (λ (j : Journal). IfOk result (IsAnswer j moment caller request)) same given)))

-- and so are its steps
pub steps_asked : {E : Type 0} (journal : Journal) (event : Event) {moment : ℕ} {caller : Caller} {request : Request} (before after : ℕ) (result : Result Answered E) → moment ≡ event.moment → caller ≡ asker_of journal event.kind → request ≡ request_of event.kind
    → IfOk result (λ answered. AreStepsOf journal (verdict (own_at journal moment caller) request) answered.change before after) → IfOk result (λ answered. AreStepsAsked journal event answered.change before after)
steps_asked journal event {moment = moment} {caller = caller} {request = request} before after result then_too who asks given =
    subst (λ (r : Request). IfOk result (λ (answered : Answered). AreStepsOf journal (verdict (own_at journal event.moment (asker_of journal event.kind)) r) answered.change before after)) asks
    (subst (λ (c : Caller). IfOk result (λ (answered : Answered). AreStepsOf journal (verdict (own_at journal event.moment c) request) answered.change before after)) who
    (subst (λ (m : ℕ). IfOk result (λ (answered : Answered). AreStepsOf journal (verdict (own_at journal m caller) request) answered.change before after)) then_too given))

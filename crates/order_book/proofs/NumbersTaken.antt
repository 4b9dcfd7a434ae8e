-- The numbers and the rates once an event is taken in.
use Rattle.std.proofs.Common.{Bool, List, None, Option, Some, [], ap, append-nil, append_assoc, arith, cond, false, is_some, length, length-append, refl, subst, suc, sym, zero, true, ℕ, ◌++◌, ◌+◌, ◌∙◌, ◌∷◌, ◌≡◌, ◌&&◌, ◌==◌}
use Rattle.std.specs.List.{cons_option, slice_get}
use Rattle.std.specs.Prelude.{option_and_then, option_map, option_to_list}
use Rattle.agent_events.specs.Events.{Event}
use Rattle.agent_events.specs.declared.event.EventKind.{EventKind}
use Rattle.agent_events.specs.declared.request.CalendarForm.{CalendarForm}
use Rattle.agent_events.specs.declared.request.ClassForm.{ClassForm}
use Rattle.agent_events.specs.declared.request.DealerForm.{DealerForm}
use Rattle.agent_events.specs.declared.request.FixRateForm.{FixRateForm}
use Rattle.agent_events.specs.declared.request.HouseholdForm.{HouseholdForm}
use Rattle.order_book.proofs.Places.{got-behind}
use Rattle.order_book.specs.LastPlaces.{places_from}
use Rattle.order_book.specs.Numbers.{KeepsNumbers, KeepsRates, fixed_rate, opens_class, registers_dealer, same_rate}
use Rattle.order_book.specs.declared.numbers.Numbers.{Numbers}
use Rattle.order_book.specs.declared.rates.FixedRates.{FixedRates}
use Rattle.order_book.specs.declared.rates.RateName.{RateName}
use Rattle.register_laws.proofs.OneEventMore.{gathers-on}
use Rattle.register_laws.proofs.Tests.{last-of-more}
use Rattle.register_machine.specs.journal.Choices.{last_of}
use Rattle.register_machine.specs.journal.Journals.{Journal, with_event}
use Rattle.register_machine.specs.journal.Kinds.{calendar_in, class_in, dealer_in, each_in, household_in, rate_fix_in}
use Rattle.register_machine.specs.pricing.DividendRates.{fixes_rate}

-- how many there are of a kind, one event more
pub gathered-more : {X : Type 0} (chosen : EventKind → Option X) (journal : Journal) (event : Event) (n : ℕ) → n ≡ length (each_in chosen journal) → n + length (option_to_list (chosen event.kind)) ≡ length (each_in chosen (with_event journal event))
gathered-more chosen journal event n is =
    ap (λ k. k + length (option_to_list (chosen event.kind))) is
    ∙ (sym (length-append (each_in chosen journal) (option_to_list (chosen event.kind)))
    ∙ ap length (sym (gathers-on chosen journal event)))

-- the places of a kind, one event more
from-more : (test : EventKind → Bool) (place : ℕ) (journal : Journal) (event : Event) → places_from test place (with_event journal event) ≡ places_from test place journal ++ cond (test event.kind) ((place + length journal) ∷ []) []
from-more test place [] event =
    append-nil (cond (test event.kind) (place ∷ []) [])
    ∙ ap (λ n. cond (test event.kind) (n ∷ []) []) at
  where
    at : place ≡ place + length {A = Event} []
    at = omega arith
from-more test place (first ∷ journal) event =
    ap (λ later. cond (test first.kind) (place ∷ []) [] ++ later) (from-more test (place + 1) journal event)
    ∙ (sym (append_assoc (cond (test first.kind) (place ∷ []) []) (places_from test (place + 1) journal) (cond (test event.kind) ((place + 1 + length journal) ∷ []) []))
    ∙ ap (λ n. (cond (test first.kind) (place ∷ []) [] ++ places_from test (place + 1) journal) ++ cond (test event.kind) (n ∷ []) []) at)
  where
    at : place + 1 + length journal ≡ place + length (first ∷ journal)
    at = omega arith

pub places-more : (test : EventKind → Bool) (journal : Journal) (event : Event) → places_from test 0 (with_event journal event) ≡ places_from test 0 journal ++ cond (test event.kind) (length journal ∷ []) []
places-more test journal event = from-more test 0 journal event ∙ ap (λ n. places_from test 0 journal ++ cond (test event.kind) (n ∷ []) []) at
  where
    at : 0 + length journal ≡ length journal
    at = omega arith

-- what stands at the places of a kind are the fields of its events, in order
got-from : {X : Type 0} (chosen : EventKind → Option X) (before later : Journal) (index : ℕ) → slice_get (each_in chosen later) index ≡ option_and_then (λ place. option_and_then (λ event. chosen event.kind) (slice_get (before ++ later) place)) (slice_get (places_from (λ kind. is_some (chosen kind)) (length before) later) index)
got-from chosen before [] index = refl
got-from {X} chosen before (event ∷ later) index = by_found (chosen event.kind) refl (got-from chosen (before ++ event ∷ []) later)
  where
    at : length (before ++ event ∷ []) ≡ length before + 1
    at = omega (arith, length-append before (event ∷ []))

    placed : List Event → ℕ → ℕ → Option X
    placed all n i = option_and_then (λ place. option_and_then (λ e. chosen e.kind) (slice_get all place)) (slice_get (places_from (λ kind. is_some (chosen kind)) n later) i)

    moved : (i : ℕ) → placed ((before ++ event ∷ []) ++ later) (length (before ++ event ∷ [])) i ≡ placed (before ++ event ∷ later) (length before + 1) i
    moved i =
        ap (λ all. placed all (length (before ++ event ∷ [])) i) (append_assoc before (event ∷ []) later)
        ∙ ap (λ n. placed (before ++ event ∷ later) n i) at

    by_index : (x : X) → chosen event.kind ≡ Some x → ((i : ℕ) → slice_get (each_in chosen later) i ≡ placed ((before ++ event ∷ []) ++ later) (length (before ++ event ∷ [])) i) → (i : ℕ) → slice_get (x ∷ each_in chosen later) i ≡ option_and_then (λ place. option_and_then (λ e. chosen e.kind) (slice_get (before ++ event ∷ later) place)) (slice_get (length before ∷ places_from (λ kind. is_some (chosen kind)) (length before + 1) later) i)
    by_index x is rest zero = sym (ap (λ found. option_and_then (λ (e : Event). chosen e.kind) found) (got-behind before event later) ∙ is)
    by_index x is rest (suc i) = rest i ∙ moved i

    by_found : (found : Option X) → chosen event.kind ≡ found → ((i : ℕ) → slice_get (each_in chosen later) i ≡ placed ((before ++ event ∷ []) ++ later) (length (before ++ event ∷ [])) i) → slice_get (cons_option found (each_in chosen later)) index ≡ option_and_then (λ place. option_and_then (λ e. chosen e.kind) (slice_get (before ++ event ∷ later) place)) (slice_get (cond (is_some found) (length before ∷ []) [] ++ places_from (λ kind. is_some (chosen kind)) (length before + 1) later) index)
    by_found None is rest = rest index ∙ moved index
    by_found (Some x) is rest = by_index x is rest index

pub got-in-order : {X : Type 0} (chosen : EventKind → Option X) (journal : Journal) (index : ℕ) → slice_get (each_in chosen journal) index ≡ option_and_then (λ place. option_and_then (λ event. chosen event.kind) (slice_get journal place)) (slice_get (places_from (λ kind. is_some (chosen kind)) 0 journal) index)
got-in-order chosen journal index = got-from chosen [] journal index

-- ---- the rates

rate-fix-more : (name : RateName) (journal : Journal) (event : Event) (form : FixRateForm) → event.kind ≡ EventKind.FixRate form → option_map (λ (f : FixRateForm). f.rate) (last_of (fixes_rate name.class name.moment) (each_in rate_fix_in (with_event journal event))) ≡ cond (form.class == name.class && form.moment == name.moment) (Some form.rate) (option_map (λ (f : FixRateForm). f.rate) (last_of (fixes_rate name.class name.moment) (each_in rate_fix_in journal)))
rate-fix-more name journal event form is =
    ap (λ forms. option_map (λ (f : FixRateForm). f.rate) (last_of (fixes_rate name.class name.moment) forms)) (gathers-on rate_fix_in journal event ∙ ap (λ kind. each_in rate_fix_in journal ++ option_to_list (rate_fix_in kind)) is)
    ∙ (ap (option_map (λ (f : FixRateForm). f.rate)) (last-of-more (fixes_rate name.class name.moment) (each_in rate_fix_in journal) form)
    ∙ by_test (fixes_rate name.class name.moment form))
  where
    by_test : (is : Bool) → option_map (λ (f : FixRateForm). f.rate) (cond is (Some form) (last_of (fixes_rate name.class name.moment) (each_in rate_fix_in journal))) ≡ cond is (Some form.rate) (option_map (λ (f : FixRateForm). f.rate) (last_of (fixes_rate name.class name.moment) (each_in rate_fix_in journal)))
    by_test true = refl
    by_test false = refl

pub rate-taken : (old new : FixedRates) (journal : Journal) (moment : ℕ) (kind : EventKind) (form : FixRateForm) (name : RateName) (rate : ℕ)
    → kind ≡ EventKind.FixRate form → name ≡ record { class = form.class; moment = form.moment } → rate ≡ form.rate
    → ((q : RateName) → fixed_rate new q ≡ cond (same_rate name q) (Some rate) (fixed_rate old q))
    → KeepsRates old journal → KeepsRates new (with_event journal (record { moment = moment; kind = kind }))
rate-taken old new journal moment kind form name rate kind_is name_is rate_is put kept = record {
  last = λ q.
      put q
      ∙ (ap (λ (own : RateName). cond (same_rate own q) (Some rate) (fixed_rate old q)) name_is
      ∙ (ap (λ n. cond (form.class == q.class && form.moment == q.moment) (Some n) (fixed_rate old q)) rate_is
      ∙ (ap (λ (found : Option ℕ). cond (form.class == q.class && form.moment == q.moment) (Some form.rate) found) (kept.last q)
      ∙ sym (rate-fix-more q journal (record { moment = moment; kind = kind }) form kind_is))));
}

no-rate-by : (kind : EventKind) → ((form : FixRateForm) → kind ≡ EventKind.FixRate form → ⊥) → rate_fix_in kind ≡ None
no-rate-by (EventKind.FixRate form) no_fix = absurd (no_fix form refl)
no-rate-by _ no_fix = refl

pub rates-left : (rates : FixedRates) (journal : Journal) (event : Event) → ((form : FixRateForm) → event.kind ≡ EventKind.FixRate form → ⊥) → KeepsRates rates journal → KeepsRates rates (with_event journal event)
rates-left rates journal event no_fix kept = record {
  last = λ q.
      kept.last q
      ∙ ap (λ forms. option_map (λ (f : FixRateForm). f.rate) (last_of (fixes_rate q.class q.moment) forms)) (sym same);
}
  where
    same : each_in rate_fix_in (with_event journal event) ≡ each_in rate_fix_in journal
    same =
        gathers-on rate_fix_in journal event
        ∙ (ap (λ found. each_in rate_fix_in journal ++ option_to_list found) (no-rate-by event.kind no_fix)
        ∙ append-nil (each_in rate_fix_in journal))

-- ---- the numbers

-- the place of an event of a kind is behind those before it
place-taken : (test : EventKind → Bool) (journal : Journal) (event : Event) (place : ℕ) (old new : List ℕ) → place ≡ length journal
    → new ≡ old ++ cond (test event.kind) (place ∷ []) []
    → old ≡ places_from test 0 journal → new ≡ places_from test 0 (with_event journal event)
place-taken test journal event place old new at new_is old_is =
    new_is
    ∙ (ap (λ places. places ++ cond (test event.kind) (place ∷ []) []) old_is
    ∙ (ap (λ n. places_from test 0 journal ++ cond (test event.kind) (n ∷ []) []) at
    ∙ sym (places-more test journal event)))

pub numbers-taken : (old new : Numbers) (journal : Journal) (moment place : ℕ) (kind by : EventKind)
    → kind ≡ by → place ≡ length journal
    → new.calendars ≡ old.calendars + length (option_to_list (calendar_in by))
    → new.classes.items ≡ old.classes.items ++ cond (opens_class by) (place ∷ []) []
    → new.dealers.items ≡ old.dealers.items ++ cond (registers_dealer by) (place ∷ []) []
    → new.households ≡ old.households + length (option_to_list (household_in by))
    → KeepsNumbers old journal → KeepsNumbers new (with_event journal (record { moment = moment; kind = kind }))
numbers-taken old new journal moment place kind by kind_is at calendars classes dealers households kept =
    subst (λ (k : EventKind). KeepsNumbers new (with_event journal (record { moment = moment; kind = k }))) (sym kind_is)
    (record {
      calendars = calendars ∙ gathered-more calendar_in journal (record { moment = moment; kind = by }) old.calendars kept.calendars;
      classes = place-taken opens_class journal (record { moment = moment; kind = by }) place old.classes.items new.classes.items at classes kept.classes;
      dealers = place-taken registers_dealer journal (record { moment = moment; kind = by }) place old.dealers.items new.dealers.items at dealers kept.dealers;
      households = households ∙ gathered-more household_in journal (record { moment = moment; kind = by }) old.households kept.households;
    })

-- an event of no such kind
pub record OpensNone (kind : EventKind) : Type 0 where
  pub calendar : calendar_in kind ≡ None
  pub class : class_in kind ≡ None
  pub dealer : dealer_in kind ≡ None
  pub household : household_in kind ≡ None

pub none-opened : (kind : EventKind)
    → ((form : CalendarForm) → kind ≡ EventKind.Calendar form → ⊥) → ((form : ClassForm) → kind ≡ EventKind.Class form → ⊥)
    → ((form : DealerForm) → kind ≡ EventKind.Dealer form → ⊥) → ((form : HouseholdForm) → kind ≡ EventKind.Household form → ⊥)
    → OpensNone kind
none-opened (EventKind.Calendar form) no_calendar no_class no_dealer no_household = absurd (no_calendar form refl)
none-opened (EventKind.Class form) no_calendar no_class no_dealer no_household = absurd (no_class form refl)
none-opened (EventKind.Dealer form) no_calendar no_class no_dealer no_household = absurd (no_dealer form refl)
none-opened (EventKind.Household form) no_calendar no_class no_dealer no_household = absurd (no_household form refl)
none-opened _ no_calendar no_class no_dealer no_household = record { calendar = refl; class = refl; dealer = refl; household = refl }

same-number : {X : Type 0} (found : Option X) (n : ℕ) → found ≡ None → n ≡ n + length (option_to_list found)
same-number {X} found n none = omega (arith, ap (λ (f : Option X). length (option_to_list f)) none)

no-place : {X : Type 0} (found : Option X) (places : List ℕ) (place : ℕ) → found ≡ None → places ≡ places ++ cond (is_some found) (place ∷ []) []
no-place {X} found places place none = sym (append-nil places) ∙ ap (λ (f : Option X). places ++ cond (is_some f) (place ∷ []) []) (sym none)

pub numbers-left : (numbers : Numbers) (journal : Journal) (moment place : ℕ) (kind : EventKind) → OpensNone kind → place ≡ length journal → KeepsNumbers numbers journal → KeepsNumbers numbers (with_event journal (record { moment = moment; kind = kind }))
numbers-left numbers journal moment place kind none at kept =
    numbers-taken numbers numbers journal moment place kind kind refl at
    (same-number (calendar_in kind) numbers.calendars none.calendar)
    (no-place (class_in kind) numbers.classes.items place none.class)
    (no-place (dealer_in kind) numbers.dealers.items place none.dealer)
    (same-number (household_in kind) numbers.households none.household)
    kept

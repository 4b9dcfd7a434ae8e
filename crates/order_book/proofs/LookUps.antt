-- What look-ups by an identity give of a journal.
use Rattle.std.proofs.Common.{Bool, List, None, Option, Some, [], ap, append-nil, append_assoc, cond, false, find, map, refl, suc, sym, take, true, zero, ℕ, ◌++◌, ◌+◌, ◌==◌, ◌∙◌, ◌∷◌, ◌≡◌, ◌&&◌, ◌||◌}
use Rattle.std.proofs.lemmas.List.{map-append}
use Rattle.std.specs.List.{cons_option, slice_get}
use Rattle.std.specs.Option.{option_map_or, option_or}
use Rattle.std.specs.Prelude.{bytes_eq, option_and_then, option_map}
use Rattle.agent_events.specs.Events.{Event}
use Rattle.agent_events.specs.declared.event.EventKind.{EventKind}
use Rattle.agent_events.specs.declared.order.OrderRow.{OrderRow}
use Rattle.agent_events.specs.declared.request.AccountForm.{AccountForm}
use Rattle.agent_events.specs.declared.request.ClassForm.{ClassForm}
use Rattle.agent_events.specs.declared.request.DealerForm.{DealerForm}
use Rattle.agent_events.specs.declared.request.HouseholdForm.{HouseholdForm}
use Rattle.order_book.specs.Brought.{brings, brings_by, brings_key, dealer_key_in, household_key_in}
use Rattle.order_book.specs.LastPlaces.{is_order_of, last_place, last_place_from}
use Rattle.order_book.specs.Orders.{earlier_from, is_named_for, name_of, names_of}
use Rattle.order_book.specs.declared.identity.Identity.{Identity}
use Rattle.register_laws.specs.Identities.{is_calendar, is_household}
use Rattle.register_machine.specs.journal.Choices.{when}
use Rattle.register_machine.specs.journal.Journals.{Journal}
use Rattle.register_machine.specs.journal.Kinds.{account_in, account_numbered, accounts_of, calendar_in, calendars_of, class_in, class_numbered, classes_of, dealer_in, dealer_numbered, dealers_of, dividend_in, each_in, household_in, households_of}
use Rattle.register_machine.specs.pricing.DividendRates.{declares}
use Rattle.register_machine.specs.rules.Callers.{dealer_with_key, household_with_key}

-- ---- the first event that passes has the fields that are looked for

pub found-in-kind : {X : Type 0} (chosen : EventKind → Option X) (test : X → Bool) (passes : Event → Bool) → ((event : Event) → passes event ≡ option_map_or test (chosen event.kind) false) → (journal : Journal) → find test (each_in chosen journal) ≡ option_and_then (λ event. chosen event.kind) (find passes journal)
found-in-kind chosen test passes alike [] = refl
found-in-kind {X} chosen test passes alike (event ∷ journal) =
    by_found (chosen event.kind) refl (found-in-kind chosen test passes alike journal)
    ∙ ap (λ is. option_and_then (λ (e : Event). chosen e.kind) (cond is (Some event) (find passes journal))) (sym (alike event))
  where
    by_test : (x : X) → chosen event.kind ≡ Some x → (is : Bool) → find test (each_in chosen journal) ≡ option_and_then (λ (e : Event). chosen e.kind) (find passes journal) → cond is (Some x) (find test (each_in chosen journal)) ≡ option_and_then (λ (e : Event). chosen e.kind) (cond is (Some event) (find passes journal))
    by_test x is_x true rest = sym is_x
    by_test x is_x false rest = rest

    by_found : (found : Option X) → chosen event.kind ≡ found → find test (each_in chosen journal) ≡ option_and_then (λ (e : Event). chosen e.kind) (find passes journal) → find test (cons_option found (each_in chosen journal)) ≡ option_and_then (λ (e : Event). chosen e.kind) (cond (option_map_or test (chosen event.kind) false) (Some event) (find passes journal))
    by_found None is rest = rest ∙ ap (λ (f : Option X). option_and_then (λ (e : Event). chosen e.kind) (cond (option_map_or test f false) (Some event) (find passes journal))) (sym is)
    by_found (Some x) is rest = by_test x is (test x) rest ∙ ap (λ (f : Option X). option_and_then (λ (e : Event). chosen e.kind) (cond (option_map_or test f false) (Some event) (find passes journal))) (sym is)

or-false : (b : Bool) → (b || false) ≡ b
or-false true = refl
or-false false = refl

calendar-by : (number : ℕ) (kind : EventKind) → brings_by (Identity.Calendar number) kind ≡ option_map_or (is_calendar number) (calendar_in kind) false
calendar-by number (EventKind.Calendar form) = or-false (form.calendar == number)
calendar-by number _ = refl

pub calendar-found : (journal : Journal) (number : ℕ) → find (is_calendar number) (calendars_of journal) ≡ option_and_then (λ event. calendar_in event.kind) (find (brings (Identity.Calendar number)) journal)
calendar-found journal number = found-in-kind calendar_in (is_calendar number) (brings (Identity.Calendar number)) (λ event. calendar-by number event.kind) journal

class-by : (number : ℕ) (kind : EventKind) → brings_by (Identity.Class number) kind ≡ option_map_or (λ (form : ClassForm). form.class == number) (class_in kind) false
class-by number (EventKind.Class form) = or-false (form.class == number)
class-by number _ = refl

pub class-found : (journal : Journal) (number : ℕ) → class_numbered (classes_of journal) number ≡ option_and_then (λ event. class_in event.kind) (find (brings (Identity.Class number)) journal)
class-found journal number = found-in-kind class_in (λ form. form.class == number) (brings (Identity.Class number)) (λ event. class-by number event.kind) journal

dealer-by : (number : ℕ) (kind : EventKind) → brings_by (Identity.Dealer number) kind ≡ option_map_or (λ (form : DealerForm). form.dealer == number) (dealer_in kind) false
dealer-by number (EventKind.Dealer form) = or-false (form.dealer == number)
dealer-by number _ = refl

pub dealer-found : (journal : Journal) (number : ℕ) → dealer_numbered (dealers_of journal) number ≡ option_and_then (λ event. dealer_in event.kind) (find (brings (Identity.Dealer number)) journal)
dealer-found journal number = found-in-kind dealer_in (λ form. form.dealer == number) (brings (Identity.Dealer number)) (λ event. dealer-by number event.kind) journal

household-by : (number : ℕ) (kind : EventKind) → brings_by (Identity.Household number) kind ≡ option_map_or (is_household number) (household_in kind) false
household-by number (EventKind.Household form) = or-false (form.household == number)
household-by number _ = refl

pub household-found : (journal : Journal) (number : ℕ) → find (is_household number) (households_of journal) ≡ option_and_then (λ event. household_in event.kind) (find (brings (Identity.Household number)) journal)
household-found journal number = found-in-kind household_in (is_household number) (brings (Identity.Household number)) (λ event. household-by number event.kind) journal

account-by : (number : ℕ) (kind : EventKind) → brings_by (Identity.Account number) kind ≡ option_map_or (λ (form : AccountForm). form.account == number) (account_in kind) false
account-by number (EventKind.Account form) = or-false (form.account == number)
account-by number _ = refl

pub account-found : (journal : Journal) (number : ℕ) → account_numbered (accounts_of journal) number ≡ option_and_then (λ event. account_in event.kind) (find (brings (Identity.Account number)) journal)
account-found journal number = found-in-kind account_in (λ form. form.account == number) (brings (Identity.Account number)) (λ event. account-by number event.kind) journal

dividend-by : (class moment : ℕ) (kind : EventKind) → brings_by (Identity.Dividend class moment) kind ≡ option_map_or (declares class moment) (dividend_in kind) false
dividend-by class moment (EventKind.Dividend form) = or-false (form.class == class && form.moment == moment)
dividend-by class moment _ = refl

pub dividend-found : (journal : Journal) (class moment : ℕ) → find (declares class moment) (each_in dividend_in journal) ≡ option_and_then (λ event. dividend_in event.kind) (find (brings (Identity.Dividend class moment)) journal)
dividend-found journal class moment = found-in-kind dividend_in (declares class moment) (brings (Identity.Dividend class moment)) (λ event. dividend-by class moment event.kind) journal

-- ---- by key

household-key-by : (key : List ℕ) (event : Event) → brings_key household_key_in key event ≡ option_map_or (λ (form : HouseholdForm). bytes_eq form.key key) (household_in event.kind) false
household-key-by key event = by_kind event.kind
  where
    by_kind : (kind : EventKind) → option_map_or (λ own. bytes_eq own key) (household_key_in kind) false ≡ option_map_or (λ (form : HouseholdForm). bytes_eq form.key key) (household_in kind) false
    by_kind (EventKind.Household form) = refl
    by_kind _ = refl

pub household-key-found : (journal : Journal) (key : List ℕ) → household_with_key journal key ≡ option_map (λ (form : HouseholdForm). form.household) (option_and_then (λ event. household_in event.kind) (find (brings_key household_key_in key) journal))
household-key-found journal key = ap (option_map (λ (form : HouseholdForm). form.household)) (found-in-kind household_in (λ form. bytes_eq form.key key) (brings_key household_key_in key) (household-key-by key) journal)

dealer-key-by : (key : List ℕ) (event : Event) → brings_key dealer_key_in key event ≡ option_map_or (λ (form : DealerForm). bytes_eq form.key key) (dealer_in event.kind) false
dealer-key-by key event = by_kind event.kind
  where
    by_kind : (kind : EventKind) → option_map_or (λ own. bytes_eq own key) (dealer_key_in kind) false ≡ option_map_or (λ (form : DealerForm). bytes_eq form.key key) (dealer_in kind) false
    by_kind (EventKind.Dealer form) = refl
    by_kind _ = refl

pub dealer-key-found : (journal : Journal) (key : List ℕ) → dealer_with_key journal key ≡ option_map (λ (form : DealerForm). form.dealer) (option_and_then (λ event. dealer_in event.kind) (find (brings_key dealer_key_in key) journal))
dealer-key-found journal key = ap (option_map (λ (form : DealerForm). form.dealer)) (found-in-kind dealer_in (λ form. bytes_eq form.key key) (brings_key dealer_key_in key) (dealer-key-by key) journal)

-- ---- orders of an account

last-of-map : {X Y : Type 0} (test : Y → Bool) (f : X → Y) (place : ℕ) (xs : List X) → last_place_from place test (map f xs) ≡ last_place_from place (λ x. test (f x)) xs
last-of-map test f place [] = refl
last-of-map test f place (x ∷ xs) = ap (λ (found : Option ℕ). option_or found (when (test (f x)) place)) (last-of-map test f (place + 1) xs)

pub last-named : (account : ℕ) (rows : List OrderRow) → last_place (is_named_for account) (names_of rows) ≡ last_place (is_order_of account) rows
last-named account rows = last-of-map (is_named_for account) name_of 0 rows

earlier-at : (before rows : List OrderRow) (index : ℕ) (row : OrderRow) → slice_get rows index ≡ Some row → option_and_then (λ found. found) (slice_get (earlier_from (names_of before) (names_of rows)) index) ≡ last_place (is_named_for row.order.account) (names_of (before ++ take index rows))
earlier-at before [] index row is = cc
earlier-at before (first ∷ rows) zero row is =
    ap (λ (found : Option OrderRow). last_place (is_named_for (option_map_or (λ (r : OrderRow). r.order.account) found 0)) (names_of before)) is
    ∙ ap (λ all. last_place (is_named_for row.order.account) (names_of all)) (sym (append-nil before))
earlier-at before (first ∷ rows) (suc index) row is =
    ap (λ names. option_and_then (λ found. found) (slice_get (earlier_from names (names_of rows)) index)) (sym (map-append name_of before (first ∷ [])))
    ∙ (earlier-at (before ++ first ∷ []) rows index row is
    ∙ ap (λ all. last_place (is_named_for row.order.account) (names_of all)) (append_assoc before (first ∷ []) (take index rows)))

pub earlier-named : (rows : List OrderRow) (index : ℕ) (row : OrderRow) → slice_get rows index ≡ Some row → option_and_then (λ found. found) (slice_get (earlier_from [] (names_of rows)) index) ≡ last_place (is_order_of row.order.account) (take index rows)
earlier-named rows index row is = earlier-at [] rows index row is ∙ last-named row.order.account (take index rows)

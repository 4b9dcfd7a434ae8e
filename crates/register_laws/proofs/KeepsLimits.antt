-- What every lawful journal keeps within limits: each event is brought only where there is room for it.
use Rattle.std.proofs.lemmas.Bool.{leb-false}
use Rattle.std.proofs.Common.{Bool, None, Option, Some, [], ap, arith, cond, count_by, false, length, length-append, nat_le, option_to_list, refl, subst, sym, true, ℕ, ◌&&◌, ◌+◌, ◌<◌, ◌==◌, ◌∙◌, ◌∷◌, ◌≡◌, ◌≤◌}
use Rattle.std.proofs.lemmas.Bool.{eqb-true}
use Rattle.std.proofs.lemmas.List.{length-map}
use Rattle.std.proofs.lemmas.List.Sums.{sum_by-append}
use Rattle.std.specs.Option.{option_map_or}
use Rattle.agent_events.specs.Events.{Event, order_request, request_of}
use Rattle.agent_events.specs.declared.event.EventKind.{EventKind}
use Rattle.agent_events.specs.declared.event.Source.{Source}
use Rattle.agent_events.specs.declared.reply.Refusal.{Refusal}
use Rattle.agent_events.specs.declared.request.AccountForm.{AccountForm}
use Rattle.agent_events.specs.declared.request.Request.{Request}
use Rattle.forward_price.specs.PriceTables.{Table, closed_in}
use Rattle.register_laws.proofs.Choosing.{not_when}
use Rattle.register_laws.proofs.LawfulJournals.{brought, lawful-keeps}
use Rattle.register_laws.proofs.OneEventMore.{gathers-on}
use Rattle.register_laws.proofs.RulesByName.{not_broken}
use Rattle.register_laws.proofs.Runs.{table-one}
use Rattle.register_laws.specs.Lawful.{IsBrought, own_at}
use Rattle.register_laws.specs.LawfulLimits.{KeepsItsLimits}
use Rattle.register_machine.specs.journal.Choices.{when}
use Rattle.register_machine.specs.journal.Journals.{Journal, with_event}
use Rattle.register_machine.specs.journal.Kinds.{account_in, accounts_of, calendar_in, calendars_of, class_in, dealer_in, dealers_of, each_in, household_in, households_of}
use Rattle.register_machine.specs.journal.Lawful.{IsLawful}
use Rattle.register_machine.specs.pricing.PublishedTable.{listing_of, table_behind, table_by, table_of}
use Rattle.register_machine.specs.rules.Identities.{reference_of}
use Rattle.register_machine.specs.rules.InOrder.{Rule, broken_by}
use Rattle.register_machine.specs.rules.Limits.{brings_event, is_of_account, journal_full, most_orders, orders_full, too_many}
use Rattle.register_machine.specs.rules.Sheets.{sheet_fault}
use Rattle.register_machine.specs.rules.Situations.{Situation}

-- ---- one of a kind more

gathered : {X : Type 0} (chosen : EventKind → Option X) (journal : Journal) (event : Event) → length (each_in chosen (with_event journal event)) ≡ length (each_in chosen journal) + length (option_to_list (chosen event.kind))
gathered chosen journal event =
    ap length (gathers-on chosen journal event) ∙ length-append (each_in chosen journal) (option_to_list (chosen event.kind))

room : (number most : ℕ) → when (nat_le most number) (Refusal.TooMany most) ≡ None → number < most
room number most few = leb-false most number (not_when (nat_le most number) (Refusal.TooMany most) few)

calendar-room : (situation : Situation) (kind : EventKind) → too_many situation (request_of kind) ≡ None → length situation.book.table.calendars ≤ 16 → length situation.book.table.calendars + length (option_to_list (calendar_in kind)) ≤ 16
calendar-room situation (EventKind.Calendar form) few old = let less = room (length situation.book.table.calendars) 16 few in omega (arith, less)
calendar-room situation _ few old = omega (arith, old)

class-room : (situation : Situation) (kind : EventKind) → too_many situation (request_of kind) ≡ None → length situation.book.classes ≤ 1000 → length situation.book.classes + length (option_to_list (class_in kind)) ≤ 1000
class-room situation (EventKind.Class form) few old = let less = room (length situation.book.classes) 1000 few in omega (arith, less)
class-room situation _ few old = omega (arith, old)

dealer-room : (situation : Situation) (kind : EventKind) → too_many situation (request_of kind) ≡ None → length (dealers_of situation.journal) ≤ 1000 → length (dealers_of situation.journal) + length (option_to_list (dealer_in kind)) ≤ 1000
dealer-room situation (EventKind.Dealer form) few old = let less = room (length (dealers_of situation.journal)) 1000 few in omega (arith, less)
dealer-room situation _ few old = omega (arith, old)

household-room : (situation : Situation) (kind : EventKind) → too_many situation (request_of kind) ≡ None → length (households_of situation.journal) ≤ 100000 → length (households_of situation.journal) + length (option_to_list (household_in kind)) ≤ 100000
household-room situation (EventKind.Household form) few old = let less = room (length (households_of situation.journal)) 100000 few in omega (arith, less)
household-room situation _ few old = omega (arith, old)

-- the accounts of one household
abbrev is_own : ℕ → AccountForm → Bool
is_own household account = account.household == household

account-room : (situation : Situation) (kind : EventKind) (household : ℕ) → too_many situation (request_of kind) ≡ None → count_by (is_own household) situation.book.accounts ≤ 64 → count_by (is_own household) situation.book.accounts + count_by (is_own household) (option_to_list (account_in kind)) ≤ 64
account-room situation (EventKind.Account form) household few old = by_own (form.household == household) refl
  where
    by_own : (own : Bool) → (form.household == household) ≡ own → count_by (is_own household) situation.book.accounts + (0 + cond own 1 0) ≤ 64
    by_own false is = omega (arith, old)
    by_own true is =
        let less = room (count_by (is_own form.household) situation.book.accounts) 64 few in
        let here = subst (λ h. count_by (is_own h) situation.book.accounts < 64) (eqb-true form.household household is) less in
        omega (arith, here)
account-room situation _ household few old = omega (arith, old)

-- the orders and cancels of one account
order-room : (situation : Situation) (request : Request) (account : ℕ) (named : Option (ℕ × ℕ)) → reference_of request ≡ named → orders_full situation request ≡ None → count_by (is_of_account account) situation.journal ≤ 4096 → count_by (is_of_account account) situation.journal + cond (option_map_or (λ other. other.0 == account) named false) 1 0 ≤ 4096
order-room situation request account None is few old = omega (arith, old)
order-room situation request account (Some named) is few old = by_own (named.0 == account) refl
  where
    less : count_by (is_of_account named.0) situation.journal < 4096
    less =
        leb-false most_orders (count_by (is_of_account named.0) situation.journal)
        (ap (λ found. option_map_or (λ other. nat_le most_orders (count_by (is_of_account other.0) situation.journal)) found false) (sym is)
        ∙ not_when (option_map_or (λ other. nat_le most_orders (count_by (is_of_account other.0) situation.journal)) (reference_of request) false) (Refusal.OrdersFull most_orders) few)

    by_own : (own : Bool) → (named.0 == account) ≡ own → count_by (is_of_account account) situation.journal + cond own 1 0 ≤ 4096
    by_own false own = omega (arith, old)
    by_own true own =
        let here = subst (λ n. count_by (is_of_account n) situation.journal < 4096) (eqb-true named.0 account own) less in
        omega (arith, here)

pub event-brings : (kind : EventKind) → brings_event (request_of kind) ≡ true
event-brings (EventKind.Order placed) = by_source placed.source
  where
    by_source : (from : Source) → brings_event (order_request from placed.receipt placed.order) ≡ true
    by_source Source.Direct = refl
    by_source Source.Dealer = refl
event-brings _ = refl

event-room : (situation : Situation) (kind : EventKind) → journal_full situation (request_of kind) ≡ None → length situation.journal < 100000000
event-room situation kind few =
    leb-false 100000000 (length situation.journal)
    (ap (λ b. b && nat_le 100000000 (length situation.journal)) (sym (event-brings kind))
    ∙ not_when (brings_event (request_of kind) && nat_le 100000000 (length situation.journal)) Refusal.JournalFull few)

-- ---- the calendars of the table are those of the journal

calendars-more : (table : Table) (moment : ℕ) (kind : EventKind) → length (table_by table moment kind).calendars ≡ length table.calendars + length (option_to_list (calendar_in kind))
calendars-more table moment (EventKind.Calendar form) = length-append table.calendars (listing_of form ∷ [])
calendars-more table moment (EventKind.Close form) = let same = length-map table.calendars (closed_in form.calendar form.day) in omega (arith, same)
calendars-more table moment _ = omega arith

-- ---- all of them

limits-more : (journal : Journal) (event : Event) → IsLawful journal → IsBrought journal event → KeepsItsLimits journal × (length (table_of journal).calendars ≡ length (calendars_of journal)) → KeepsItsLimits (with_event journal event) × (length (table_of (with_event journal event)).calendars ≡ length (calendars_of (with_event journal event)))
limits-more journal event lawful brought known = (
  record {
    calendars = subst (λ n. n ≤ 16) (sym (gathered calendar_in journal event))
        (subst (λ n. n + length (option_to_list (calendar_in event.kind)) ≤ 16) known.1
        (calendar-room situation event.kind few (subst (λ n. n ≤ 16) (sym known.1) known.0.calendars)));
    classes = subst (λ n. n ≤ 1000) (sym (gathered class_in journal event)) (class-room situation event.kind few known.0.classes);
    dealers = subst (λ n. n ≤ 1000) (sym (gathered dealer_in journal event)) (dealer-room situation event.kind few known.0.dealers);
    households = subst (λ n. n ≤ 100000) (sym (gathered household_in journal event)) (household-room situation event.kind few known.0.households);
    accounts = λ household. subst (λ n. n ≤ 64) (sym (owned household)) (account-room situation event.kind household few (known.0.accounts household));
    orders = λ account. subst (λ n. n ≤ 4096) (sym (ordered account))
        (order-room situation (request_of event.kind) account (reference_of (request_of event.kind)) refl (rule Rule.OrdersFull) (known.0.orders account));
    events = let less = event-room situation event.kind (rule Rule.JournalFull) in let more = length-append journal (event ∷ []) in omega (arith, less, more);
  },
  ap (λ (table : Table). length table.calendars) (table-one journal event)
      ∙ (calendars-more (table_of journal) event.moment event.kind
      ∙ (ap (λ n. n + length (option_to_list (calendar_in event.kind))) known.1 ∙ sym (gathered calendar_in journal event))),
)
  where
    situation : Situation
    situation = own_at journal event.moment brought.caller

    rule : (rule : Rule) → broken_by (own_at journal event.moment brought.caller) (request_of event.kind) (sheet_fault (own_at journal event.moment brought.caller) (request_of event.kind)) rule ≡ None
    rule = not_broken (own_at journal event.moment brought.caller) (request_of event.kind) brought.clear

    few : too_many (own_at journal event.moment brought.caller) (request_of event.kind) ≡ None
    few = not_broken (own_at journal event.moment brought.caller) (request_of event.kind) brought.clear Rule.TooMany

    owned : (household : ℕ) → count_by (is_own household) (accounts_of (with_event journal event)) ≡ count_by (is_own household) (accounts_of journal) + count_by (is_own household) (option_to_list (account_in event.kind))
    owned household =
        ap (count_by (is_own household)) (gathers-on account_in journal event)
        ∙ sum_by-append (λ account. cond (is_own household account) 1 0) (accounts_of journal) (option_to_list (account_in event.kind))

    ordered : (account : ℕ) → count_by (is_of_account account) (with_event journal event) ≡ count_by (is_of_account account) journal + cond (is_of_account account event) 1 0
    ordered account =
        let more = sum_by-append (λ (e : Event). cond (is_of_account account e) 1 0) journal (event ∷ []) in
        omega (arith, more)

none-yet : length (table_of []).calendars ≡ 0
unfolding table_behind
none-yet = refl

pub limits-kept : (journal : Journal) → IsLawful journal → KeepsItsLimits journal × (length (table_of journal).calendars ≡ length (calendars_of journal))
limits-kept journal lawful =
    lawful-keeps (λ known. KeepsItsLimits known × (length (table_of known).calendars ≡ length (calendars_of known))) limits-more (
      record {
        calendars = omega arith;
        classes = omega arith;
        dealers = omega arith;
        households = omega arith;
        accounts = λ household. omega arith;
        orders = λ account. omega arith;
        events = omega arith;
      },
      none-yet,
    ) journal lawful

pub keeps_its_limits : (journal : Journal) → IsLawful journal → KeepsItsLimits journal
keeps_its_limits journal lawful = (limits-kept journal lawful).0

-- its price table has as many calendars as were brought
pub calendars_counted : (journal : Journal) → IsLawful journal → length (table_of journal).calendars ≡ length (calendars_of journal)
calendars_counted journal lawful = (limits-kept journal lawful).1

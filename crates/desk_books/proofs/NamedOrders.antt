-- The orders that an event names stand.
use Rattle.std.proofs.Common.{Bool, List, None, Option, Some, ap, is_some, refl, slice_get, sym, true, ℕ, ◌&&◌, ◌==◌, ◌∙◌, ◌≡◌}
use Rattle.std.proofs.lemmas.Bool.{and_from, and_parts, eqb-true, true≢false}
use Rattle.std.specs.List.{list_all, position}
use Rattle.std.specs.Prelude.{option_and_then}
use Rattle.agent_events.specs.Events.{Event, request_of}
use Rattle.agent_events.specs.declared.event.EventKind.{EventKind}
use Rattle.agent_events.specs.declared.event.Placed.{Placed}
use Rattle.agent_events.specs.declared.event.Source.{Source}
use Rattle.agent_events.specs.declared.order.Order.{Order}
use Rattle.agent_events.specs.declared.order.OrderRow.{OrderRow}
use Rattle.agent_events.specs.declared.request.EntryForm.{EntryForm}
use Rattle.agent_events.specs.declared.verdict.Caller.{Caller}
use Rattle.desk_books.specs.OrderChanges.{ChangesOrders, NamesItsOrder}
use Rattle.desk_books.specs.declared.change.OrderChange.{OrderChange}
use Rattle.order_book.proofs.Places.{find-at-position}
use Rattle.fund_calendar.proofs.LookUpLemmas.{find_passes}
use Rattle.ledger_laws.proofs.HouseholdBooks.{owner-there}
use Rattle.register_laws.proofs.Comparisons.{eq-yes}
use Rattle.register_laws.proofs.FitsRows.{names_what_stands}
use Rattle.register_laws.specs.Lawful.{own_at}
use Rattle.register_machine.specs.journal.Journals.{Journal, with_event}
use Rattle.register_machine.specs.journal.Kinds.{account_numbered, accounts_of}
use Rattle.register_machine.specs.journal.Lawful.{IsLawful}
use Rattle.register_machine.specs.pricing.CorrectedOrders.{is_named, order_named, orders_of, replaces}
use Rattle.register_machine.specs.rules.NamedThings.{things_named}
use Rattle.register_machine.specs.rules.Situations.{Situation}

-- the first, the second and the third of what is there
first-there : (a b : Bool) → (a && b) ≡ true → a ≡ true
first-there a b all = (and_parts a b all).0

rest-there : (a b : Bool) → (a && b) ≡ true → b ≡ true
rest-there a b all = (and_parts a b all).1

-- Each order's account stands before it, and so does an order that is replaced.
pub names_its_order : (journal : Journal) (event : Event) → IsLawful (with_event journal event) → NamesItsOrder journal event.kind
names_its_order journal event lawful = by_kind event.kind (names_what_stands journal event lawful)
  where
    situation : Situation
    situation = own_at journal event.moment Caller.Operator

    AllThere : EventKind → Type 0
    AllThere kind = list_all (λ (field : ℕ × Bool). field.1) (things_named situation (request_of kind)) ≡ true

    by_source : (placed : Placed) (source : Source) → source ≡ placed.source → AllThere (EventKind.Order (record { order = placed.order; source = source; receipt = placed.receipt; due = placed.due })) → is_some (account_numbered (accounts_of journal) placed.order.account) ≡ true
    by_source placed Source.Direct e all = first-there _ _ all
    by_source placed Source.Dealer e all = first-there _ _ all

    by_kind : (kind : EventKind) → AllThere kind → NamesItsOrder journal kind
    by_kind (EventKind.Order placed) all =
        owner-there (account_numbered (accounts_of journal) placed.order.account) (by_source placed placed.source refl all)
    by_kind (EventKind.Enter form) all =
        owner-there (account_numbered (accounts_of journal) form.order.account) (first-there _ _ (rest-there _ _ all))
    by_kind (EventKind.Replace form) all = first-there _ _ (rest-there _ _ (rest-there _ _ all))
    by_kind _ all = tt

-- ---- the place of an order

found-at : (rows : List OrderRow) (account ref_no : ℕ) (found : Option ℕ) → position (λ row. is_named account ref_no row.order) rows ≡ found → order_named rows account ref_no ≡ option_and_then (slice_get rows) found
found-at rows account ref_no found e =
    find-at-position (λ (row : OrderRow). is_named account ref_no row.order) rows ∙ ap (option_and_then (slice_get rows)) e

-- an order that stands has a place
pub has_place : (rows : List OrderRow) (account ref_no : ℕ) → is_some (order_named rows account ref_no) ≡ true → position (λ row. is_named account ref_no row.order) rows ≡ None → ⊥
has_place rows account ref_no there e =
    true≢false (sym there ∙ ap is_some (found-at rows account ref_no None e))

-- what one name is for another
same-name : (account ref_no : ℕ) (order : Order) (form : EntryForm) → form.order.account ≡ account → form.order.ref_no ≡ ref_no → is_named account ref_no order ≡ true → replaces order form ≡ true
same-name account ref_no order form same_account same_ref named =
    let parts = and_parts (order.account == account) (order.ref_no == ref_no) named in
    and_from (form.order.account == order.account) (form.order.ref_no == order.ref_no)
    (eq-yes form.order.account order.account (same_account ∙ sym (eqb-true order.account account parts.0)))
    (eq-yes form.order.ref_no order.ref_no (same_ref ∙ sym (eqb-true order.ref_no ref_no parts.1)))

-- an order that a replacement names, at its place
pub record IsReplaced (rows : List OrderRow) (form : EntryForm) (place : ℕ) : Type 0 where
  pub row : OrderRow
  pub got : slice_get rows place ≡ Some row
  pub replaces : replaces row.order form ≡ true

pub is_replaced : (rows : List OrderRow) (form : EntryForm) (place : ℕ) → is_some (order_named rows form.order.account form.order.ref_no) ≡ true → position (λ row. is_named form.order.account form.order.ref_no row.order) rows ≡ Some place → IsReplaced rows form place
is_replaced rows form place there e =
    by_found (order_named rows form.order.account form.order.ref_no) refl there
  where
    at : order_named rows form.order.account form.order.ref_no ≡ option_and_then (slice_get rows) (Some place)
    at = found-at rows form.order.account form.order.ref_no (Some place) e

    by_found : (found : Option OrderRow) → order_named rows form.order.account form.order.ref_no ≡ found → is_some found ≡ true → IsReplaced rows form place
    by_found None is there = absurd (true≢false (sym there))
    by_found (Some row) is there = record {
      row = row;
      got = sym at ∙ is;
      replaces =
          same-name form.order.account form.order.ref_no row.order form refl refl
          (find_passes (λ (r : OrderRow). is_named form.order.account form.order.ref_no r.order) rows row is);
    }

-- By its numbers an order that is replaced has its place.
pub changes_replaced : (journal : Journal) (form : EntryForm) (account ref_no place : ℕ) → account ≡ form.order.account → ref_no ≡ form.order.ref_no → NamesItsOrder journal (EventKind.Replace form) → position (λ row. is_named account ref_no row.order) (orders_of journal) ≡ Some place → ChangesOrders journal (EventKind.Replace form) (OrderChange.Replaces place)
changes_replaced journal form account ref_no place same_account same_ref there e =
    let found =
    is_replaced (orders_of journal) form place there
    (sym (ap (λ a. position (λ (row : OrderRow). is_named a ref_no row.order) (orders_of journal)) same_account
    ∙ ap (λ r. position (λ (row : OrderRow). is_named form.order.account r row.order) (orders_of journal)) same_ref)
    ∙ e) in
    (place, found.row, found.got, found.replaces, refl)

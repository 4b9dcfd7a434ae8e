-- What a book finds in its indexes.
use Rattle.std.proofs.Common.{All, Bool, List, None, Option, Some, [], ap, cond, false, find, length, nat_eq, refl, subst, suc, sym, take, true, ℕ, ◌++◌, ◌+◌, ◌<◌, ◌∙◌, ◌∷◌, ◌≡◌}
use Rattle.std.proofs.lemmas.Bool.{leb-true}
use Rattle.std.proofs.lemmas.List.Elements.{All-cons, All-head, All-nil, All-tail}
use Rattle.std.specs.HashMap.{get}
use Rattle.std.specs.List.{cons_option, position, slice_get}
use Rattle.std.specs.Prelude.{is_some, nat_le, option_and_then}
use Rattle.agent_events.specs.Events.{Event}
use Rattle.agent_events.specs.declared.event.EventKind.{EventKind}
use Rattle.agent_events.specs.declared.order.OrderRow.{OrderRow}
use Rattle.order_book.proofs.LookUps.{earlier-named, last-named}
use Rattle.order_book.proofs.NumbersTaken.{got-in-order}
use Rattle.order_book.proofs.OrdersTaken.{position-of-map}
use Rattle.order_book.proofs.Places.{find-at-position}
use Rattle.order_book.specs.Brought.{brings, brings_key}
use Rattle.order_book.specs.Indexes.{place_of, place_of_key}
use Rattle.order_book.specs.Kept.{KeepsKeys, KeepsPlaces}
use Rattle.order_book.specs.LastPlaces.{is_order_of, last_place, places_from}
use Rattle.order_book.specs.Numbers.{KeepsNumbers}
use Rattle.order_book.specs.Orders.{KeepsOrders, name_of, names_of, same_name}
use Rattle.order_book.specs.declared.identities.Identities.{Identities}
use Rattle.order_book.specs.declared.identity.Identity.{Identity}
use Rattle.order_book.specs.declared.keys.Keys.{Keys}
use Rattle.order_book.specs.declared.numbers.Numbers.{Numbers}
use Rattle.order_book.specs.declared.order_index.OrderName.{OrderName}
use Rattle.order_book.specs.declared.orders.Orders.{Orders}
use Rattle.register_machine.specs.journal.Journals.{Journal}
use Rattle.register_machine.specs.journal.Kinds.{class_in, classes_of, dealer_in, dealers_of, each_in}
use Rattle.register_machine.specs.pricing.CorrectedOrders.{is_named, order_named, orders_of}

pub got-first : (identities : Identities) (events : List Event) (journal : Journal) (identity : Identity) (found : Option ℕ)
    → events ≡ journal → KeepsPlaces identities events → found ≡ place_of identities identity
    → find (brings identity) journal ≡ option_and_then (slice_get events) found
got-first identities events journal identity found events_are kept found_is =
    ap (find (brings identity)) (sym events_are)
    ∙ (find-at-position (brings identity) events
    ∙ ap (option_and_then (slice_get events)) (sym (kept.places identity) ∙ sym found_is))

pub got-key : (chosen : EventKind → Option (List ℕ)) (keys : Keys) (events : List Event) (journal : Journal) (key : List ℕ) (found : Option ℕ)
    → events ≡ journal → KeepsKeys chosen keys events → found ≡ cond (nat_le (length key) 64) (place_of_key keys key) None
    → find (brings_key chosen key) journal ≡ option_and_then (slice_get events) found
got-key chosen keys events journal key found events_are kept found_is =
    ap (find (brings_key chosen key)) (sym events_are)
    ∙ (find-at-position (brings_key chosen key) events
    ∙ ap (option_and_then (slice_get events)) (by_length (nat_le (length key) 64) refl ∙ sym found_is))
  where
    by_length : (is : Bool) → nat_le (length key) 64 ≡ is → position (brings_key chosen key) events ≡ cond is (place_of_key keys key) None
    by_length true e = sym (kept.places key (leb-true (length key) 64 e))
    by_length false e = kept.long key e

pub got-order : (orders : Orders) (events : List Event) (journal : Journal) (account ref_no : ℕ) (found : Option ℕ)
    → events ≡ journal → KeepsOrders orders events → found ≡ get same_name orders.index.places (record { account = account; ref_no = ref_no })
    → order_named (orders_of journal) account ref_no ≡ option_and_then (slice_get orders.rows.items) found
got-order orders events journal account ref_no found events_are kept found_is =
    ap (λ rows. order_named rows account ref_no) (sym (kept.rows ∙ ap orders_of events_are))
    ∙ (find-at-position (λ (row : OrderRow). is_named account ref_no row.order) orders.rows.items
    ∙ ap (option_and_then (slice_get orders.rows.items))
    (sym (position-of-map (λ (name : OrderName). same_name name (record { account = account; ref_no = ref_no })) name_of orders.rows.items)
    ∙ (sym (kept.names.places (record { account = account; ref_no = ref_no })) ∙ sym found_is)))

pub got-order-place : (orders : Orders) (events : List Event) (journal : Journal) (account ref_no : ℕ) (found : Option ℕ)
    → events ≡ journal → KeepsOrders orders events → found ≡ get same_name orders.index.places (record { account = account; ref_no = ref_no })
    → found ≡ position (λ row. is_named account ref_no row.order) (orders_of journal)
got-order-place orders events journal account ref_no found events_are kept found_is =
    found_is
    ∙ (kept.names.places (record { account = account; ref_no = ref_no })
    ∙ (position-of-map (λ (name : OrderName). same_name name (record { account = account; ref_no = ref_no })) name_of orders.rows.items
    ∙ ap (position (λ (row : OrderRow). is_named account ref_no row.order)) (kept.rows ∙ ap orders_of events_are)))

pub got-last : (orders : Orders) (events : List Event) (journal : Journal) (account : ℕ) (found : Option ℕ)
    → events ≡ journal → KeepsOrders orders events → found ≡ get nat_eq orders.index.last account
    → found ≡ last_place (is_order_of account) (orders_of journal)
got-last orders events journal account found events_are kept found_is =
    found_is
    ∙ (kept.names.last account
    ∙ (last-named account orders.rows.items
    ∙ ap (last_place (is_order_of account)) (kept.rows ∙ ap orders_of events_are)))

pub got-earlier : (orders : Orders) (events : List Event) (journal : Journal) (index : ℕ) (found : Option ℕ)
    → events ≡ journal → KeepsOrders orders events → found ≡ option_and_then (λ found. found) (slice_get orders.index.earlier.items index)
    → (row : OrderRow) → slice_get (orders_of journal) index ≡ Some row
    → found ≡ last_place (is_order_of row.order.account) (take index (orders_of journal))
got-earlier orders events journal index found events_are kept found_is row row_is =
    found_is
    ∙ (ap (λ (places : List (Option ℕ)). option_and_then (λ f. f) (slice_get places index)) kept.names.earlier
    ∙ (earlier-named orders.rows.items index row (ap (λ rows. slice_get rows index) rows_are ∙ row_is)
    ∙ ap (λ rows. last_place (is_order_of row.order.account) (take index rows)) rows_are))
  where
    rows_are : orders.rows.items ≡ orders_of journal
    rows_are = kept.rows ∙ ap orders_of events_are

references-of-names : (rows : List OrderRow) → All (λ (name : OrderName). 0 < name.ref_no) (names_of rows) → All (λ (row : OrderRow). 0 < row.order.ref_no) rows
references-of-names [] above = All-nil (λ (row : OrderRow). 0 < row.order.ref_no)
references-of-names (row ∷ rows) above =
    All-cons (λ (own : OrderRow). 0 < own.order.ref_no) row rows (All-head (λ (name : OrderName). 0 < name.ref_no) (name_of row) (names_of rows) above)
    (references-of-names rows (All-tail (λ (name : OrderName). 0 < name.ref_no) (name_of row) (names_of rows) above))

pub references-above : (orders : Orders) (events : List Event) (journal : Journal)
    → events ≡ journal → KeepsOrders orders events → All (λ (row : OrderRow). 0 < row.order.ref_no) (orders_of journal)
references-above orders events journal events_are kept =
    subst (λ (rows : List OrderRow). All (λ (row : OrderRow). 0 < row.order.ref_no) rows) (kept.rows ∙ ap orders_of events_are)
    (references-of-names orders.rows.items kept.references)

places-length : {X : Type 0} (chosen : EventKind → Option X) (place : ℕ) (journal : Journal) → length (places_from (λ kind. is_some (chosen kind)) place journal) ≡ length (each_in chosen journal)
places-length chosen place [] = refl
places-length {X} chosen place (event ∷ journal) = by_found (chosen event.kind) (places-length chosen (place + 1) journal)
  where
    by_found : (found : Option X) → length (places_from (λ kind. is_some (chosen kind)) (place + 1) journal) ≡ length (each_in chosen journal) → length (cond (is_some found) (place ∷ []) [] ++ places_from (λ kind. is_some (chosen kind)) (place + 1) journal) ≡ length (cons_option found (each_in chosen journal))
    by_found None rest = rest
    by_found (Some x) rest = ap (λ n. suc n) rest

pub got-classes : (numbers : Numbers) (events : List Event) (journal : Journal) → events ≡ journal → KeepsNumbers numbers events → length numbers.classes.items ≡ length (classes_of journal)
got-classes numbers events journal events_are kept =
    ap length kept.classes ∙ (places-length class_in 0 events ∙ ap (λ es. length (classes_of es)) events_are)

pub got-dealers : (numbers : Numbers) (events : List Event) (journal : Journal) → events ≡ journal → KeepsNumbers numbers events → length numbers.dealers.items ≡ length (dealers_of journal)
got-dealers numbers events journal events_are kept =
    ap length kept.dealers ∙ (places-length dealer_in 0 events ∙ ap (λ es. length (dealers_of es)) events_are)

-- what a kept place of a kind gives is the item of that kind at that index
got-at : {X : Type 0} (chosen : EventKind → Option X) (places : List ℕ) (events : List Event) (journal : Journal) (index : ℕ) → events ≡ journal → places ≡ places_from (λ kind. is_some (chosen kind)) 0 events
    → slice_get (each_in chosen journal) index ≡ option_and_then (λ place. option_and_then (λ event. chosen event.kind) (slice_get events place)) (slice_get places index)
got-at chosen places events journal index events_are places_are =
    ap (λ es. slice_get (each_in chosen es) index) (sym events_are)
    ∙ (got-in-order chosen events index
    ∙ ap (λ ps. option_and_then (λ place. option_and_then (λ (event : Event). chosen event.kind) (slice_get events place)) (slice_get ps index)) (sym places_are))

pub got-class : (numbers : Numbers) (events : List Event) (journal : Journal) (index : ℕ) → events ≡ journal → KeepsNumbers numbers events
    → slice_get (classes_of journal) index ≡ option_and_then (λ place. option_and_then (λ event. class_in event.kind) (slice_get events place)) (slice_get numbers.classes.items index)
got-class numbers events journal index events_are kept = got-at class_in numbers.classes.items events journal index events_are kept.classes

pub got-dealer : (numbers : Numbers) (events : List Event) (journal : Journal) (index : ℕ) → events ≡ journal → KeepsNumbers numbers events
    → slice_get (dealers_of journal) index ≡ option_and_then (λ place. option_and_then (λ event. dealer_in event.kind) (slice_get events place)) (slice_get numbers.dealers.items index)
got-dealer numbers events journal index events_are kept = got-at dealer_in numbers.dealers.items events journal index events_are kept.dealers

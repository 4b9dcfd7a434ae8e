-- The orders once an event is taken in that begins, strikes or replaces one.
use Rattle.std.proofs.Common.{All, Bool, List, None, Option, Some, [], ap, arith, cond, false, filter, find, is_none, is_some, length, map, refl, subst, suc, sym, true, zero, ℕ, ◌&&◌, ◌++◌, ◌+◌, ◌<◌, ◌==◌, ◌∙◌, ◌∷◌, ◌≡◌, ◌≤◌}
use Rattle.std.proofs.lemmas.Bool.{and_parts, eqb-false, eqb-true}
use Rattle.std.proofs.lemmas.Iterator.Adapters.{position_from-zero}
use Rattle.std.proofs.lemmas.List.{map-append}
use Rattle.std.proofs.lemmas.List.Elements.{All-push}
use Rattle.std.specs.HashMap.{get}
use Rattle.std.specs.List.{list_any, position, position_from, slice_index_or, slice_set}
use Rattle.std.specs.Prelude.{option_map}
use Rattle.agent_events.specs.Events.{Event}
use Rattle.agent_events.specs.declared.event.EventKind.{EventKind}
use Rattle.agent_events.specs.declared.event.Placed.{Placed}
use Rattle.agent_events.specs.declared.order.Order.{Order}
use Rattle.agent_events.specs.declared.order.OrderRow.{OrderRow}
use Rattle.agent_events.specs.declared.request.CancelForm.{CancelForm}
use Rattle.agent_events.specs.declared.request.EntryForm.{EntryForm}
use Rattle.agent_events.specs.declared.request.VoidForm.{VoidForm}
use Rattle.order_book.specs.Books.{Fits, is_new_order}
use Rattle.order_book.specs.Orders.{HasOrderRoom, KeepsNames, KeepsOrders, as_replaced, as_struck, changed_at, changed_where, name_of, names_of, same_name}
use Rattle.order_book.specs.declared.order_index.OrderIndex.{OrderIndex}
use Rattle.order_book.specs.declared.order_index.OrderName.{OrderName}
use Rattle.order_book.specs.declared.orders.Orders.{Orders}
use Rattle.register_laws.proofs.Choosing.{at_most_one}
use Rattle.register_laws.proofs.Comparisons.{eq-no, eq-yes}
use Rattle.register_laws.proofs.OrdersGoOn.{orders_go_on}
use Rattle.register_laws.proofs.Tests.{any-of-map, find-any}
use Rattle.register_laws.specs.OneEventMore.{begins_untouched, orders_after, replaced_by, struck_by}
use Rattle.register_machine.specs.journal.Journals.{Journal, with_event}
use Rattle.register_machine.specs.pricing.CorrectedOrders.{is_named, order_named, orders_of, replaces, row_as_sent}

-- ---- an item changed at a place

pub set-changed : {X : Type 0} (change : X → X) (place : ℕ) (xs : List X) (d : X) → place < length xs → slice_set xs place (change (slice_index_or xs place d)) ≡ changed_at change place xs
set-changed change place [] d within = absurd (omega arith)
set-changed change zero (x ∷ xs) d within = refl
set-changed change (suc place) (x ∷ xs) d within = ap (λ later. x ∷ later) (set-changed change place xs d (omega arith))

pub changed-past : {X : Type 0} (change : X → X) (place : ℕ) (xs : List X) → length xs ≤ place → xs ≡ changed_at change place xs
changed-past change place [] past = refl
changed-past change zero (x ∷ xs) past = absurd (omega arith)
changed-past change (suc place) (x ∷ xs) past = ap (λ later. x ∷ later) (changed-past change place xs (omega arith))

-- ---- where at most one passes, to change each that passes is to change the first

from-later : {X : Type 0} (test : X → Bool) (place : ℕ) (xs : List X) → position_from test (place + 1) xs ≡ option_map suc (position_from test place xs)
from-later test place [] = refl
from-later {X} test place (x ∷ xs) = by_test (test x) (from-later test (place + 1) xs)
  where
    at : place + 1 ≡ suc place
    at = omega arith

    by_test : (is : Bool) → position_from test (place + 1 + 1) xs ≡ option_map suc (position_from test (place + 1) xs) → cond is (Some (place + 1)) (position_from test (place + 1 + 1) xs) ≡ option_map suc (cond is (Some place) (position_from test (place + 1) xs))
    by_test true rest = ap Some at
    by_test false rest = rest

none-changes : {X : Type 0} (test : X → Bool) (change : X → X) (xs : List X) → length (filter test xs) ≡ 0 → map (λ x. cond (test x) (change x) x) xs ≡ xs
none-changes test change [] none = refl
none-changes {X} test change (x ∷ xs) none = by_test (test x) (none-changes test change xs) none
  where
    by_test : (is : Bool) → (length (filter test xs) ≡ 0 → map (λ y. cond (test y) (change y) y) xs ≡ xs) → length (cond is (x ∷ filter test xs) (filter test xs)) ≡ 0 → cond is (change x) x ∷ map (λ y. cond (test y) (change y) y) xs ≡ x ∷ xs
    by_test true rest e = absurd (omega arith)
    by_test false rest e = ap (λ later. x ∷ later) (rest e)

changed-from : {X : Type 0} (test : X → Bool) (change : X → X) (xs : List X) → length (filter test xs) ≤ 1 → map (λ x. cond (test x) (change x) x) xs ≡ changed_where change (position_from test 0 xs) xs
changed-from test change [] once = refl
changed-from {X} test change (x ∷ xs) once =
    by_test (test x) (changed-from test change xs) once
    ∙ ap (λ (later : Option ℕ). changed_where change (cond (test x) (Some 0) later) (x ∷ xs)) (sym (from-later test 0 xs))
  where
    later : (found : Option ℕ) → x ∷ changed_where change found xs ≡ changed_where change (option_map suc found) (x ∷ xs)
    later None = refl
    later (Some place) = refl

    by_test : (is : Bool) → (length (filter test xs) ≤ 1 → map (λ y. cond (test y) (change y) y) xs ≡ changed_where change (position_from test 0 xs) xs) → length (cond is (x ∷ filter test xs) (filter test xs)) ≤ 1 → cond is (change x) x ∷ map (λ y. cond (test y) (change y) y) xs ≡ changed_where change (cond is (Some 0) (option_map suc (position_from test 0 xs))) (x ∷ xs)
    by_test true rest few = ap (λ more. change x ∷ more) (none-changes test change xs (omega arith))
    by_test false rest few = ap (λ more. x ∷ more) (rest few) ∙ later (position_from test 0 xs)

pub changed-once : {X : Type 0} (test : X → Bool) (change : X → X) (xs : List X) → length (filter test xs) ≤ 1 → map (λ x. cond (test x) (change x) x) xs ≡ changed_where change (position test xs) xs
changed-once test change xs once =
    changed-from test change xs once ∙ ap (λ (found : Option ℕ). changed_where change found xs) (sym (position_from-zero test xs))

-- ---- over names and over rows

from-of-map : {X Y : Type 0} (test : Y → Bool) (f : X → Y) (place : ℕ) (xs : List X) → position_from test place (map f xs) ≡ position_from (λ x. test (f x)) place xs
from-of-map test f place [] = refl
from-of-map test f place (x ∷ xs) = ap (λ (later : Option ℕ). cond (test (f x)) (Some place) later) (from-of-map test f (place + 1) xs)

pub position-of-map : {X Y : Type 0} (test : Y → Bool) (f : X → Y) (xs : List X) → position test (map f xs) ≡ position (λ x. test (f x)) xs
position-of-map test f xs =
    position_from-zero test (map f xs) ∙ (from-of-map test f 0 xs ∙ sym (position_from-zero (λ x. test (f x)) xs))

filter-of-map : {X Y : Type 0} (test : Y → Bool) (f : X → Y) (xs : List X) → length (filter test (map f xs)) ≡ length (filter (λ x. test (f x)) xs)
filter-of-map test f [] = refl
filter-of-map {X} {Y} test f (x ∷ xs) = by_test (test (f x)) (filter-of-map test f xs)
  where
    by_test : (is : Bool) → length (filter test (map f xs)) ≡ length (filter (λ y. test (f y)) xs) → length (cond is (f x ∷ filter test (map f xs)) (filter test (map f xs))) ≡ length (cond is (x ∷ filter (λ y. test (f y)) xs) (filter (λ y. test (f y)) xs))
    by_test true rest = ap (λ n. suc n) rest
    by_test false rest = rest

names-kept : (change : OrderRow → OrderRow) (rows : List OrderRow) → ((row : OrderRow) → name_of (change row) ≡ name_of row) → names_of (map change rows) ≡ names_of rows
names-kept change [] same = refl
names-kept change (row ∷ rows) same =
    ap (λ name. name ∷ names_of (map change rows)) (same row) ∙ ap (λ later. name_of row ∷ later) (names-kept change rows same)

same-length : (rows : List OrderRow) → length rows ≡ length (names_of rows)
same-length [] = refl
same-length (row ∷ rows) = ap (λ n. suc n) (same-length rows)

-- ---- an order more

not-found : {X : Type 0} (test : X → Bool) (xs : List X) → is_none (find test xs) ≡ true → list_any test xs ≡ false
not-found {X} test xs none = sym (find-any test xs) ∙ by_found (find test xs) none
  where
    by_found : (found : Option X) → is_none found ≡ true → is_some found ≡ false
    by_found None e = refl
    by_found (Some x) e = cc

pub order-begun : (old new : Orders) (journal : Journal) (event : Event) (row : OrderRow)
    → new.rows.items ≡ old.rows.items ++ row ∷ []
    → ((names : List OrderName) → length old.rows.items ≡ length names → KeepsNames old.index names → KeepsNames new.index (names ++ name_of row ∷ []))
    → KeepsOrders old journal → begins_untouched journal event.kind ≡ true
    → is_none (order_named (orders_of journal) row.order.account row.order.ref_no) ≡ true
    → orders_after (length journal) (orders_of journal) event.kind ≡ orders_of journal ++ row ∷ []
    → 0 < row.order.ref_no
    → KeepsOrders new (with_event journal event)
order-begun old new journal event row pushed named kept untouched new_name after above = record {
  rows = pushed ∙ (ap (λ (rows : List OrderRow). rows ++ row ∷ []) kept.rows ∙ (sym after ∙ sym (orders_go_on journal event untouched)));
  names = subst (λ (names : List OrderName). KeepsNames new.index names) (sym names_are) (named (names_of old.rows.items) (same-length old.rows.items) kept.names);
  once = λ q. subst (λ (names : List OrderName). length (filter (λ name. same_name name q) names) ≤ 1) (sym names_are)
      (at_most_one (λ name. same_name name q) (names_of old.rows.items) (name_of row) (kept.once q) (none_before q));
  references = subst (λ (names : List OrderName). All (λ (name : OrderName). 0 < name.ref_no) names) (sym names_are)
      (All-push (λ (name : OrderName). 0 < name.ref_no) (names_of old.rows.items) (name_of row) kept.references above);
}
  where
    names_are : names_of new.rows.items ≡ names_of old.rows.items ++ name_of row ∷ []
    names_are = ap names_of pushed ∙ map-append name_of old.rows.items (row ∷ [])

    none_before : (q : OrderName) → same_name (name_of row) q ≡ true → list_any (λ name. same_name name q) (names_of old.rows.items) ≡ false
    none_before q same =
        let both = and_parts (row.order.account == q.account) (row.order.ref_no == q.ref_no) same in
        any-of-map (λ (name : OrderName). same_name name q) name_of old.rows.items
        ∙ (ap (list_any (λ (other : OrderRow). is_named q.account q.ref_no other.order)) kept.rows
        ∙ (ap (λ account. list_any (λ (other : OrderRow). is_named account q.ref_no other.order) (orders_of journal)) (sym (eqb-true row.order.account q.account both.0))
        ∙ (ap (λ ref_no. list_any (λ (other : OrderRow). is_named row.order.account ref_no other.order) (orders_of journal)) (sym (eqb-true row.order.ref_no q.ref_no both.1))
        ∙ not-found (λ (other : OrderRow). is_named row.order.account row.order.ref_no other.order) (orders_of journal) new_name)))

-- ---- an order changed

pub order-changed : (old new : Orders) (journal : Journal) (event : Event) (name : OrderName) (change : OrderRow → OrderRow) (test : OrderRow → Bool)
    → new.rows.items ≡ changed_where change (get same_name old.index.places name) old.rows.items
    → new.index ≡ old.index
    → KeepsOrders old journal → begins_untouched journal event.kind ≡ true
    → ((row : OrderRow) → test row ≡ same_name (name_of row) name)
    → ((row : OrderRow) → name_of (cond (test row) (change row) row) ≡ name_of row)
    → orders_after (length journal) (orders_of journal) event.kind ≡ map (λ row. cond (test row) (change row) row) (orders_of journal)
    → KeepsOrders new (with_event journal event)
order-changed old new journal event name change test rows_are index_is kept untouched by_name same after = record {
  rows = as_mapped ∙ (ap (map (λ row. cond (test row) (change row) row)) kept.rows ∙ (sym after ∙ sym (orders_go_on journal event untouched)));
  names = subst (λ (index : OrderIndex). KeepsNames index (names_of new.rows.items)) (sym index_is)
      (subst (λ (names : List OrderName). KeepsNames old.index names) (sym names_are) kept.names);
  once = λ q. subst (λ (names : List OrderName). length (filter (λ other. same_name other q) names) ≤ 1) (sym names_are) (kept.once q);
  references = subst (λ (names : List OrderName). All (λ (other : OrderName). 0 < other.ref_no) names) (sym names_are) kept.references;
}
  where
    tests_are : test ≡ (λ (row : OrderRow). same_name (name_of row) name)
    tests_are = λ i row. by_name row i

    place_is : get same_name old.index.places name ≡ position test old.rows.items
    place_is =
        kept.names.places name
        ∙ (position-of-map (λ (other : OrderName). same_name other name) name_of old.rows.items
        ∙ ap (λ (passes : OrderRow → Bool). position passes old.rows.items) (sym tests_are))

    few : length (filter test old.rows.items) ≤ 1
    few =
        subst (λ (passes : OrderRow → Bool). length (filter passes old.rows.items) ≤ 1) (sym tests_are)
        (subst (λ n. n ≤ 1) (filter-of-map (λ (other : OrderName). same_name other name) name_of old.rows.items) (kept.once name))

    as_mapped : new.rows.items ≡ map (λ row. cond (test row) (change row) row) old.rows.items
    as_mapped =
        rows_are
        ∙ (ap (λ (found : Option ℕ). changed_where change found old.rows.items) place_is
        ∙ sym (changed-once test change old.rows.items few))

    names_are : names_of new.rows.items ≡ names_of old.rows.items
    names_are = ap names_of as_mapped ∙ names-kept (λ row. cond (test row) (change row) row) old.rows.items same

-- ---- room

pub fewer-rows : (orders : Orders) (n : ℕ) → HasOrderRoom orders (n + 1) → HasOrderRoom orders n
fewer-rows orders n room = record {
  rows = omega (arith, room.rows);
  names = record { places = omega (arith, room.names.places); last = omega (arith, room.names.last); earlier = omega (arith, room.names.earlier) };
}

-- ---- by the kind of the event

eq-comm : (a b : ℕ) → (a == b) ≡ (b == a)
eq-comm a b = by_test (b == a) refl
  where
    by_test : (is : Bool) → (b == a) ≡ is → (a == b) ≡ is
    by_test true e = eq-yes a b (sym (eqb-true b a e))
    by_test false e = eq-no a b (λ same. eqb-false b a e (sym same))

-- an order and an entered order
begun-by : (old new : Orders) (journal : Journal) (event : Event) (place receipt : ℕ) (order : Order) (row : OrderRow)
    → row ≡ row_as_sent place receipt order → place ≡ length journal
    → new.rows.items ≡ old.rows.items ++ row ∷ []
    → ((names : List OrderName) → length old.rows.items ≡ length names → KeepsNames old.index names → KeepsNames new.index (names ++ name_of row ∷ []))
    → KeepsOrders old journal → begins_untouched journal event.kind ≡ true → is_new_order journal order ≡ true
    → orders_after (length journal) (orders_of journal) event.kind ≡ orders_of journal ++ row_as_sent (length journal) receipt order ∷ []
    → 0 < row.order.ref_no
    → KeepsOrders new (with_event journal event)
begun-by old new journal event place receipt order row row_is at pushed named kept untouched new_name after =
    order-begun old new journal event row pushed named kept untouched
    (ap (λ (own : OrderRow). is_none (order_named (orders_of journal) own.order.account own.order.ref_no)) row_is ∙ new_name)
    (after ∙ ap (λ (own : OrderRow). orders_of journal ++ own ∷ []) (ap (λ n. row_as_sent n receipt order) (sym at) ∙ sym row_is))

pub order-taken : (old new : Orders) (journal : Journal) (moment place : ℕ) (kind : EventKind) (placed : Placed) (row : OrderRow)
    → kind ≡ EventKind.Order placed → row ≡ row_as_sent place placed.receipt placed.order → place ≡ length journal
    → new.rows.items ≡ old.rows.items ++ row ∷ []
    → ((names : List OrderName) → length old.rows.items ≡ length names → KeepsNames old.index names → KeepsNames new.index (names ++ name_of row ∷ []))
    → KeepsOrders old journal → 0 < row.order.ref_no → Fits journal (record { moment = moment; kind = kind })
    → KeepsOrders new (with_event journal (record { moment = moment; kind = kind }))
order-taken old new journal moment place kind placed row kind_is row_is at pushed named kept above =
    subst (λ (k : EventKind). Fits journal (record { moment = moment; kind = k }) → KeepsOrders new (with_event journal (record { moment = moment; kind = k }))) (sym kind_is)
    (λ (fits : Fits journal (record { moment = moment; kind = EventKind.Order placed })). begun-by old new journal (record { moment = moment; kind = EventKind.Order placed }) place placed.receipt placed.order row row_is at pushed named kept fits.untouched fits.new refl above)

pub entry-taken : (old new : Orders) (journal : Journal) (moment place : ℕ) (kind : EventKind) (form : EntryForm) (row : OrderRow)
    → kind ≡ EventKind.Enter form → row ≡ row_as_sent place form.receipt form.order → place ≡ length journal
    → new.rows.items ≡ old.rows.items ++ row ∷ []
    → ((names : List OrderName) → length old.rows.items ≡ length names → KeepsNames old.index names → KeepsNames new.index (names ++ name_of row ∷ []))
    → KeepsOrders old journal → 0 < row.order.ref_no → Fits journal (record { moment = moment; kind = kind })
    → KeepsOrders new (with_event journal (record { moment = moment; kind = kind }))
entry-taken old new journal moment place kind form row kind_is row_is at pushed named kept above =
    subst (λ (k : EventKind). Fits journal (record { moment = moment; kind = k }) → KeepsOrders new (with_event journal (record { moment = moment; kind = k }))) (sym kind_is)
    (λ (fits : Fits journal (record { moment = moment; kind = EventKind.Enter form })). begun-by old new journal (record { moment = moment; kind = EventKind.Enter form }) place form.receipt form.order row row_is at pushed named kept fits.untouched fits.new refl above)

-- a strike of the order of a name
struck-name : (account ref_no : ℕ) (row : OrderRow) → name_of (struck_by (account, ref_no) row) ≡ name_of row
struck-name account ref_no row = by_test (is_named account ref_no row.order)
  where
    by_test : (is : Bool) → name_of (cond is (as_struck row) row) ≡ name_of row
    by_test true = refl
    by_test false = refl

struck-taken : (old new : Orders) (journal : Journal) (event : Event) (account ref_no : ℕ) (name : OrderName)
    → name ≡ record { account = account; ref_no = ref_no }
    → new.rows.items ≡ changed_where as_struck (get same_name old.index.places name) old.rows.items
    → new.index ≡ old.index → KeepsOrders old journal → begins_untouched journal event.kind ≡ true
    → orders_after (length journal) (orders_of journal) event.kind ≡ map (struck_by (account, ref_no)) (orders_of journal)
    → KeepsOrders new (with_event journal event)
struck-taken old new journal event account ref_no name name_is rows_are index_is kept untouched after =
    order-changed old new journal event (record { account = account; ref_no = ref_no }) as_struck (λ row. is_named account ref_no row.order)
    (rows_are ∙ ap (λ (own : OrderName). changed_where as_struck (get same_name old.index.places own) old.rows.items) name_is)
    index_is kept untouched (λ row. refl) (struck-name account ref_no) after

pub cancel-taken : (old new : Orders) (journal : Journal) (moment : ℕ) (kind : EventKind) (form : CancelForm) (name : OrderName)
    → kind ≡ EventKind.Cancel form → name ≡ record { account = form.account; ref_no = form.target }
    → new.rows.items ≡ changed_where as_struck (get same_name old.index.places name) old.rows.items
    → new.index ≡ old.index → KeepsOrders old journal
    → KeepsOrders new (with_event journal (record { moment = moment; kind = kind }))
cancel-taken old new journal moment kind form name kind_is name_is rows_are index_is kept =
    subst (λ (k : EventKind). KeepsOrders new (with_event journal (record { moment = moment; kind = k }))) (sym kind_is)
    (struck-taken old new journal (record { moment = moment; kind = EventKind.Cancel form }) form.account form.target name name_is rows_are index_is kept refl refl)

pub void-taken : (old new : Orders) (journal : Journal) (moment : ℕ) (kind : EventKind) (form : VoidForm) (name : OrderName)
    → kind ≡ EventKind.Void form → name ≡ record { account = form.account; ref_no = form.ref_no }
    → new.rows.items ≡ changed_where as_struck (get same_name old.index.places name) old.rows.items
    → new.index ≡ old.index → KeepsOrders old journal
    → KeepsOrders new (with_event journal (record { moment = moment; kind = kind }))
void-taken old new journal moment kind form name kind_is name_is rows_are index_is kept =
    subst (λ (k : EventKind). KeepsOrders new (with_event journal (record { moment = moment; kind = k }))) (sym kind_is)
    (struck-taken old new journal (record { moment = moment; kind = EventKind.Void form }) form.account form.ref_no name name_is rows_are index_is kept refl refl)

-- a replacement
replaced-name : (form : EntryForm) (row : OrderRow) → name_of (replaced_by form row) ≡ name_of row
replaced-name form row = by_test (replaces row.order form) refl
  where
    by_test : (is : Bool) → replaces row.order form ≡ is → name_of (cond is (as_replaced form row) row) ≡ name_of row
    by_test true e =
        let both = and_parts (form.order.account == row.order.account) (form.order.ref_no == row.order.ref_no) e in
        λ i. record { account = eqb-true form.order.account row.order.account both.0 i; ref_no = eqb-true form.order.ref_no row.order.ref_no both.1 i }
    by_test false e = refl

pub replacement-taken : (old new : Orders) (journal : Journal) (moment : ℕ) (kind : EventKind) (form : EntryForm)
    → kind ≡ EventKind.Replace form
    → new.rows.items ≡ changed_where (as_replaced form) (get same_name old.index.places (record { account = form.order.account; ref_no = form.order.ref_no })) old.rows.items
    → new.index ≡ old.index → KeepsOrders old journal
    → KeepsOrders new (with_event journal (record { moment = moment; kind = kind }))
replacement-taken old new journal moment kind form kind_is rows_are index_is kept =
    subst (λ (k : EventKind). KeepsOrders new (with_event journal (record { moment = moment; kind = k }))) (sym kind_is)
    (order-changed old new journal (record { moment = moment; kind = EventKind.Replace form }) (record { account = form.order.account; ref_no = form.order.ref_no }) (as_replaced form) (λ row. replaces row.order form)
    rows_are index_is kept refl by_name (replaced-name form) refl)
  where
    by_name : (row : OrderRow) → replaces row.order form ≡ (row.order.account == form.order.account && row.order.ref_no == form.order.ref_no)
    by_name row =
        ap (λ is. is && form.order.ref_no == row.order.ref_no) (eq-comm form.order.account row.order.account)
        ∙ ap (λ is. row.order.account == form.order.account && is) (eq-comm form.order.ref_no row.order.ref_no)

-- anything else changes no order
pub leaves_orders : EventKind → Bool
leaves_orders (EventKind.Order placed) = false
leaves_orders (EventKind.Enter form) = false
leaves_orders (EventKind.Cancel form) = false
leaves_orders (EventKind.Void form) = false
leaves_orders (EventKind.Replace form) = false
leaves_orders _ = true

left-alike : (journal : Journal) (kind : EventKind) → leaves_orders kind ≡ true → (begins_untouched journal kind ≡ true) × (orders_after (length journal) (orders_of journal) kind ≡ orders_of journal)
unfolding leaves_orders
left-alike journal (EventKind.Order placed) e = cc
left-alike journal (EventKind.Enter form) e = cc
left-alike journal (EventKind.Cancel form) e = cc
left-alike journal (EventKind.Void form) e = cc
left-alike journal (EventKind.Replace form) e = cc
left-alike journal _ e = (refl, refl)

pub orders-left : (orders : Orders) (journal : Journal) (event : Event) → leaves_orders event.kind ≡ true → KeepsOrders orders journal → KeepsOrders orders (with_event journal event)
orders-left orders journal event leaves kept =
    let alike = left-alike journal event.kind leaves in
    record { rows = kept.rows ∙ (sym alike.1 ∙ sym (orders_go_on journal event alike.0)); names = kept.names; once = kept.once; references = kept.references }

pub left-by : (kind : EventKind)
    → ((placed : Placed) → kind ≡ EventKind.Order placed → ⊥) → ((form : CancelForm) → kind ≡ EventKind.Cancel form → ⊥)
    → ((form : EntryForm) → kind ≡ EventKind.Enter form → ⊥) → ((form : EntryForm) → kind ≡ EventKind.Replace form → ⊥)
    → ((form : VoidForm) → kind ≡ EventKind.Void form → ⊥) → leaves_orders kind ≡ true
unfolding leaves_orders
left-by (EventKind.Order placed) no_order no_cancel no_entry no_replacement no_void = absurd (no_order placed refl)
left-by (EventKind.Cancel form) no_order no_cancel no_entry no_replacement no_void = absurd (no_cancel form refl)
left-by (EventKind.Enter form) no_order no_cancel no_entry no_replacement no_void = absurd (no_entry form refl)
left-by (EventKind.Replace form) no_order no_cancel no_entry no_replacement no_void = absurd (no_replacement form refl)
left-by (EventKind.Void form) no_order no_cancel no_entry no_replacement no_void = absurd (no_void form refl)
left-by _ no_order no_cancel no_entry no_replacement no_void = refl

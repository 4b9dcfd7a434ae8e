-- What one event more does to the orders as corrected.
use Rattle.register_machine.specs.pricing.CorrectedOrders.{is_named}
use Rattle.std.proofs.Common.{Bool, List, None, Option, Some, [], ap, append-nil, append_assoc, arith, cond, false, fold, length, map, not, option_to_list, refl, sym, true, ℕ, ◌&&◌, ◌++◌, ◌+◌, ◌==◌, ◌||◌, ◌∙◌, ◌∷◌, ◌≡◌}
use Rattle.std.proofs.lemmas.Bool.{and_parts, eqb-true}
use Rattle.std.proofs.lemmas.List.{map-append}
use Rattle.std.proofs.lemmas.List.Folds.{list_any-append}
use Rattle.std.specs.List.{list_any}
use Rattle.std.specs.Option.{option_map_or}
use Rattle.agent_events.specs.Events.{Event}
use Rattle.agent_events.specs.declared.event.EventKind.{EventKind}
use Rattle.agent_events.specs.declared.order.Order.{Order}
use Rattle.agent_events.specs.declared.order.OrderRow.{OrderRow}
use Rattle.agent_events.specs.declared.request.EntryForm.{EntryForm}
use Rattle.register_laws.proofs.OneEventMore.{gathers-on}
use Rattle.register_laws.proofs.Tests.{last-of-more, last-of-none, not-true}
use Rattle.register_laws.specs.OneEventMore.{OrdersGoOn, begins_untouched, is_untouched, orders_after, replaced_by, struck_by}
use Rattle.register_machine.specs.journal.Choices.{last_of}
use Rattle.register_machine.specs.journal.Journals.{Journal, with_event}
use Rattle.register_machine.specs.journal.Kinds.{each_in, replacement_in}
use Rattle.register_machine.specs.pricing.CorrectedOrders.{is_struck, order_begun, orders_begun, orders_of, replaces, row_as_corrected, row_as_sent, struck_in}

begun-on : (place : ℕ) (journal : Journal) (event : Event) → orders_begun place (journal ++ event ∷ []) ≡ orders_begun place journal ++ option_to_list (order_begun (place + length journal) event.kind)
begun-on place [] event =
    append-nil (option_to_list (order_begun place event.kind))
    ∙ ap (λ at. option_to_list (order_begun at event.kind)) at
  where
    at : place ≡ place + length {A = Event} []
    at = omega arith
begun-on place (first ∷ journal) event =
    ap (λ later. option_to_list (order_begun place first.kind) ++ later) (begun-on (place + 1) journal event)
    ∙ (sym (append_assoc (option_to_list (order_begun place first.kind)) (orders_begun (place + 1) journal) (option_to_list (order_begun (place + 1 + length journal) event.kind)))
    ∙ ap (λ at. (option_to_list (order_begun place first.kind) ++ orders_begun (place + 1) journal) ++ option_to_list (order_begun at event.kind)) at)
  where
    at : place + 1 + length journal ≡ place + length (first ∷ journal)
    at = omega arith

-- an order has its names still when it is replaced
abbrev named-alike : Order → Option EntryForm → Type 0
named-alike order found =
    ((option_map_or (λ form. form.order) found order).account ≡ order.account)
    × ((option_map_or (λ form. form.order) found order).ref_no ≡ order.ref_no)

found-alike : (order : Order) (forms : List EntryForm) (found : Option EntryForm) → named-alike order found → named-alike order (fold (λ found form. cond (replaces order form) (Some form) found) found forms)
found-alike order [] found alike = alike
found-alike order (form ∷ forms) found alike =
    found-alike order forms (cond (replaces order form) (Some form) found) (by_test (replaces order form) refl)
  where
    by_test : (same : Bool) → replaces order form ≡ same → named-alike order (cond same (Some form) found)
    by_test false e = alike
    by_test true e =
        let both = and_parts (form.order.account == order.account) (form.order.ref_no == order.ref_no) e in
        (eqb-true form.order.account order.account both.0, eqb-true form.order.ref_no order.ref_no both.1)

pub corrected-alike : (strikes : List (ℕ × ℕ)) (forms : List EntryForm) (row : OrderRow) → ((row_as_corrected strikes forms row).order.account ≡ row.order.account) × ((row_as_corrected strikes forms row).order.ref_no ≡ row.order.ref_no)
corrected-alike strikes forms row = found-alike row.order forms None (refl, refl)

-- a row by its parts
abbrev row-of : ℕ → ℕ → Bool → Order → OrderRow
row-of place receipt struck order = record { place = place; receipt = receipt; struck = struck; order = order }

-- one strike more
struck-on : (strikes : List (ℕ × ℕ)) (forms : List EntryForm) (named : ℕ × ℕ) (row : OrderRow) → row_as_corrected (strikes ++ named ∷ []) forms row ≡ struck_by named (row_as_corrected strikes forms row)
struck-on strikes forms named row =
    ap (λ struck. row-of row.place (row_as_corrected strikes forms row).receipt struck (row_as_corrected strikes forms row).order) (list_any-append (λ (one : ℕ × ℕ). is_named one.0 one.1 row.order) strikes (named ∷ []))
    ∙ (by_name (is_named named.0 named.1 row.order) (is_struck strikes row.order)
    ∙ ap (λ b. cond b (row-of row.place (row_as_corrected strikes forms row).receipt true (row_as_corrected strikes forms row).order) (row_as_corrected strikes forms row)) (sym same))
  where
    alike : ((row_as_corrected strikes forms row).order.account ≡ row.order.account) × ((row_as_corrected strikes forms row).order.ref_no ≡ row.order.ref_no)
    alike = corrected-alike strikes forms row

    same : is_named named.0 named.1 (row_as_corrected strikes forms row).order ≡ is_named named.0 named.1 row.order
    same =
        ap (λ account. account == named.0 && (row_as_corrected strikes forms row).order.ref_no == named.1) alike.0
        ∙ ap (λ ref_no. row.order.account == named.0 && ref_no == named.1) alike.1

    by_name : (is : Bool) (before : Bool) → row-of row.place (row_as_corrected strikes forms row).receipt (before || (is || false)) (row_as_corrected strikes forms row).order ≡ cond is (row-of row.place (row_as_corrected strikes forms row).receipt true (row_as_corrected strikes forms row).order) (row-of row.place (row_as_corrected strikes forms row).receipt before (row_as_corrected strikes forms row).order)
    by_name true true = refl
    by_name true false = refl
    by_name false true = refl
    by_name false false = refl

-- one replacement more
replaced-on : (strikes : List (ℕ × ℕ)) (forms : List EntryForm) (form : EntryForm) (row : OrderRow) → row_as_corrected strikes (forms ++ form ∷ []) row ≡ replaced_by form (row_as_corrected strikes forms row)
replaced-on strikes forms form row =
    ap (λ (last : Option EntryForm). row-of row.place (option_map_or (λ f. f.receipt) last row.receipt) (is_struck strikes row.order) (option_map_or (λ f. f.order) last row.order)) (last-of-more (replaces row.order) forms form)
    ∙ (by_name (replaces row.order form)
    ∙ ap (λ b. cond b (row-of row.place form.receipt (is_struck strikes row.order) form.order) (row_as_corrected strikes forms row)) (sym same))
  where
    alike : ((row_as_corrected strikes forms row).order.account ≡ row.order.account) × ((row_as_corrected strikes forms row).order.ref_no ≡ row.order.ref_no)
    alike = corrected-alike strikes forms row

    same : replaces (row_as_corrected strikes forms row).order form ≡ replaces row.order form
    same =
        ap (λ account. is_named account (row_as_corrected strikes forms row).order.ref_no form.order) alike.0
        ∙ ap (λ ref_no. is_named row.order.account ref_no form.order) alike.1

    by_name : (is : Bool) → row-of row.place (option_map_or (λ f. f.receipt) (cond is (Some form) (last_of (replaces row.order) forms)) row.receipt) (is_struck strikes row.order) (option_map_or (λ f. f.order) (cond is (Some form) (last_of (replaces row.order) forms)) row.order) ≡ cond is (row-of row.place form.receipt (is_struck strikes row.order) form.order) (row_as_corrected strikes forms row)
    by_name true = refl
    by_name false = refl

-- an order that nothing touches stands as it was sent
untouched-on : (journal : Journal) (place receipt : ℕ) (order : Order) → is_untouched journal order ≡ true → row_as_corrected (each_in struck_in journal) (each_in replacement_in journal) (row_as_sent place receipt order) ≡ row_as_sent place receipt order
untouched-on journal place receipt order untouched =
    let both = and_parts (not (is_struck (each_in struck_in journal) order)) (not (list_any (replaces order) (each_in replacement_in journal))) untouched in
    ap (λ (struck : Bool). record { place = place; receipt = option_map_or (λ f. f.receipt) (last_of (replaces order) (each_in replacement_in journal)) receipt; struck = struck; order = option_map_or (λ f. f.order) (last_of (replaces order) (each_in replacement_in journal)) order }) (not-true (is_struck (each_in struck_in journal) order) both.0)
    ∙ ap (λ (last : Option EntryForm). record { place = place; receipt = option_map_or (λ f. f.receipt) last receipt; struck = false; order = option_map_or (λ f. f.order) last order }) (last-of-none (replaces order) (each_in replacement_in journal) (not-true (list_any (replaces order) (each_in replacement_in journal)) both.1))

map-alike : {X Y Z : Type 0} (f : X → Z) (g : Y → Z) (h : X → Y) (xs : List X) → ((x : X) → f x ≡ g (h x)) → map f xs ≡ map g (map h xs)
map-alike f g h [] alike = refl
map-alike f g h (x ∷ xs) alike =
    ap (λ z. z ∷ map f xs) (alike x) ∙ ap (λ zs. g (h x) ∷ zs) (map-alike f g h xs alike)

-- by the kind of the event, with what it begins, strikes and replaces
orders-by : (journal : Journal) (kind : EventKind) → begins_untouched journal kind ≡ true → map (row_as_corrected (each_in struck_in journal ++ option_to_list (struck_in kind)) (each_in replacement_in journal ++ option_to_list (replacement_in kind))) (orders_begun 0 journal ++ option_to_list (order_begun (length journal) kind)) ≡ orders_after (length journal) (orders_of journal) kind
orders-by journal kind untouched = by_kind kind untouched
  where
    -- no strike, no replacement
    kept : (more : List OrderRow) → map (row_as_corrected (each_in struck_in journal ++ []) (each_in replacement_in journal ++ [])) (orders_begun 0 journal ++ more) ≡ map (row_as_corrected (each_in struck_in journal) (each_in replacement_in journal)) (orders_begun 0 journal ++ more)
    kept more =
        ap (λ s. map (row_as_corrected s (each_in replacement_in journal ++ [])) (orders_begun 0 journal ++ more)) (append-nil (each_in struck_in journal))
        ∙ ap (λ f. map (row_as_corrected (each_in struck_in journal) f) (orders_begun 0 journal ++ more)) (append-nil (each_in replacement_in journal))

    same : map (row_as_corrected (each_in struck_in journal ++ []) (each_in replacement_in journal ++ [])) (orders_begun 0 journal ++ []) ≡ orders_of journal
    same =
        kept []
        ∙ ap (map (row_as_corrected (each_in struck_in journal) (each_in replacement_in journal))) (append-nil (orders_begun 0 journal))

    begun : (receipt : ℕ) (order : Order) → is_untouched journal order ≡ true → map (row_as_corrected (each_in struck_in journal ++ []) (each_in replacement_in journal ++ [])) (orders_begun 0 journal ++ row_as_sent (length journal) receipt order ∷ []) ≡ orders_of journal ++ row_as_sent (length journal) receipt order ∷ []
    begun receipt order alone =
        kept (row_as_sent (length journal) receipt order ∷ [])
        ∙ (map-append (row_as_corrected (each_in struck_in journal) (each_in replacement_in journal)) (orders_begun 0 journal) (row_as_sent (length journal) receipt order ∷ [])
        ∙ ap (λ row. orders_of journal ++ row ∷ []) (untouched-on journal (length journal) receipt order alone))

    struck : (named : ℕ × ℕ) → map (row_as_corrected (each_in struck_in journal ++ named ∷ []) (each_in replacement_in journal ++ [])) (orders_begun 0 journal ++ []) ≡ map (struck_by named) (orders_of journal)
    struck named =
        ap (λ f. map (row_as_corrected (each_in struck_in journal ++ named ∷ []) f) (orders_begun 0 journal ++ [])) (append-nil (each_in replacement_in journal))
        ∙ (ap (map (row_as_corrected (each_in struck_in journal ++ named ∷ []) (each_in replacement_in journal))) (append-nil (orders_begun 0 journal))
        ∙ map-alike (row_as_corrected (each_in struck_in journal ++ named ∷ []) (each_in replacement_in journal)) (struck_by named) (row_as_corrected (each_in struck_in journal) (each_in replacement_in journal)) (orders_begun 0 journal)
        (struck-on (each_in struck_in journal) (each_in replacement_in journal) named))

    replaced : (form : EntryForm) → map (row_as_corrected (each_in struck_in journal ++ []) (each_in replacement_in journal ++ form ∷ [])) (orders_begun 0 journal ++ []) ≡ map (replaced_by form) (orders_of journal)
    replaced form =
        ap (λ s. map (row_as_corrected s (each_in replacement_in journal ++ form ∷ [])) (orders_begun 0 journal ++ [])) (append-nil (each_in struck_in journal))
        ∙ (ap (map (row_as_corrected (each_in struck_in journal) (each_in replacement_in journal ++ form ∷ []))) (append-nil (orders_begun 0 journal))
        ∙ map-alike (row_as_corrected (each_in struck_in journal) (each_in replacement_in journal ++ form ∷ [])) (replaced_by form) (row_as_corrected (each_in struck_in journal) (each_in replacement_in journal)) (orders_begun 0 journal)
        (replaced-on (each_in struck_in journal) (each_in replacement_in journal) form))

    by_kind : (kind : EventKind) → begins_untouched journal kind ≡ true → map (row_as_corrected (each_in struck_in journal ++ option_to_list (struck_in kind)) (each_in replacement_in journal ++ option_to_list (replacement_in kind))) (orders_begun 0 journal ++ option_to_list (order_begun (length journal) kind)) ≡ orders_after (length journal) (orders_of journal) kind
    by_kind (EventKind.Order placed) alone = begun placed.receipt placed.order alone
    by_kind (EventKind.Enter form) alone = begun form.receipt form.order alone
    by_kind (EventKind.Cancel form) alone = struck (form.account, form.target)
    by_kind (EventKind.Void form) alone = struck (form.account, form.ref_no)
    by_kind (EventKind.Replace form) alone = replaced form
    by_kind _ alone = same

pub orders_go_on : (journal : Journal) (event : Event) → OrdersGoOn journal event
orders_go_on journal event untouched =
    ap (λ s. map (row_as_corrected s (each_in replacement_in (with_event journal event))) (orders_begun 0 (with_event journal event))) (gathers-on struck_in journal event)
    ∙ (ap (λ f. map (row_as_corrected (each_in struck_in journal ++ option_to_list (struck_in event.kind)) f) (orders_begun 0 (with_event journal event))) (gathers-on replacement_in journal event)
    ∙ (ap (map (row_as_corrected (each_in struck_in journal ++ option_to_list (struck_in event.kind)) (each_in replacement_in journal ++ option_to_list (replacement_in event.kind)))) begun
    ∙ orders-by journal event.kind untouched))
  where
    at : 0 + length journal ≡ length journal
    at = omega arith

    begun : orders_begun 0 (with_event journal event) ≡ orders_begun 0 journal ++ option_to_list (order_begun (length journal) event.kind)
    begun =
        begun-on 0 journal event
        ∙ ap (λ place. orders_begun 0 journal ++ option_to_list (order_begun place event.kind)) at

-- ---- each order as corrected keeps its name

pub struck-named : (named : ℕ × ℕ) (account ref_no : ℕ) (row : OrderRow) → is_named account ref_no (struck_by named row).order ≡ is_named account ref_no row.order
struck-named named account ref_no row = by (is_named named.0 named.1 row.order)
  where
    by : (b : Bool) → is_named account ref_no (cond b (record { place = row.place; receipt = row.receipt; struck = true; order = row.order }) row).order ≡ is_named account ref_no row.order
    by true = refl
    by false = refl

pub replaced-named : (form : EntryForm) (account ref_no : ℕ) (row : OrderRow) → is_named account ref_no (replaced_by form row).order ≡ is_named account ref_no row.order
replaced-named form account ref_no row = by (replaces row.order form) refl
  where
    by : (b : Bool) → replaces row.order form ≡ b → is_named account ref_no (cond b (record { place = row.place; receipt = form.receipt; struck = row.struck; order = form.order }) row).order ≡ is_named account ref_no row.order
    by true is =
        let same = and_parts (form.order.account == row.order.account) (form.order.ref_no == row.order.ref_no) is in
        ap (λ n. n == account && form.order.ref_no == ref_no) (eqb-true form.order.account row.order.account same.0)
        ∙ ap (λ n. row.order.account == account && n == ref_no) (eqb-true form.order.ref_no row.order.ref_no same.1)
    by false is = refl

-- What one event more makes of the standing orders: what they keep, and how many of an account there are.
use Rattle.std.proofs.Common.{All, Bool, List, None, Option, Some, [], ap, arith, cond, count_by, false, filter, get_or, length, map, nat_le, refl, subst, sum_by, sym, true, ℕ, ◌++◌, ◌+◌, ◌<◌, ◌==◌, ◌∙◌, ◌∷◌, ◌≡◌, ◌≤◌}
use Rattle.std.proofs.Common.{inl, inr}
use Rattle.std.proofs.lemmas.Bool.{and_parts, eqb-true, true≢false}
use Rattle.std.proofs.lemmas.Bool.Decides.{leb_tells}
use Rattle.std.proofs.lemmas.List.Elements.{All-cons, All-filter, All-head, All-map, All-nil, All-push, All-tail, filter_passes}
use Rattle.std.proofs.lemmas.List.Sums.{sum_by-append, sum_by-cons}
use Rattle.std.specs.Option.{option_map_or}
use Rattle.agent_events.specs.Events.{Event, order_request, request_of}
use Rattle.agent_events.specs.declared.event.EventKind.{EventKind}
use Rattle.agent_events.specs.declared.event.Source.{Source}
use Rattle.agent_events.specs.declared.order.Order.{Order}
use Rattle.agent_events.specs.declared.order.OrderRow.{OrderRow}
use Rattle.agent_events.specs.declared.request.EntryForm.{EntryForm}
use Rattle.register_laws.proofs.BookOrders.{SaidAs, order_said}
use Rattle.register_laws.proofs.LawfulJournals.{lawful-keeps}
use Rattle.register_laws.proofs.NothingBefore.{begins-by}
use Rattle.register_laws.proofs.OrdersGoOn.{orders_go_on}
use Rattle.register_laws.proofs.RulesByName.{not_broken}
use Rattle.register_laws.proofs.Sums.{sum-filtered}
use Rattle.register_laws.specs.Lawful.{IsBrought, own_at}
use Rattle.register_laws.specs.OneEventMore.{orders_after, replaced_by, struck_by}
use Rattle.register_laws.specs.Trades.{is_order_of}
use Rattle.register_machine.specs.journal.Journals.{Journal, with_event}
use Rattle.register_machine.specs.journal.Lawful.{IsLawful}
use Rattle.register_machine.specs.pricing.CorrectedOrders.{is_named, orders_of, replaces, row_as_sent, stands}
use Rattle.register_machine.specs.rules.Identities.{reference_of}
use Rattle.register_machine.specs.rules.InOrder.{Rule}
use Rattle.register_machine.specs.rules.Limits.{is_of_account, most_orders}

-- ---- what standing orders have

abbrev IfStands : (Order → Type 0) → OrderRow → Type 0
IfStands P row = stands row ≡ true → P row.order

if-standing : (P : Order → Type 0) (rows : List OrderRow) → All (λ (row : OrderRow). P row.order) (filter stands rows) → All (IfStands P) rows
if-standing P [] all = All-nil (IfStands P)
if-standing P (row ∷ rows) all = by (stands row) refl all (if-standing P rows)
  where
    by : (b : Bool) → stands row ≡ b → All (λ (r : OrderRow). P r.order) (cond b (row ∷ filter stands rows) (filter stands rows)) → (All (λ (r : OrderRow). P r.order) (filter stands rows) → All (IfStands P) rows) → All (IfStands P) (row ∷ rows)
    by true is h rest =
        All-cons (IfStands P) row rows (λ _. All-head (λ (r : OrderRow). P r.order) row (filter stands rows) h) (rest (All-tail (λ (r : OrderRow). P r.order) row (filter stands rows) h))
    by false is h rest = All-cons (IfStands P) row rows (λ e. absurd (true≢false (sym e ∙ is))) (rest h)

of-standing : (P : Order → Type 0) (rows : List OrderRow) → All (IfStands P) rows → All (λ (row : OrderRow). P row.order) (filter stands rows)
of-standing P rows all =
    λ k d short. All-filter stands (IfStands P) rows all k d short (filter_passes stands rows k d short)

struck-has : (P : Order → Type 0) (named : ℕ × ℕ) (row : OrderRow) → IfStands P row → IfStands P (struck_by named row)
struck-has P named row is = by (is_named named.0 named.1 row.order)
  where
    by : (b : Bool) → IfStands P (cond b (record { place = row.place; receipt = row.receipt; struck = true; order = row.order }) row)
    by true = λ e. absurd (true≢false (sym e))
    by false = is

replaced-has : (P : Order → Type 0) (form : EntryForm) (row : OrderRow) → P form.order → IfStands P row → IfStands P (replaced_by form row)
replaced-has P form row said is = by (replaces row.order form)
  where
    by : (b : Bool) → IfStands P (cond b (record { place = row.place; receipt = form.receipt; struck = row.struck; order = form.order }) row)
    by true = λ _. said
    by false = is

after-has : (P : Order → Type 0) (place : ℕ) (rows : List OrderRow) (kind : EventKind) → All (IfStands P) rows → SaidAs P (order_said kind) → All (IfStands P) (orders_after place rows kind)
after-has P place rows (EventKind.Order placed) all said =
    All-push (IfStands P) rows (row_as_sent place placed.receipt placed.order) all (λ _. said)
after-has P place rows (EventKind.Enter form) all said =
    All-push (IfStands P) rows (row_as_sent place form.receipt form.order) all (λ _. said)
after-has P place rows (EventKind.Cancel form) all said =
    All-map (IfStands P) (struck_by (form.account, form.target)) rows (λ k d short. struck-has P (form.account, form.target) (get_or rows k d) (all k d short))
after-has P place rows (EventKind.Void form) all said =
    All-map (IfStands P) (struck_by (form.account, form.ref_no)) rows (λ k d short. struck-has P (form.account, form.ref_no) (get_or rows k d) (all k d short))
after-has P place rows (EventKind.Replace form) all said =
    All-map (IfStands P) (replaced_by form) rows (λ k d short. replaced-has P form (get_or rows k d) said (all k d short))
after-has P place rows _ all said = all

-- what all standing orders have, and the order that the event says, all standing orders have behind the event
pub standing-after : (P : Order → Type 0) (place : ℕ) (rows : List OrderRow) (kind : EventKind) → All (λ (row : OrderRow). P row.order) (filter stands rows) → SaidAs P (order_said kind) → All (λ (row : OrderRow). P row.order) (filter stands (orders_after place rows kind))
standing-after P place rows kind all said =
    of-standing P (orders_after place rows kind) (after-has P place rows kind (if-standing P rows all) said)

-- ---- how many there are

abbrev counted_as : ℕ → OrderRow → ℕ
counted_as account row = cond (stands row) (cond (is_order_of account row) 1 0) 0

abbrev is_to : ℕ → Option (ℕ × ℕ) → Bool
is_to account found = option_map_or (λ named. named.0 == account) found false

map-fewer : (account : ℕ) (change : OrderRow → OrderRow) → ((row : OrderRow) → counted_as account (change row) ≤ counted_as account row) → (rows : List OrderRow) → sum_by (counted_as account) (map change rows) ≤ sum_by (counted_as account) rows
map-fewer account change fewer [] = omega arith
map-fewer account change fewer (row ∷ rows) =
    omega (arith, fewer row, map-fewer account change fewer rows, sum_by-cons (counted_as account) (change row) (map change rows), sum_by-cons (counted_as account) row rows)

struck-fewer : (account : ℕ) (named : ℕ × ℕ) (row : OrderRow) → counted_as account (struck_by named row) ≤ counted_as account row
struck-fewer account named row = by (is_named named.0 named.1 row.order)
  where
    by : (b : Bool) → counted_as account (cond b (record { place = row.place; receipt = row.receipt; struck = true; order = row.order }) row) ≤ counted_as account row
    by true = omega arith
    by false = omega arith

replaced-fewer : (account : ℕ) (form : EntryForm) (row : OrderRow) → counted_as account (replaced_by form row) ≤ counted_as account row
replaced-fewer account form row = by (replaces row.order form) refl
  where
    by : (b : Bool) → replaces row.order form ≡ b → counted_as account (cond b (record { place = row.place; receipt = form.receipt; struck = row.struck; order = form.order }) row) ≤ counted_as account row
    by true e =
        let same : form.order.account ≡ row.order.account = eqb-true form.order.account row.order.account (and_parts (form.order.account == row.order.account) (form.order.ref_no == row.order.ref_no) e).0 in
        let counted : counted_as account (record { place = row.place; receipt = form.receipt; struck = row.struck; order = form.order }) ≡ counted_as account row = ap (λ a. cond (stands row) (cond (a == account) 1 0) 0) same in
        omega (arith, counted)
    by false e = omega arith

one-more : (account place receipt : ℕ) (order : Order) (rows : List OrderRow) → sum_by (counted_as account) (rows ++ row_as_sent place receipt order ∷ []) ≤ sum_by (counted_as account) rows + cond (order.account == account) 1 0
one-more account place receipt order rows =
    let row = row_as_sent place receipt order in
    omega (arith, sum_by-append (counted_as account) rows (row ∷ []), sum_by-cons (counted_as account) row [])

pub after-few : (account place : ℕ) (rows : List OrderRow) (kind : EventKind) → sum_by (counted_as account) (orders_after place rows kind) ≤ sum_by (counted_as account) rows + cond (is_to account (reference_of (request_of kind))) 1 0
after-few account place rows (EventKind.Order placed) = by_source placed.source
  where
    by_source : (from : Source) → sum_by (counted_as account) (rows ++ row_as_sent place placed.receipt placed.order ∷ []) ≤ sum_by (counted_as account) rows + cond (is_to account (reference_of (order_request from placed.receipt placed.order))) 1 0
    by_source Source.Direct = one-more account place placed.receipt placed.order rows
    by_source Source.Dealer = one-more account place placed.receipt placed.order rows
after-few account place rows (EventKind.Enter form) = one-more account place form.receipt form.order rows
after-few account place rows (EventKind.Cancel form) =
    omega (arith, map-fewer account (struck_by (form.account, form.target)) (struck-fewer account (form.account, form.target)) rows)
after-few account place rows (EventKind.Void form) =
    omega (arith, map-fewer account (struck_by (form.account, form.ref_no)) (struck-fewer account (form.account, form.ref_no)) rows)
after-few account place rows (EventKind.Replace form) =
    omega (arith, map-fewer account (replaced_by form) (replaced-fewer account form) rows)
after-few account place rows _ = omega arith

-- no more of an account stand than it has brought references
abbrev FewStanding : Journal → Type 0
FewStanding journal = (account : ℕ) → sum_by (counted_as account) (orders_of journal) ≤ count_by (is_of_account account) journal

abbrev event_one : ℕ → Event → ℕ
event_one account event = cond (is_of_account account event) 1 0

few-more : (journal : Journal) (event : Event) → IsLawful journal → IsBrought journal event → FewStanding journal → FewStanding (with_event journal event)
few-more journal event lawful brought few account =
    let situation = own_at journal event.moment brought.caller in
    let free = not_broken situation (request_of event.kind) brought.clear Rule.RefUsed in
    let orders = orders_go_on journal event (begins-by journal event.moment brought.caller event.kind lawful free) in
    omega (arith, ap (sum_by (counted_as account)) orders, after-few account (length journal) (orders_of journal) event.kind, few account, sum_by-append (event_one account) journal (event ∷ []), sum_by-cons (event_one account) event [])

few-standing : (journal : Journal) → IsLawful journal → FewStanding journal
few-standing journal lawful = lawful-keeps FewStanding few-more (λ account. omega arith) journal lawful

one-fits : (journal : Journal) (account : ℕ) (found : Option (ℕ × ℕ)) → option_map_or (λ named. nat_le most_orders (count_by (is_of_account named.0) journal)) found false ≡ false → count_by (is_of_account account) journal ≤ most_orders → count_by (is_of_account account) journal + cond (is_to account found) 1 0 ≤ most_orders
one-fits journal account None clear few = omega (arith, few)
one-fits journal account (Some named) clear few = by (named.0 == account) refl
  where
    left : nat_le most_orders (count_by (is_of_account account) journal) ≡ false → count_by (is_of_account account) journal < most_orders
    left e = elim (leb_tells most_orders (count_by (is_of_account account) journal)) [
      | inl (t, full) ↦ absurd (true≢false (sym t ∙ e))
      | inr (t, room) ↦ omega (arith, room)
    ]

    by : (b : Bool) → (named.0 == account) ≡ b → count_by (is_of_account account) journal + cond b 1 0 ≤ most_orders
    by false e = omega (arith, few)
    by true e =
        omega (arith, left (subst (λ a. nat_le most_orders (count_by (is_of_account a) journal) ≡ false) (eqb-true named.0 account e) clear))

-- so behind an event for which there is room an account has no more than it may have
pub few-after : (journal : Journal) (place : ℕ) (kind : EventKind) → IsLawful journal → ((account : ℕ) → count_by (is_of_account account) journal ≤ most_orders) → option_map_or (λ named. nat_le most_orders (count_by (is_of_account named.0) journal)) (reference_of (request_of kind)) false ≡ false → (account : ℕ) → count_by (is_order_of account) (filter stands (orders_after place (orders_of journal) kind)) ≤ most_orders
few-after journal place kind lawful references room account =
    omega (arith, sum-filtered (λ (row : OrderRow). cond (is_order_of account row) 1 0) stands (orders_after place (orders_of journal) kind), after-few account place (orders_of journal) kind, few-standing journal lawful account, one-fits journal account (reference_of (request_of kind)) room (references account))

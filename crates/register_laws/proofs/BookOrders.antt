-- What holds of the order of each event holds of each order of the book.
use Rattle.std.proofs.Common.{All, Bool, List, None, Option, Some, [], cond, false, fold, get_or, option_to_list, true, ℕ, ◌+◌, ◌∷◌}
use Rattle.std.proofs.lemmas.List.Elements.{All-append, All-cons, All-head, All-map, All-nil, All-tail}
use Rattle.std.specs.List.{cons_option}
use Rattle.std.specs.Option.{option_map_or}
use Rattle.agent_events.specs.Events.{Event}
use Rattle.agent_events.specs.declared.event.EventKind.{EventKind}
use Rattle.agent_events.specs.declared.order.Order.{Order}
use Rattle.agent_events.specs.declared.order.OrderRow.{OrderRow}
use Rattle.agent_events.specs.declared.request.EntryForm.{EntryForm}
use Rattle.register_machine.specs.journal.Choices.{last_of}
use Rattle.register_machine.specs.journal.Journals.{Journal}
use Rattle.register_machine.specs.journal.Kinds.{each_in, replacement_in}
use Rattle.register_machine.specs.pricing.CorrectedOrders.{order_begun, orders_begun, orders_of, replaces, row_as_corrected, row_as_sent, struck_in}

-- the order that an event brings, or the new content that it gives one
abbrev pub order_said : EventKind → Option Order
order_said (EventKind.Order placed) = Some placed.order
order_said (EventKind.Enter form) = Some form.order
order_said (EventKind.Replace form) = Some form.order
order_said _ = None

abbrev pub SaidAs : (Order → Type 0) → Option Order → Type 0
SaidAs P None = Unit {0}
SaidAs P (Some order) = P order

begun-one : (P : Order → Type 0) (place : ℕ) (kind : EventKind) → SaidAs P (order_said kind) → All (λ (row : OrderRow). P row.order) (option_to_list (order_begun place kind))
begun-one P place (EventKind.Order placed) is =
    All-cons (λ (row : OrderRow). P row.order) (row_as_sent place placed.receipt placed.order) [] is (All-nil (λ (row : OrderRow). P row.order))
begun-one P place (EventKind.Enter form) is =
    All-cons (λ (row : OrderRow). P row.order) (row_as_sent place form.receipt form.order) [] is (All-nil (λ (row : OrderRow). P row.order))
begun-one P place kind is = All-nil (λ (row : OrderRow). P row.order)

unfoldable pub SaysAs : (Order → Type 0) → Event → Type 0
SaysAs P event = SaidAs P (order_said event.kind)

begun-all : (P : Order → Type 0) (place : ℕ) (journal : Journal) → All (SaysAs P) journal → All (λ (row : OrderRow). P row.order) (orders_begun place journal)
unfolding SaysAs
begun-all P place [] all = All-nil (λ (row : OrderRow). P row.order)
begun-all P place (event ∷ later) all =
    All-append (λ (row : OrderRow). P row.order) (option_to_list (order_begun place event.kind)) (orders_begun (place + 1) later)
    (begun-one P place event.kind (All-head (SaysAs P) event later all))
    (begun-all P (place + 1) later (All-tail (SaysAs P) event later all))

replaced-one : (P : Order → Type 0) (kind : EventKind) (rest : List EntryForm) → SaidAs P (order_said kind) → All (λ (form : EntryForm). P form.order) rest → All (λ (form : EntryForm). P form.order) (cons_option (replacement_in kind) rest)
replaced-one P (EventKind.Replace form) rest is all = All-cons (λ (form : EntryForm). P form.order) form rest is all
replaced-one P kind rest is all = all

replaced-all : (P : Order → Type 0) (journal : Journal) → All (SaysAs P) journal → All (λ (form : EntryForm). P form.order) (each_in replacement_in journal)
unfolding SaysAs
replaced-all P [] all = All-nil (λ (form : EntryForm). P form.order)
replaced-all P (event ∷ later) all =
    replaced-one P event.kind (each_in replacement_in later) (All-head (SaysAs P) event later all)
    (replaced-all P later (All-tail (SaysAs P) event later all))

abbrev FoundAs : (Order → Type 0) → Option EntryForm → Type 0
FoundAs P None = Unit {0}
FoundAs P (Some form) = P form.order

last-as : (P : Order → Type 0) (test : EntryForm → Bool) (forms : List EntryForm) (found : Option EntryForm) → All (λ (form : EntryForm). P form.order) forms → FoundAs P found → FoundAs P (fold (λ found form. cond (test form) (Some form) found) found forms)
last-as P test [] found all is = is
last-as P test (form ∷ forms) found all is =
    last-as P test forms (cond (test form) (Some form) found) (All-tail (λ (other : EntryForm). P other.order) form forms all)
    (elim (test form) as (λ b. FoundAs P (cond b (Some form) found)) [
      | true ↦ All-head (λ (other : EntryForm). P other.order) form forms all
      | false ↦ is
    ])

corrected-as : (P : Order → Type 0) (order : Order) (last : Option EntryForm) → P order → FoundAs P last → P (option_map_or (λ form. form.order) last order)
corrected-as P order None own is = own
corrected-as P order (Some form) own is = is

pub orders-as : (P : Order → Type 0) (journal : Journal) → All (SaysAs P) journal → All (λ (row : OrderRow). P row.order) (orders_of journal)
orders-as P journal all =
    All-map (λ (row : OrderRow). P row.order) (row_as_corrected (each_in struck_in journal) (each_in replacement_in journal)) (orders_begun 0 journal)
    (λ k d short.
    let row = get_or (orders_begun 0 journal) k d in
    corrected-as P row.order (last_of (replaces row.order) (each_in replacement_in journal)) (begun-all P 0 journal all k d short)
    (last-as P (replaces row.order) (each_in replacement_in journal) None (replaced-all P journal all) tt))

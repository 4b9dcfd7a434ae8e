-- What an event does to the index of orders, and what becomes of it.
use Rattle.std.specs.Option.{option_map_or}
use Rattle.std.specs.Prelude.{List, Some, [], filter, is_some, length, slice_get, true, ℕ, ◌++◌, ◌-◌, ◌<◌, ◌∷◌, ◌≡◌}
use Rattle.agent_events.specs.declared.event.EventKind.{EventKind}
use Rattle.agent_events.specs.declared.order.OrderRow.{OrderRow}
use Rattle.desk_books.specs.declared.change.OrderChange.{OrderChange}
use Rattle.forward_price.specs.declared.price_sheet.Sheet.{Sheet}
use Rattle.register_machine.specs.journal.Journals.{Journal}
use Rattle.register_machine.specs.journal.Kinds.{accounts_of, household_of}
use Rattle.register_machine.specs.pricing.CorrectedOrders.{order_named, orders_of, replaces}
use Rattle.standing_orders.specs.Places.{passes_at, with_place, with_settled}
use Rattle.standing_orders.specs.Rows.{stays, waits}

-- what an event names stands: the household of an order's account, and the order that is replaced
abbrev pub NamesItsOrder : Journal → EventKind → Type 0
NamesItsOrder journal (EventKind.Order placed) = is_some (household_of (accounts_of journal) placed.order.account) ≡ true
NamesItsOrder journal (EventKind.Enter form) = is_some (household_of (accounts_of journal) form.order.account) ≡ true
NamesItsOrder journal (EventKind.Replace form) =
    is_some (order_named (orders_of journal) form.order.account form.order.ref_no) ≡ true
NamesItsOrder journal _ = Unit {0}

-- what the event does to the index of orders: an order that is placed or entered has its household, one that is replaced its
-- place, and a sheet takes what it prices
abbrev pub ChangesOrders : Journal → EventKind → OrderChange → Type 0
ChangesOrders journal (EventKind.Order placed) change =
    (household : ℕ) × (household_of (accounts_of journal) placed.order.account ≡ Some household)
    × (change ≡ OrderChange.Begins household)
ChangesOrders journal (EventKind.Enter form) change =
    (household : ℕ) × (household_of (accounts_of journal) form.order.account ≡ Some household)
    × (change ≡ OrderChange.Enters household)
ChangesOrders journal (EventKind.Replace form) change =
    (place : ℕ) × (row : OrderRow) × (slice_get (orders_of journal) place ≡ Some row)
    × (replaces row.order form ≡ true) × (change ≡ OrderChange.Replaces place)
ChangesOrders journal (EventKind.Sheet form) change = change ≡ OrderChange.Priced
ChangesOrders journal _ change = change ≡ OrderChange.Nothing

-- an order that is replaced is one of so many
abbrev pub IsWithin : OrderChange → ℕ → Type 0
IsWithin (OrderChange.Replaces place) orders = place < orders
IsWithin _ orders = Unit {0}

-- the number of the last sheet, 0 without one
abbrev pub last_number : List Sheet → ℕ
last_number sheets = option_map_or (λ sheet. sheet.number) (slice_get sheets (length sheets - 1)) 0

-- the households of the orders: one that begins comes behind the others
abbrev pub owners_after : OrderChange → List ℕ → List ℕ
owners_after (OrderChange.Begins household) owners = owners ++ household ∷ []
owners_after (OrderChange.Enters household) owners = owners ++ household ∷ []
owners_after _ owners = owners

-- The places that wait, by the sheets and orders behind the event: an order that is placed waits, one that is entered or replaced
-- does unless it has its sheet, the others being left as they are, and a sheet leaves those that it couldn't price.
abbrev pub waiting_after : OrderChange → List Sheet → List OrderRow → List ℕ → List ℕ → List ℕ
waiting_after OrderChange.Nothing sheets rows owners waiting = waiting
waiting_after (OrderChange.Begins household) sheets rows owners waiting = waiting ++ length owners ∷ []
waiting_after (OrderChange.Enters household) sheets rows owners waiting =
    with_settled (waits sheets) rows (length owners) (waiting ++ length owners ∷ [])
waiting_after (OrderChange.Replaces place) sheets rows owners waiting =
    with_settled (waits sheets) rows place (with_place place waiting)
waiting_after OrderChange.Priced sheets rows owners waiting =
    filter (passes_at (stays (last_number sheets) sheets) rows) waiting

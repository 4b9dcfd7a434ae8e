-- The orders of a journal as corrected: each with the place of the event that began it, and with the receipt and the content
-- of its last replacement; and whether it is struck.
use Rattle.std.specs.List.{list_any}
use Rattle.std.specs.Option.{option_map_or}
use Rattle.std.specs.Prelude.{Bool, List, None, Option, Some, [], ℕ, ◌&&◌, ◌++◌, ◌+◌, ◌==◌, ◌∷◌, false, find, map, not, option_to_list}
use Rattle.agent_events.specs.declared.event.EventKind.{EventKind}
use Rattle.agent_events.specs.declared.order.Order.{Order}
use Rattle.agent_events.specs.declared.order.OrderRow.{OrderRow}
use Rattle.agent_events.specs.declared.request.EntryForm.{EntryForm}
use Rattle.register_machine.specs.journal.Choices.{last_of}
use Rattle.register_machine.specs.journal.Journals.{Journal}
use Rattle.register_machine.specs.journal.Kinds.{each_in, replacement_in}

-- an order as it was sent
abbrev pub row_as_sent : ℕ → ℕ → Order → OrderRow
row_as_sent place receipt order = record { place = place; receipt = receipt; struck = false; order = order }

-- an order event and an entered order begin an order
abbrev pub order_begun : ℕ → EventKind → Option OrderRow
order_begun place (EventKind.Order placed) = Some (row_as_sent place placed.receipt placed.order)
order_begun place (EventKind.Enter form) = Some (row_as_sent place form.receipt form.order)
order_begun place _ = None

abbrev pub orders_begun : ℕ → Journal → List OrderRow
orders_begun place [] = []
orders_begun place (event ∷ later) = option_to_list (order_begun place event.kind) ++ orders_begun (place + 1) later

-- an order is named by its account and what the account calls it
abbrev pub is_named : ℕ → ℕ → Order → Bool
is_named account ref_no order = order.account == account && order.ref_no == ref_no

-- what strikes an order: a cancel that has it as its target, and a void
abbrev pub struck_in : EventKind → Option (ℕ × ℕ)
struck_in (EventKind.Cancel form) = Some (form.account, form.target)
struck_in (EventKind.Void form) = Some (form.account, form.ref_no)
struck_in _ = None

abbrev pub is_struck : List (ℕ × ℕ) → Order → Bool
is_struck strikes order = list_any (λ named. is_named named.0 named.1 order) strikes

abbrev pub replaces : Order → EntryForm → Bool
replaces order form = is_named order.account order.ref_no form.order

-- receipt and content are those of the last replacement, else its own
abbrev pub row_as_corrected : List (ℕ × ℕ) → List EntryForm → OrderRow → OrderRow
row_as_corrected strikes replacements row =
    let last = last_of (replaces row.order) replacements in
    record {
      place = row.place;
      receipt = option_map_or (λ form. form.receipt) last row.receipt;
      struck = is_struck strikes row.order;
      order = option_map_or (λ form. form.order) last row.order;
    }

abbrev pub orders_of : Journal → List OrderRow
orders_of journal =
    let strikes = each_in struck_in journal in
    let replacements = each_in replacement_in journal in
    map (row_as_corrected strikes replacements) (orders_begun 0 journal)

abbrev pub order_named : List OrderRow → ℕ → ℕ → Option OrderRow
order_named orders account ref_no = find (λ row. is_named account ref_no row.order) orders

-- the order stands: it isn't struck
abbrev pub stands : OrderRow → Bool
stands row = not row.struck

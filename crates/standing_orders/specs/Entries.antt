-- Rows under numbers, on their way into orders under numbers.
use Rattle.std.specs.Prelude.{Bool, List, None, Option, if◌then◌else◌, map, option_and_then, ℕ, ◌&&◌, ◌==◌}
use Rattle.std.specs.List.{slice_get}
use Rattle.agent_events.specs.Events.{Event}
use Rattle.agent_events.specs.declared.order.OrderRow.{OrderRow}
use Rattle.agent_events.specs.declared.request.AccountForm.{AccountForm}
use Rattle.forward_price.specs.declared.price_sheet.Sheet.{Sheet}
use Rattle.order_book.specs.Trials.{row_on_trial}
use Rattle.register_laws.specs.Households.{is_of_household}
use Rattle.register_machine.specs.journal.Choices.{when}
use Rattle.register_machine.specs.pricing.CorrectedOrders.{stands}
use Rattle.register_machine.specs.replay.Replay.{is_priced_on, priced_in}
use Rattle.checkpoint_replay.specs.Replays.{NumberedOrder}
use Rattle.standing_orders.specs.Rows.{sheet_number}
use Rattle.standing_orders.specs.declared.entries.NumberedRow.{NumberedRow}

-- the rows, and the numbers with the orders
abbrev pub row_of : NumberedRow → OrderRow
row_of entry = entry.row

abbrev pub rows_of : List NumberedRow → List OrderRow
rows_of entries = map row_of entries

abbrev pub order_of : NumberedRow → NumberedOrder
order_of entry = record { number = entry.number; order = entry.row.order }

abbrev pub is_under : ℕ → NumberedRow → Bool
is_under number entry = entry.number == number

-- the order stands, and the sheet of this number prices it
abbrev pub is_priced : ℕ → List Sheet → OrderRow → Bool
is_priced number sheets row = stands row && is_priced_on number (priced_in sheets row)

-- the row at a place under the number of its household, where it passes
abbrev pub owned_at : (OrderRow → Bool) → List OrderRow → List ℕ → ℕ → Option NumberedRow
owned_at test rows owners place =
    option_and_then (λ row.
    option_and_then (λ owner. when (test row) (record { number = owner; row = row }))
    (slice_get owners place))
    (slice_get rows place)

-- ---- the orders of a household

-- an order that stands, under the number of the sheet that prices it
abbrev pub numbered_on : List Sheet → OrderRow → Option NumberedRow
numbered_on sheets row =
    option_and_then (λ number. when (stands row) (record { number = number; row = row })) (sheet_number sheets row)

-- the order at a place as an event on trial leaves it
abbrev pub numbered_at : List Sheet → Option Event → List OrderRow → ℕ → Option NumberedRow
numbered_at sheets trial rows place =
    option_and_then (λ row. numbered_on sheets (row_on_trial trial row)) (slice_get rows place)

-- the order that an event on trial begins, where it is the household's
abbrev pub numbered_begun : List Sheet → List AccountForm → ℕ → Option OrderRow → Option NumberedRow
numbered_begun sheets accounts household begun =
    option_and_then (λ row. if is_of_household accounts household row.order.account then numbered_on sheets row else None) begun

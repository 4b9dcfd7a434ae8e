-- A dealer's lines: what may be asked in a batch, and the orders that lines place, with their events and rows.
use Rattle.std.specs.Prelude.{Bool, Err, List, None, Ok, Option, Some, [], false, map, true, ℕ, ◌+◌, ◌∷◌}
use Rattle.std.specs.List.{list_all}
use Rattle.agent_events.specs.Events.{Event}
use Rattle.agent_events.specs.VerbForms.{Asked}
use Rattle.agent_events.specs.declared.event.EventKind.{EventKind}
use Rattle.agent_events.specs.declared.event.Placed.{Placed}
use Rattle.agent_events.specs.declared.order.OrderRow.{OrderRow}
use Rattle.agent_events.specs.declared.request.Request.{Request}
use Rattle.register_machine.specs.pricing.CorrectedOrders.{row_as_sent}

-- what a record of a batch asks: a line, or the place of a field that isn't in its form
abbrev pub is_line : Asked → Bool
is_line (Ok (Request.Line line)) = true
is_line (Ok _) = false
is_line (Err place) = true

abbrev pub all_lines : List Asked → Bool
all_lines lines = list_all is_line lines

-- the events of the orders that lines placed, all at one moment
abbrev pub line_event : ℕ → Placed → Event
line_event moment placed = record { moment = moment; kind = EventKind.Order placed }

abbrev pub line_events : ℕ → List Placed → List Event
line_events moment placed = map (line_event moment) placed

-- the order of an event, where it is one of an order
abbrev pub placed_in : EventKind → Option Placed
placed_in (EventKind.Order placed) = Some placed
placed_in _ = None

-- their rows among the orders, behind so many events
abbrev pub rows_from : ℕ → List Placed → List OrderRow
rows_from place [] = []
rows_from place (placed ∷ later) = row_as_sent place placed.receipt placed.order ∷ rows_from (place + 1) later

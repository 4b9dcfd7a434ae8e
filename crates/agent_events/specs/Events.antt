-- What happened, as the journal keeps it. An event has the fields of the request that brought it; an order also keeps
-- where its receipt comes from, its receipt and the pricing moment at which it was due when it was accepted.
use Rattle.std.specs.Prelude.{ℕ, Bool, true, ◌&&◌, nat_le, List, length, Some, None, Option}
use Rattle.agent_events.specs.declared.request.LineForm.{LineForm}
use Rattle.agent_events.specs.declared.order.Order.{Order}
use Rattle.agent_events.specs.declared.request.Request.{Request}
use Rattle.agent_events.specs.declared.event.EventKind.{EventKind}
use Rattle.agent_events.specs.declared.event.Placed.{Placed}
use Rattle.agent_events.specs.declared.event.Source.{Source}

-- what happened, and when
pub record Event : Type 0 where
  pub moment : ℕ
  pub kind : EventKind

-- a stored row counts the items of a list in two bytes
abbrev pub fits_count : {X : Type 0} → List X → Bool
fits_count items = nat_le (length items) 65535

abbrev pub fits_row : EventKind → Bool
fits_row (EventKind.Calendar form) = fits_count form.holidays
fits_row (EventKind.Class form) = fits_count form.front && fits_count form.deferred
fits_row (EventKind.Sheet form) = fits_count form.prices
fits_row _ = true

-- an order of the operator or a household was asked for by itself, a dealer's by a line with its receipt
abbrev pub order_request : Source → ℕ → Order → Request
order_request Source.Direct receipt order = Request.Order order
order_request Source.Dealer receipt order = Request.Line (record { receipt = receipt; order = order })

-- the request that an event answers
abbrev pub request_of : EventKind → Request
request_of (EventKind.Calendar form) = Request.Calendar form
request_of (EventKind.Close form) = Request.Close form
request_of (EventKind.Class form) = Request.Class form
request_of (EventKind.Dealer form) = Request.Dealer form
request_of (EventKind.Household form) = Request.Household form
request_of (EventKind.Account form) = Request.Account form
request_of (EventKind.Order placed) = order_request placed.source placed.receipt placed.order
request_of (EventKind.Cancel form) = Request.Cancel form
request_of (EventKind.Sheet form) = Request.Sheet form
request_of (EventKind.Dividend form) = Request.Dividend form
request_of (EventKind.FixPrice form) = Request.FixPrice form
request_of (EventKind.FixRate form) = Request.FixRate form
request_of (EventKind.Enter form) = Request.Enter form
request_of (EventKind.Replace form) = Request.Replace form
request_of (EventKind.Void form) = Request.Void form

-- an order that is received now, and a line that a dealer received before
abbrev pub placed_now : Order → ℕ → ℕ → Placed
placed_now order now due = record { order = order; source = Source.Direct; receipt = now; due = due }

abbrev pub placed_by_dealer : LineForm → ℕ → Placed
placed_by_dealer line due = record { order = line.order; source = Source.Dealer; receipt = line.receipt; due = due }

-- the event that a request brings at a moment, an order with its due moment; a query brings none
abbrev pub event_of : Request → ℕ → ℕ → Option EventKind
event_of (Request.Calendar form) now due = Some (EventKind.Calendar form)
event_of (Request.Close form) now due = Some (EventKind.Close form)
event_of (Request.Class form) now due = Some (EventKind.Class form)
event_of (Request.Dealer form) now due = Some (EventKind.Dealer form)
event_of (Request.Household form) now due = Some (EventKind.Household form)
event_of (Request.Account form) now due = Some (EventKind.Account form)
event_of (Request.Sheet form) now due = Some (EventKind.Sheet form)
event_of (Request.Dividend form) now due = Some (EventKind.Dividend form)
event_of (Request.FixPrice form) now due = Some (EventKind.FixPrice form)
event_of (Request.FixRate form) now due = Some (EventKind.FixRate form)
event_of (Request.Enter form) now due = Some (EventKind.Enter form)
event_of (Request.Replace form) now due = Some (EventKind.Replace form)
event_of (Request.Void form) now due = Some (EventKind.Void form)
event_of (Request.Order order) now due = Some (EventKind.Order (placed_now order now due))
event_of (Request.Cancel form) now due = Some (EventKind.Cancel form)
event_of (Request.Show account) now due = None
event_of (Request.Trace form) now due = None
event_of (Request.Statement form) now due = None
event_of Request.Books now due = None
event_of (Request.Line line) now due = Some (EventKind.Order (placed_by_dealer line due))

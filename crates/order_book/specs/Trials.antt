-- The orders with an event on trial behind the journal.
use Rattle.std.specs.Prelude.{None, Option, Some, ℕ}
use Rattle.agent_events.specs.Events.{Event}
use Rattle.agent_events.specs.declared.event.EventKind.{EventKind}
use Rattle.agent_events.specs.declared.order.OrderRow.{OrderRow}
use Rattle.order_book.specs.Books.{Fits}
use Rattle.register_laws.specs.OneEventMore.{replaced_by, struck_by}
use Rattle.register_machine.specs.journal.Journals.{Journal, with_event}
use Rattle.register_machine.specs.pricing.CorrectedOrders.{order_begun}

-- the journal with the event on trial, where there is one
abbrev pub with_trial : Journal → Option Event → Journal
with_trial journal None = journal
with_trial journal (Some event) = with_event journal event

abbrev pub TrialFits : Journal → Option Event → Type 0
TrialFits journal None = Unit {0}
TrialFits journal (Some event) = Fits journal event

-- an order as an event on trial leaves it
abbrev pub row_after : EventKind → OrderRow → OrderRow
row_after (EventKind.Cancel form) row = struck_by (form.account, form.target) row
row_after (EventKind.Void form) row = struck_by (form.account, form.ref_no) row
row_after (EventKind.Replace form) row = replaced_by form row
row_after _ row = row

abbrev pub row_on_trial : Option Event → OrderRow → OrderRow
row_on_trial None row = row
row_on_trial (Some event) row = row_after event.kind row

-- the order that it begins
abbrev pub row_begun : ℕ → Option Event → Option OrderRow
row_begun place None = None
row_begun place (Some event) = order_begun place event.kind

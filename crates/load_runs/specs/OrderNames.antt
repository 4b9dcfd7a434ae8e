-- The names of the orders of a journal, each by the event that began it.
use Rattle.std.specs.Prelude.{List, None, Option, Some}
use Rattle.agent_events.specs.declared.event.EventKind.{EventKind}
use Rattle.agent_events.specs.declared.order.Order.{Order}
use Rattle.agent_events.specs.declared.request.TraceForm.{TraceForm}
use Rattle.register_machine.specs.journal.Journals.{Journal}
use Rattle.register_machine.specs.journal.Kinds.{each_in}

-- an order is named by its account and what the account calls it
abbrev pub name_of : Order → TraceForm
name_of order = record { account = order.account; ref_no = order.ref_no }

-- an order event and an entered order begin an order
abbrev pub name_begun : EventKind → Option TraceForm
name_begun (EventKind.Order placed) = Some (name_of placed.order)
name_begun (EventKind.Enter form) = Some (name_of form.order)
name_begun _ = None

abbrev pub order_names : Journal → List TraceForm
order_names journal = each_in name_begun journal

-- The reply to what an event says, behind the journal before it. A repeat gets it again, so it depends on nothing else.
use Rattle.std.specs.Prelude.{ℕ, ◌+◌, length}
use Rattle.agent_events.specs.Events.{Event}
use Rattle.agent_events.specs.declared.event.EventKind.{EventKind}
use Rattle.agent_events.specs.declared.event.Placed.{Placed}
use Rattle.agent_events.specs.declared.reply.Reply.{Reply}
use Rattle.forward_price.specs.PriceTables.{Table}
use Rattle.register_machine.specs.corrections.Gains.{gains_at}
use Rattle.register_machine.specs.journal.Journals.{Journal}
use Rattle.register_machine.specs.journal.Kinds.{each_in, sheet_in}
use Rattle.register_machine.specs.pricing.PublishedTable.{table_of}

-- an order is answered with its receipt and due moment, a correction with the gains of its own event

-- the reply to what an event says, behind the journal before it
abbrev pub order_reply : Placed → Reply
order_reply placed = Reply.Order (record {
  account = placed.order.account;
  ref_no = placed.order.ref_no;
  receipt = placed.receipt;
  due = placed.due;
})

abbrev pub fix_reply : Table → Journal → Event → ℕ → Reply
fix_reply table before event fix = Reply.Fix fix (gains_at table before event)

abbrev pub reply_by : Table → Journal → Event → EventKind → Reply
reply_by table before event (EventKind.Calendar form) = Reply.Calendar form.calendar
reply_by table before event (EventKind.Close form) = Reply.Close form
reply_by table before event (EventKind.Class form) = Reply.Class form.class
reply_by table before event (EventKind.Dealer form) = Reply.Dealer form.dealer
reply_by table before event (EventKind.Household form) = Reply.Household form.household
reply_by table before event (EventKind.Account form) = Reply.Account form.account
reply_by table before event (EventKind.Order placed) = order_reply placed
reply_by table before event (EventKind.Cancel form) = Reply.Cancel form
reply_by table before event (EventKind.Sheet form) = Reply.Sheet (length (each_in sheet_in before) + 1)
reply_by table before event (EventKind.Dividend form) = Reply.Dividend form.class form.moment
reply_by table before event (EventKind.FixPrice form) = fix_reply table before event form.fix
reply_by table before event (EventKind.FixRate form) = fix_reply table before event form.fix
reply_by table before event (EventKind.Enter form) = fix_reply table before event form.fix
reply_by table before event (EventKind.Replace form) = fix_reply table before event form.fix
reply_by table before event (EventKind.Void form) = fix_reply table before event form.fix

abbrev pub reply_of : Table → Journal → Event → Reply
reply_of table before event = reply_by table before event event.kind

-- a repeat gets the reply of its first event again, as it was behind the journal before that event
abbrev pub first_reply : Journal → Event → Reply
first_reply before event = reply_of (table_of before) before event

-- The state of an order: pending, struck, filled or unfilled, with its numbers.
use Rattle.std.specs.Option.{option_map_or}
use Rattle.std.specs.Prelude.{Bool, None, Option, Some, ℕ, false, find, if◌then◌else◌, true, unwrap_or}
use Rattle.agent_events.specs.declared.order.Body.{Body}
use Rattle.agent_events.specs.declared.order.OrderRow.{OrderRow}
use Rattle.agent_events.specs.declared.reply.OrderState.{OrderState}
use Rattle.agent_events.specs.declared.reply.Refusal.{Refusal}
use Rattle.agent_events.specs.declared.reply.Reply.{Reply}
use Rattle.agent_events.specs.declared.reply.TraceReply.{TraceReply}
use Rattle.agent_events.specs.declared.request.TraceForm.{TraceForm}
use Rattle.register_machine.specs.pricing.CorrectedBook.{Book, due_moment}
use Rattle.register_machine.specs.pricing.CorrectedOrders.{order_named}
use Rattle.register_machine.specs.replay.Replay.{replay}
use Rattle.agent_events.specs.declared.trade.Outcome.{Outcome}
use Rattle.agent_events.specs.declared.trade.Trade.{Trade}
use Rattle.agent_events.specs.declared.trade.Why.{Why}
use Rattle.register_machine.specs.rules.Breaks.{is_trade_of}
use Rattle.register_machine.specs.rules.Situations.{Situation}

abbrev pub state_by : Why → OrderState
state_by (Why.Short loose) = OrderState.Short
state_by Why.TooSmall = OrderState.Small
state_by Why.Ceiling = OrderState.Ceiling
state_by Why.LetterOpen = OrderState.Letter

abbrev pub loose_by : Why → ℕ
loose_by (Why.Short loose) = loose
loose_by _ = 0

-- an order without numbers: pending, struck, or unfilled
abbrev pub bare_trace : OrderRow → OrderState → ℕ → TraceReply
bare_trace row state due = record {
  account = row.order.account;
  ref_no = row.order.ref_no;
  state = state;
  receipt = row.receipt;
  due = due;
  price = 0;
  mils = 0;
  cash = 0;
  charge = 0;
  loose = 0;
}

-- a letter and an election have no numbers either
abbrev pub has_numbers : Body → Bool
has_numbers (Body.Letter class amount) = false
has_numbers (Body.Elect class in_cash) = false
has_numbers _ = true

abbrev pub with_numbers : OrderRow → TraceReply → Trade → TraceReply
with_numbers row trace_reply trade =
    if has_numbers row.order.body
    then record trace_reply { price = trade.price; mils = trade.mils; cash = trade.cash; charge = trade.charge }
    else trace_reply

abbrev pub trace_of_trade : OrderRow → Trade → Outcome → TraceReply
trace_of_trade row trade Outcome.Filled = with_numbers row (bare_trace row OrderState.Filled trade.moment) trade
trace_of_trade row trade (Outcome.Unfilled why) =
    record (bare_trace row (state_by why) trade.moment) { loose = loose_by why }

-- an order that no sheet has priced is due at its present due moment
abbrev pub trace_by : Book → OrderRow → Option Trade → TraceReply
trace_by book row None = bare_trace row OrderState.Pending (unwrap_or (due_moment book row) 0)
trace_by book row (Some trade) = trace_of_trade row trade trade.outcome

abbrev pub trace_of_row : Book → OrderRow → TraceReply
trace_of_row book row =
    if row.struck then bare_trace row OrderState.Struck (unwrap_or (due_moment book row) 0)
    else trace_by book row (find (is_trade_of row.order.account row.order.ref_no) (replay book).trades)

abbrev pub trace_reply : Situation → TraceForm → Reply
trace_reply situation form =
    option_map_or (λ row. Reply.Trace (trace_of_row situation.book row)) (order_named situation.book.orders form.account form.ref_no)
    (Reply.Refused (Refusal.NoSuch 2))

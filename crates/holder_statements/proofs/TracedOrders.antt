-- What became of an order, in any book of its table and by the trades of its household alone.
use Rattle.std.proofs.Common.{Bool, List, None, Option, Some, ap, cond, false, refl, sym, true, ◌∙◌, ◌≡◌}
use Rattle.std.specs.Option.{option_map_or}
use Rattle.std.specs.Prelude.{unwrap_or}
use Rattle.agent_events.specs.declared.order.OrderRow.{OrderRow}
use Rattle.agent_events.specs.declared.reply.OrderState.{OrderState}
use Rattle.agent_events.specs.declared.reply.TraceReply.{TraceReply}
use Rattle.agent_events.specs.declared.trade.Outcome.{Outcome}
use Rattle.agent_events.specs.declared.trade.Trade.{Trade}
use Rattle.forward_price.specs.PriceTables.{Table}
use Rattle.forward_price.specs.Turns.{due_of}
use Rattle.holder_statements.specs.OrderTraces.{book_over, state_among, state_by_outcome, trace_among, trade_among}
use Rattle.register_machine.specs.pricing.CorrectedBook.{Book, due_moment}
use Rattle.register_machine.specs.pricing.OrderClasses.{classes_in}
use Rattle.register_machine.specs.queries.Trace.{bare_trace, has_numbers, trace_by, trace_of_trade, with_numbers}

-- of the table alone
abbrev traced_by : Table → OrderRow → Bool → Option Trade → TraceReply
traced_by table row struck found =
    let due = unwrap_or (due_of table (classes_in row.order.body) row.receipt) 0 in
    cond struck (bare_trace row OrderState.Struck due) (elim found as (λ _. TraceReply) [
      | None ↦ bare_trace row OrderState.Pending due
      | Some trade ↦ trace_of_trade row trade trade.outcome
    ])

reads-table : (book : Book) (trades : List Trade) (row : OrderRow) → trace_among book trades row ≡ traced_by book.table row row.struck (trade_among trades row)
reads-table book trades row = by (trade_among trades row)
  where
    by : (found : Option Trade) → cond row.struck (bare_trace row OrderState.Struck (unwrap_or (due_moment book row) 0)) (trace_by book row found) ≡ traced_by book.table row row.struck found
    by None = refl
    by (Some trade) = refl

pub trace-over : (book : Book) (table : Table) (trades : List Trade) (row : OrderRow) → book.table ≡ table → trace_among (book_over table) trades row ≡ trace_among book trades row
trace-over book table trades row same =
    reads-table (book_over table) trades row
    ∙ (ap (λ t. traced_by t row row.struck (trade_among trades row)) (sym same) ∙ sym (reads-table book trades row))

-- the numbers leave the state as it is
numbers-alone : (row : OrderRow) (traced : TraceReply) (trade : Trade) → (with_numbers row traced trade).state ≡ traced.state
numbers-alone row traced trade = by (has_numbers row.order.body)
  where
    by : (b : Bool) → (cond b (record traced { price = trade.price; mils = trade.mils; cash = trade.cash; charge = trade.charge }) traced).state ≡ traced.state
    by true = refl
    by false = refl

state-of_trade : (row : OrderRow) (trade : Trade) (outcome : Outcome) → (trace_of_trade row trade outcome).state ≡ state_by_outcome outcome
state-of_trade row trade Outcome.Filled = numbers-alone row (bare_trace row OrderState.Filled trade.moment) trade
state-of_trade row trade (Outcome.Unfilled why) = refl

-- the state that a trace shows is the state alone
pub state_shown : (book : Book) (trades : List Trade) (row : OrderRow) → state_among trades row ≡ (trace_among book trades row).state
state_shown book trades row = by row.struck (trade_among trades row)
  where
    by : (struck : Bool) (found : Option Trade) → cond struck OrderState.Struck (option_map_or (λ (trade : Trade). state_by_outcome trade.outcome) found OrderState.Pending) ≡ (cond struck (bare_trace row OrderState.Struck (unwrap_or (due_moment book row) 0)) (trace_by book row found)).state
    by true found = refl
    by false None = refl
    by false (Some trade) = sym (state-of_trade row trade trade.outcome)

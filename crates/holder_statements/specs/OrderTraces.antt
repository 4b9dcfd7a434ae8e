-- What became of an order, by the trades of a list; its own, if there is one, is on the sheet of its next price.
use Rattle.std.specs.Option.{option_map_or}
use Rattle.std.specs.Prelude.{AllPairs, List, Option, [], find, if◌then◌else◌, unwrap_or, ◌≡◌, ◌≤◌}
use Rattle.agent_events.specs.declared.order.OrderRow.{OrderRow}
use Rattle.agent_events.specs.declared.reply.OrderState.{OrderState}
use Rattle.agent_events.specs.declared.reply.TraceReply.{TraceReply}
use Rattle.agent_events.specs.declared.trade.Outcome.{Outcome}
use Rattle.agent_events.specs.declared.trade.Trade.{Trade}
use Rattle.forward_price.specs.PriceTables.{Table}
use Rattle.forward_price.specs.declared.price_sheet.Sheet.{Sheet}
use Rattle.register_laws.specs.Priced.{sheet_found}
use Rattle.register_machine.specs.pricing.CorrectedBook.{Book, due_moment}
use Rattle.register_machine.specs.queries.Trace.{bare_trace, state_by, trace_by}
use Rattle.register_machine.specs.replay.Replay.{priced_in}
use Rattle.register_machine.specs.rules.Breaks.{is_trade_of}

-- the first trade of an order among these
abbrev pub trade_among : List Trade → OrderRow → Option Trade
trade_among trades row = find (is_trade_of row.order.account row.order.ref_no) trades

-- what became of it by these
abbrev pub trace_among : Book → List Trade → OrderRow → TraceReply
trace_among book trades row =
    if row.struck then bare_trace row OrderState.Struck (unwrap_or (due_moment book row) 0)
    else trace_by book row (trade_among trades row)

-- the state of an order by the outcome of its trade
abbrev pub state_by_outcome : Outcome → OrderState
state_by_outcome Outcome.Filled = OrderState.Filled
state_by_outcome (Outcome.Unfilled why) = state_by why

-- its state alone
abbrev pub state_among : List Trade → OrderRow → OrderState
state_among trades row =
    if row.struck then OrderState.Struck
    else option_map_or (λ trade. state_by_outcome trade.outcome) (trade_among trades row) OrderState.Pending

-- a book of this table alone, which is all that the due moment of an order reads
abbrev pub book_over : Table → Book
book_over table = record {
  table = table;
  classes = [];
  accounts = [];
  orders = [];
  rates = record { declared = []; fixed = [] };
}

-- trades never fall by the number of their sheet
abbrev pub NeverFall : List Trade → Type 0
NeverFall trades = AllPairs (λ trade later. trade.sheet ≤ later.sheet) trades

-- the sheet of the order's first trade is that of its next price
abbrev pub IsFoundOn : List Sheet → List Trade → OrderRow → Type 0
IsFoundOn sheets trades row = sheet_found trades row.order ≡ (priced_in sheets row).sheet

-- That `trace_reply` keeps its contract.
use Rattle.std.proofs.Common.{ap, ◌∙◌}
use Rattle.agent_events.specs.declared.reply.Reply.{Reply}
use Rattle.holder_statements.proofs.TracedOrders.{trace-over}
use Rattle.holder_statements.proofs.order_traces.trace_reply.Goals as goal

pub returns : goal.returns
returns c = λ book same.
    ap Reply.Trace (c.trace_of.ensures ∙ trace-over book c.args.prices.now.table c.args.trades.now c.args.row.now same)

-- That `add_underwriter` keeps its contract.
use Rattle.std.proofs.Common.{arith}
use Rattle.agent_events.specs.declared.order.Party.{Party}
use Rattle.gain_loss_book.proofs.trade_changes.add_underwriter.Goals as goal

pub and-tally-requires-clause-inflow : goal.and-tally-requires-clause-inflow
and-tally-requires-clause-inflow c = omega (arith, c.requires.within.cash_in Party.Underwriter, c.requires.small.inflow)

pub and-tally-requires-clause-outflow : goal.and-tally-requires-clause-outflow
and-tally-requires-clause-outflow c = omega (arith, c.requires.within.cash_out Party.Underwriter, c.requires.small.outflow)

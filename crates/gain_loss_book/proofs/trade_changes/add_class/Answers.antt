-- That `add_class` keeps its contract.
use Rattle.std.proofs.Common.{arith}
use Rattle.agent_events.specs.declared.order.Party.{Party}
use Rattle.gain_loss_book.proofs.trade_changes.add_class.Goals as goal

pub add_class-requires-clause-cash_in : goal.add_class-requires-clause-cash_in
add_class-requires-clause-cash_in c = omega (arith, c.requires.within.cash_in (Party.Class c.args.class), c.requires.small_cash.inflow)

pub add_class-requires-clause-cash_out : goal.add_class-requires-clause-cash_out
add_class-requires-clause-cash_out c = omega (arith, c.requires.within.cash_out (Party.Class c.args.class), c.requires.small_cash.outflow)

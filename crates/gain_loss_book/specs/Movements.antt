-- What trades bring and take of the shares of a class, as flows.
use Rattle.std.specs.Prelude.{List, sum_by, ℕ}
use Rattle.agent_events.specs.declared.trade.Trade.{Trade}
use Rattle.gain_loss_book.specs.declared.flows.Flow.{Flow}
use Rattle.register_machine.specs.replay.Movements.{mils_brought, mils_taken}

-- what a trade does
abbrev pub mils_flow_of : Trade → ℕ → Flow
mils_flow_of trade class = record { inflow = mils_brought class trade; outflow = mils_taken class trade }

-- what trades do
abbrev pub trades_mils : List Trade → ℕ → Flow
trades_mils trades class =
    record { inflow = sum_by (mils_brought class) trades; outflow = sum_by (mils_taken class) trades }

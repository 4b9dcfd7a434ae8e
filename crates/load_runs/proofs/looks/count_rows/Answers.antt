-- That `count_rows` keeps its contract.
use Rattle.std.proofs.Common.{Contains, List, arith, subst, sym}
use Rattle.agent_events.specs.declared.order.OrderRow.{OrderRow}
use Rattle.load_runs.proofs.looks.count_rows.Goals as goal

-- The order at hand is one of them.
pub order_state-state-requires : goal.order_state-state-requires
order_state-state-requires c =
    subst (λ (rows : List OrderRow). Contains rows c.row-item.result) c.requires
    (c.loop-row.row-index, omega (arith, c.loop-row-test.true), sym c.row-item.is)

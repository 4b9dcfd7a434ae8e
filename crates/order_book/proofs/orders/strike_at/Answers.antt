-- That `strike_at` keeps its contract.
use Rattle.std.proofs.Common.{ap, ◌∙◌}
use Rattle.std.specs.List.{slice_set}
use Rattle.agent_events.specs.declared.order.OrderRow.{OrderRow}
use Rattle.order_book.proofs.OrdersTaken.{changed-past, set-changed}
use Rattle.order_book.specs.Orders.{as_struck}
use Rattle.order_book.proofs.orders.strike_at.Goals as goal

pub returns-then-place-rows : goal.returns-then-place-rows
returns-then-place-rows c =
    ap (λ (row : OrderRow). slice_set c.args.rows.now c.args.place (as_struck row)) c.index-rows-place.is
    ∙ set-changed as_struck c.args.place c.args.rows.now c.index-rows-place.result c.if-place-rows.true

pub returns-else-place-rows : goal.returns-else-place-rows
returns-else-place-rows c = changed-past as_struck c.args.place c.args.rows.now c.if-place-rows.false

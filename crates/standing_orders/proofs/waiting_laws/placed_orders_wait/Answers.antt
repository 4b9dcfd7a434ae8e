-- The proof of the law `placed_orders_wait`.
use Rattle.std.proofs.Common.{[], length, ◌++◌, ◌∷◌}
use Rattle.agent_events.specs.declared.event.EventKind.{EventKind}
use Rattle.standing_orders.proofs.IndexSteps.{index-behind, keeps-placed, rises-more}
use Rattle.standing_orders.proofs.waiting_laws.placed_orders_wait.Goals as goal

pub returns : goal.returns
returns c journal event placed household owners waiting lawful kind own is =
    index-behind journal event lawful (EventKind.Order placed) kind (owners ++ household ∷ []) (waiting ++ length owners ∷ [])
    (rises-more owners waiting household is.within)
    (keeps-placed journal event placed household owners waiting lawful kind own is)

-- The proof of the law `entered_orders_may_wait`.
use Rattle.standing_orders.proofs.IndexSteps.{enters_order}
use Rattle.standing_orders.proofs.waiting_laws.entered_orders_may_wait.Goals as goal

pub returns : goal.returns
returns c = enters_order

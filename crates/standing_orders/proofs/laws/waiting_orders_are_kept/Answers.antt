-- The proof of the law `waiting_orders_are_kept`.
use Rattle.standing_orders.proofs.WaitingKept.{another_waits, one_more_waits}
use Rattle.standing_orders.proofs.laws.waiting_orders_are_kept.Goals as goal

pub returns-clause-order : goal.returns-clause-order
returns-clause-order c = one_more_waits

pub returns-clause-another : goal.returns-clause-another
returns-clause-another c = another_waits

-- The proof of the law `last_sheet_takes_what_waits`.
use Rattle.standing_orders.proofs.PricedLast.{all_left_wait, all_settled_wait, last_leaves, last_takes}
use Rattle.standing_orders.proofs.laws.last_sheet_takes_what_waits.Goals as goal

pub returns-clause-takes : goal.returns-clause-takes
returns-clause-takes c = last_takes

pub returns-clause-leaves : goal.returns-clause-leaves
returns-clause-leaves c = last_leaves

pub returns-clause-left : goal.returns-clause-left
returns-clause-left c = all_left_wait

pub returns-clause-settled : goal.returns-clause-settled
returns-clause-settled c = all_settled_wait

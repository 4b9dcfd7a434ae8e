-- The proof of the law `corrections_leave_settled_orders`.
use Rattle.std.proofs.Common.{subst, sym}
use Rattle.register_machine.specs.pricing.CorrectedBook.{Book}
use Rattle.standing_orders.proofs.SettledStay.{by-correction}
use Rattle.standing_orders.proofs.waiting_laws.corrections_leave_settled_orders.Goals as goal
use Rattle.standing_orders.specs.SettledOrders.{AreSettled}

pub returns : goal.returns
returns c journal event household first number goes corrects none few settled =
    subst (λ (book : Book). AreSettled book household first number) (sym goes)
    (by-correction journal event household first number few settled event.kind corrects none)

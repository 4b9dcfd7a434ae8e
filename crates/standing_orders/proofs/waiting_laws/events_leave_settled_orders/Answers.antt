-- The proof of the law `events_leave_settled_orders`.
use Rattle.std.proofs.Common.{refl, subst, sym}
use Rattle.register_laws.proofs.BooksGoOn.{book_goes_on}
use Rattle.register_machine.specs.pricing.CorrectedBook.{Book}
use Rattle.standing_orders.proofs.SettledStay.{by-event}
use Rattle.standing_orders.proofs.waiting_laws.events_leave_settled_orders.Goals as goal
use Rattle.standing_orders.specs.SettledOrders.{AreSettled}

pub returns : goal.returns
returns c journal event household first number lawful plain few settled =
    subst (λ (book : Book). AreSettled book household first number) (sym (book_goes_on journal event lawful))
    (by-event journal event household first number few settled lawful event.kind refl plain)

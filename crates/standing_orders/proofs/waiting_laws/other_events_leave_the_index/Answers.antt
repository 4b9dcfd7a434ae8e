-- The proof of the law `other_events_leave_the_index`.
use Rattle.std.proofs.Common.{refl}
use Rattle.standing_orders.proofs.IndexSteps.{index-behind, keeps-plain}
use Rattle.standing_orders.proofs.waiting_laws.other_events_leave_the_index.Goals as goal

pub returns : goal.returns
returns c journal event owners waiting lawful plain is =
    index-behind journal event lawful event.kind refl owners waiting is.within (keeps-plain journal event owners waiting is event.kind plain)

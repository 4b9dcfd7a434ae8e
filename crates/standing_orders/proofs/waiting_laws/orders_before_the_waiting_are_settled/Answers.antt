-- The proof of the law `orders_before_the_waiting_are_settled`.
use Rattle.standing_orders.proofs.SettledStay.{begun-before, settled-before}
use Rattle.standing_orders.proofs.waiting_laws.orders_before_the_waiting_are_settled.Goals as goal

pub returns : goal.returns
returns c journal owners waiting lawful is = record {
  begun = begun-before journal owners waiting is;
  settled = settled-before journal owners waiting lawful is;
}

-- That `Orders::reserve` keeps its contract.
use Rattle.std.proofs.Common.{arith}
use Rattle.order_book.proofs.orders.Orders.reserve.Goals as goal

pub returns-clause-kept : goal.returns-clause-kept
returns-clause-kept c = λ n room. record {
  rows = omega (arith, room.rows);
  names = c.reserve-2.ensures.kept n room.names;
}

-- That `Orders::begin` keeps its contract.
use Rattle.std.proofs.Common.{arith}
use Rattle.order_book.proofs.orders.Orders.begin.Goals as goal

pub returns-clause-room : goal.returns-clause-room
returns-clause-room c = λ n room. record {
  rows = omega (arith, room.rows);
  names = c.push.ensures.room n room.names;
}

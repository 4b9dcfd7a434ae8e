-- What holds at each turn of the loops of `OrderBook::has_bought`.
use Rattle.std.proofs.Common.{suc}
use Rattle.std.specs.Option.{option_map_or}
use Rattle.order_book.proofs.ChainWalk.{HasCome}
use Rattle.order_book.specs.LastPlaces.{is_order_of}
use Rattle.register_machine.specs.pricing.CorrectedOrders.{orders_of}
use Rattle.register_machine.specs.rules.Orders.{ordered_before}
use Rattle.order_book.proofs.book.OrderBook.has_bought.Given as goal

abbrev pub invariant-orders : goal.invariant-orders
invariant-orders l = HasCome (is_order_of l.row.order.account) (ordered_before l.row l.class) (orders_of l.self.journal) l.at

abbrev pub decreases-orders : goal.decreases-orders
decreases-orders l = option_map_or (λ n. suc n) l.at 0

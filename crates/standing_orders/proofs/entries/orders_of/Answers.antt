-- That `orders_of` keeps its contract.
use Rattle.standing_orders.proofs.GatheredRows.{up-to-next, written-more}
use Rattle.standing_orders.specs.Entries.{order_of}
use Rattle.standing_orders.proofs.entries.orders_of.Goals as goal

pub push-requires : goal.push-requires
push-requires c = up-to-next c.args.entries.now c.loop-entry.entry-index c.entry-item.result c.loop-entry.orders c.loop-entry-test.true c.entry-item.is c.requires c.loop-entry.invariant

pub loop-entry-preserved : goal.loop-entry-preserved
loop-entry-preserved c = written-more order_of c.args.entries.now c.loop-entry.entry-index c.entry-item.result c.loop-entry.orders c.push.new.self c.loop-entry-test.true c.entry-item.is c.loop-entry.invariant c.in_ok-push.ensures.ok

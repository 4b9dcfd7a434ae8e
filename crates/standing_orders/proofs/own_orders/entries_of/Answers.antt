-- That `entries_of` keeps its contract.
use Rattle.std.specs.Option.{option_copied}
use Rattle.register_machine.specs.pricing.CorrectedOrders.{orders_of}
use Rattle.standing_orders.proofs.GatheredRows.{gathered-at}
use Rattle.standing_orders.specs.Entries.{numbered_at}
use Rattle.standing_orders.proofs.own_orders.entries_of.Goals as goal

pub loop-place-preserved : goal.loop-place-preserved
loop-place-preserved c =
    gathered-at (numbered_at c.args.prices.now.table.sheets (option_copied c.args.trial) (orders_of c.args.book.now.journal)) c.as_slice-place-items.result.now c.loop-place.place-index c.loop-place.entries.items c.push_found.new.entries.items c.entry_at.result
    c.loop-place-test.true c.loop-place.invariant c.in_ok-push_found.ensures c.entry_at.ensures

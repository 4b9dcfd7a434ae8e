-- That `entries_priced` keeps its contract.
use Rattle.register_machine.specs.pricing.CorrectedOrders.{orders_of}
use Rattle.standing_orders.proofs.GatheredRows.{gathered-at}
use Rattle.standing_orders.specs.Entries.{owned_at}
use Rattle.standing_orders.specs.Rows.{is_taken}
use Rattle.standing_orders.proofs.sheet_orders.entries_priced.Goals as goal

pub loop-place-preserved : goal.loop-place-preserved
loop-place-preserved c =
    gathered-at (owned_at (is_taken c.args.sheet c.args.prices.now.table.sheets) (orders_of c.args.book.now.journal) c.args.index.now.owners) c.waiting-place-items.result.now c.loop-place.place-index c.loop-place.entries.items c.push_found.new.entries.items c.entry_priced.result
    c.loop-place-test.true c.loop-place.invariant c.in_ok-push_found.ensures c.entry_priced.ensures

-- That `settle_among` keeps its contract.
use Rattle.std.proofs.Common.{sym, ◌∙◌}
use Rattle.register_machine.specs.pricing.CorrectedOrders.{orders_of}
use Rattle.standing_orders.proofs.SettledPlaces.{settled-leaves, settled-stays}
use Rattle.standing_orders.specs.Rows.{waits}
use Rattle.standing_orders.proofs.waiting.settle_among.Goals as goal

pub returns-then-not-waits_at-clause-items : goal.returns-then-not-waits_at-clause-items
returns-then-not-waits_at-clause-items c =
    c.take_out.ensures.items
    ∙ sym (settled-leaves (waits c.args.prices.now.table.sheets) (orders_of c.args.book.now.journal) c.args.place (sym c.waits_at.ensures ∙ c.if-not-waits_at.true) c.args.places.now.items)

pub returns-else-not-waits_at-clause-items : goal.returns-else-not-waits_at-clause-items
returns-else-not-waits_at-clause-items c =
    sym (settled-stays (waits c.args.prices.now.table.sheets) (orders_of c.args.book.now.journal) c.args.place (sym c.waits_at.ensures ∙ c.if-not-waits_at.false) c.args.places.now.items)

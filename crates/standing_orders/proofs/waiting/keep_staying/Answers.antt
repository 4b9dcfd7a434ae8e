-- That `keep_staying` keeps its contract.
use Rattle.std.proofs.Common.{rules}
use Rattle.std.proofs.lemmas.Fn.{filter_same}
use Rattle.register_machine.specs.pricing.CorrectedOrders.{orders_of}
use Rattle.standing_orders.specs.Places.{passes_at}
use Rattle.standing_orders.specs.Rows.{stays}
use Rattle.standing_orders.proofs.waiting.keep_staying.Goals as goal

pub returns-clause-items : goal.returns-clause-items
returns-clause-items c = filter_same _ (passes_at (stays c.args.sheet c.args.prices.now.table.sheets) (orders_of c.args.book.now.journal)) _ (λ x b f k. search rules) _ _ c.retain.ensures.filtered

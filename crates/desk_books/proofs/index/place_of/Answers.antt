-- That `place_of` keeps its contract.
use Rattle.std.proofs.Common.{sym, ◌∙◌}
use Rattle.desk_books.proofs.NamedOrders.{has_place}
use Rattle.desk_books.proofs.index.place_of.Goals as goal
use Rattle.register_machine.specs.pricing.CorrectedOrders.{orders_of}

pub unreachable-requires : goal.unreachable-requires
unreachable-requires c =
    has_place (orders_of c.args.book.now.journal) c.args.account c.args.ref_no c.requires (sym c.order_place.ensures ∙ c.in-None.is)

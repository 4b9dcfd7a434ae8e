-- That `take_out` keeps its contract.
use Rattle.std.proofs.Common.{sym, vec_capacity, ◌∙◌}
use Rattle.standing_orders.proofs.SettledPlaces.{none-found, taken-found}
use Rattle.standing_orders.proofs.waiting.take_out.Goals as goal

pub returns-in-Ok-clause-items : goal.returns-in-Ok-clause-items
returns-in-Ok-clause-items c =
    c.remove.ensures.items
    ∙ (taken-found c.args.place (vec_capacity c.args.places.now) c.args.places.now.items c.as_slice.result.now c.in-Ok.at c.binary_search-found.result c.as_slice.ensures.value c.requires c.binary_search-found.ensures.position c.in-Ok.is).1

pub returns-in-Err-clause-items : goal.returns-in-Err-clause-items
returns-in-Err-clause-items c =
    sym (none-found c.args.place (vec_capacity c.args.places.now) c.args.places.now.items c.as_slice.result.now _ c.binary_search-found.result c.as_slice.ensures.value c.requires c.binary_search-found.ensures.position c.in-Err.is)

-- That `put_among` keeps its contract.
use Rattle.std.proofs.Common.{ap, arith, length, sym, vec_capacity, ◌∙◌}
use Rattle.standing_orders.proofs.RisingPlaces.{found-between, ok-leaves, room-between, stays-found}
use Rattle.standing_orders.proofs.waiting.put_among.Goals as goal

pub unwrap-requires : goal.unwrap-requires
unwrap-requires c =
    let put = found-between c.args.place (vec_capacity c.args.places.now) c.args.places.now.items c.as_slice.result.now c.in-Err.at c.binary_search-found.result c.as_slice.ensures.value c.requires.rises c.binary_search-found.ensures.position c.in-Err.is in
    let room = room-between c.args.place (vec_capacity c.args.places.now) c.args.places.now.items c.in-Err.at c.requires.rises c.requires.within put in
    c.insert-put.ensures.succeeds (omega (arith, room, c.as_slice.ensures.len, ap length c.as_slice.ensures.value))

pub returns-in-Err-clause-items : goal.returns-in-Err-clause-items
returns-in-Err-clause-items c =
    let put = found-between c.args.place (vec_capacity c.args.places.now) c.args.places.now.items c.as_slice.result.now c.in-Err.at c.binary_search-found.result c.as_slice.ensures.value c.requires.rises c.binary_search-found.ensures.position c.in-Err.is in
    let room = room-between c.args.place (vec_capacity c.args.places.now) c.args.places.now.items c.in-Err.at c.requires.rises c.requires.within put in
    ok-leaves c.insert-put.result _ _ _ (c.insert-put.ensures.succeeds (omega (arith, room, c.as_slice.ensures.len, ap length c.as_slice.ensures.value))) c.insert-put.ensures.items ∙ put

pub returns-in-Ok-clause-items : goal.returns-in-Ok-clause-items
returns-in-Ok-clause-items c =
    sym (stays-found c.args.place (vec_capacity c.args.places.now) c.args.places.now.items c.as_slice.result.now _ c.binary_search-found.result c.as_slice.ensures.value c.requires.rises c.binary_search-found.ensures.position c.in-Ok.is)

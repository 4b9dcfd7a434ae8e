-- That `found` keeps its contract.
use Rattle.std.proofs.Common.{sym, ◌∙◌}
use Rattle.household_positions.proofs.PlaceFacts.{holds-at, none-at, none-found}
use Rattle.household_positions.proofs.places.found.Goals as goal

pub returns-then-stands_in : goal.returns-then-stands_in
returns-then-stands_in c =
    let held = holds-at c.args.account c.args.class c.args.positions.now c.place_of-place.result c.requires c.place_of-place.ensures.point (sym c.stands_in.ensures ∙ c.if-stands_in.true) in
    c.in_place.ensures ∙ sym held.found

pub returns-else-stands_in : goal.returns-else-stands_in
returns-else-stands_in c =
    sym (none-found c.args.account c.args.class c.args.positions.now
    (none-at c.args.account c.args.class c.args.positions.now c.place_of-place.result c.requires c.place_of-place.ensures.point (sym c.stands_in.ensures ∙ c.if-stands_in.false)))

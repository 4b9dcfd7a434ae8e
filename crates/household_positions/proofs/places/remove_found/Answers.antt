-- That `remove_found` keeps its contract.
use Rattle.std.proofs.Common.{false, slice_get, sym, true, ◌∙◌, ◌≡◌}
use Rattle.std.specs.Option.{option_map_or}
use Rattle.register_machine.specs.replay.Positions.{is_position}
use Rattle.household_positions.proofs.PlaceFacts.{IsPlace, holds-at, none-at, none-found, none-left, read-at, without-register}
use Rattle.household_positions.proofs.places.remove_found.Goals as goal

pub returns-then-stands_in-clause-found : goal.returns-then-stands_in-clause-found
returns-then-stands_in-clause-found c =
    let items = c.args.positions.now.items in
    let point : IsPlace c.args.account c.args.class items c.place_of-place.result = rw (← c.deref.ensures.value) c.place_of-place.ensures.point in
    let stands : option_map_or (is_position c.args.account c.args.class) (slice_get items c.place_of-place.result) false ≡ true = rw (← c.deref-2.ensures.value) (sym c.stands_in.ensures ∙ c.if-stands_in.true) in
    let held = holds-at c.args.account c.args.class items c.place_of-place.result c.requires.ordered point stands in
    sym (held.found ∙ read-at c.args.account c.args.class items c.place_of-place.result c.remove.result stands c.remove.ensures.value)

pub returns-then-stands_in-clause-rest : goal.returns-then-stands_in-clause-rest
returns-then-stands_in-clause-rest c =
    let items = c.args.positions.now.items in
    let point : IsPlace c.args.account c.args.class items c.place_of-place.result = rw (← c.deref.ensures.value) c.place_of-place.ensures.point in
    let stands : option_map_or (is_position c.args.account c.args.class) (slice_get items c.place_of-place.result) false ≡ true = rw (← c.deref-2.ensures.value) (sym c.stands_in.ensures ∙ c.if-stands_in.true) in
    let held = holds-at c.args.account c.args.class items c.place_of-place.result c.requires.ordered point stands in
    c.remove.ensures.items ∙ sym held.rest

pub returns-then-stands_in-clause-register : goal.returns-then-stands_in-clause-register
returns-then-stands_in-clause-register c =
    rw (returns-then-stands_in-clause-rest c) (without-register c.args.account c.args.class c.args.positions.now.items c.requires)

pub returns-else-stands_in-clause-found : goal.returns-else-stands_in-clause-found
returns-else-stands_in-clause-found c =
    let items = c.args.positions.now.items in
    let point : IsPlace c.args.account c.args.class items c.place_of-place.result = rw (← c.deref.ensures.value) c.place_of-place.ensures.point in
    let stands : option_map_or (is_position c.args.account c.args.class) (slice_get items c.place_of-place.result) false ≡ false = rw (← c.deref-2.ensures.value) (sym c.stands_in.ensures ∙ c.if-stands_in.false) in
    sym (none-found c.args.account c.args.class items (none-at c.args.account c.args.class items c.place_of-place.result c.requires.ordered point stands))

pub returns-else-stands_in-clause-rest : goal.returns-else-stands_in-clause-rest
returns-else-stands_in-clause-rest c =
    let items = c.args.positions.now.items in
    let point : IsPlace c.args.account c.args.class items c.place_of-place.result = rw (← c.deref.ensures.value) c.place_of-place.ensures.point in
    let stands : option_map_or (is_position c.args.account c.args.class) (slice_get items c.place_of-place.result) false ≡ false = rw (← c.deref-2.ensures.value) (sym c.stands_in.ensures ∙ c.if-stands_in.false) in
    sym (none-left c.args.account c.args.class items (none-at c.args.account c.args.class items c.place_of-place.result c.requires.ordered point stands))

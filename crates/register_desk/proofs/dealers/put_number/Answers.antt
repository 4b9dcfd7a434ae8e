-- That `put_number` keeps its contract.
use Rattle.std.proofs.Common.{false, slice_get, sym, true, ◌==◌, ◌∙◌, ◌≡◌}
use Rattle.std.specs.Option.{option_map_or}
use Rattle.holder_statements.proofs.ClassesListed.{rising-placed}
use Rattle.register_desk.proofs.NumbersPlaced.{IsPlaceOf, placed_new, placed_there}
use Rattle.register_desk.proofs.dealers.put_number.Goals as goal

pub returns-then-stands_at-clause-numbers : goal.returns-then-stands_at-clause-numbers
returns-then-stands_at-clause-numbers c =
    let items = c.args.numbers.now.items in
    let n = c.args.number in
    let point : IsPlaceOf n items c.place_of-place.result = rw (← c.deref.ensures.value) c.place_of-place.ensures.point in
    let there : option_map_or (λ other. other == n) (slice_get items c.place_of-place.result) false ≡ true = rw (← c.deref-2.ensures.value) (sym c.stands_at.ensures ∙ c.if-stands_at.true) in
    sym (placed_there n items c.place_of-place.result c.requires point there)

pub returns-clause-numbers : goal.returns-clause-numbers
returns-clause-numbers c =
    let items = c.args.numbers.now.items in
    let n = c.args.number in
    let point : IsPlaceOf n items c.place_of-place.result = rw (← c.deref.ensures.value) c.place_of-place.ensures.point in
    let new : option_map_or (λ other. other == n) (slice_get items c.place_of-place.result) false ≡ false = rw (← c.deref-2.ensures.value) (sym c.stands_at.ensures ∙ c.if-stands_at.false) in
    c.in_ok-insert.ensures.items ∙ sym (placed_new n items c.place_of-place.result c.requires point new)

pub returns-clause-rise : goal.returns-clause-rise
returns-clause-rise c = rw (returns-clause-numbers c) (rising-placed c.args.number c.args.numbers.now.items c.requires)

-- That `insert_kept` keeps its contract.
use Rattle.std.proofs.Common.{ap, sym, ◌∙◌}
use Rattle.std.specs.List.{insert}
use Rattle.household_positions.proofs.PlaceFacts.{IsPlace, fresh-put, kept-put, put-register}
use Rattle.household_positions.proofs.places.insert_kept.Goals as goal

pub returns-then-is_fresh-clause-ok : goal.returns-then-is_fresh-clause-ok
returns-then-is_fresh-clause-ok c =
    let items = c.args.positions.now.items in
    let p = c.args.position in
    let point : IsPlace p.account p.class items c.place_for-place.result = rw (← c.deref.ensures.value) c.place_for-place.ensures.point in
    fresh-put p items c.place_for-place.result point c.requires.absent (sym c.is_fresh.ensures ∙ c.if-is_fresh.true)

pub returns-clause-ok : goal.returns-clause-ok
returns-clause-ok c =
    let items = c.args.positions.now.items in
    let p = c.args.position in
    let point : IsPlace p.account p.class items c.place_for-place.result = rw (← c.deref.ensures.value) c.place_for-place.ensures.point in
    c.in_ok-insert.ensures.items ∙ ap (insert items c.place_for-place.result) c.in_ok-kept.ensures
    ∙ kept-put p items c.place_for-place.result point c.requires.absent (sym c.is_fresh.ensures ∙ c.if-is_fresh.false)

pub returns-clause-register : goal.returns-clause-register
returns-clause-register c = rw (returns-clause-ok c) (put-register c.args.position c.args.positions.now.items c.requires.register)

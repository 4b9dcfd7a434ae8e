-- That `put_dividend` keeps its contract.
use Rattle.std.proofs.Common.{sym, ◌∙◌}
use Rattle.household_fold.proofs.LookUps.{rate_in_place}
use Rattle.household_fold.specs.Facts.{rate_stands_before}
use Rattle.reference_tables.proofs.PutRows.{IsPlace, insert-new, there-new}
use Rattle.reference_tables.specs.Tables.{is_rate_of}
use Rattle.reference_tables.proofs.places.put_dividend.Goals as goal

pub returns-then-not-has_rate_at : goal.returns-then-not-has_rate_at
returns-then-not-has_rate_at c =
    let rates = c.args.rates.now in
    let row = c.args.row in
    let place = c.place_of_rate-place.result in
    let point : IsPlace (rate_stands_before row.class row.moment) rates place =
    rw (← c.as_slice.ensures) c.place_of_rate-place.ensures.point in
    c.insert_row.ensures
    ∙ insert-new (rate_stands_before row.class row.moment) (is_rate_of row.class row.moment) row rates place point
    (rate_in_place rates row.class row.moment place c.requires.rise point)
    (rw (← c.as_slice-2.ensures) (sym c.has_rate_at.ensures ∙ c.if-not-has_rate_at.true))

pub returns-else-not-has_rate_at : goal.returns-else-not-has_rate_at
returns-else-not-has_rate_at c =
    let rates = c.args.rates.now in
    let row = c.args.row in
    let place = c.place_of_rate-place.result in
    let point : IsPlace (rate_stands_before row.class row.moment) rates place =
    rw (← c.as_slice.ensures) c.place_of_rate-place.ensures.point in
    there-new (rate_stands_before row.class row.moment) (is_rate_of row.class row.moment) row rates place
    (rate_in_place rates row.class row.moment place c.requires.rise point)
    (rw (← c.as_slice-2.ensures) (sym c.has_rate_at.ensures ∙ c.if-not-has_rate_at.false))

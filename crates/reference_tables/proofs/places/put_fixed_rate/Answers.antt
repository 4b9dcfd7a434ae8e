-- That `put_fixed_rate` keeps its contract.
use Rattle.std.proofs.Common.{sym, ◌∙◌}
use Rattle.household_fold.specs.Facts.{rate_stands_before}
use Rattle.reference_tables.proofs.PutRows.{IsPlace, insert-put, write-put}
use Rattle.reference_tables.specs.Tables.{is_rate_of}
use Rattle.reference_tables.proofs.places.put_fixed_rate.Goals as goal

pub returns-then-has_rate_at : goal.returns-then-has_rate_at
returns-then-has_rate_at c =
    let rates = c.args.rates.now in
    let row = c.args.row in
    let place = c.place_of_rate-place.result in
    let point : IsPlace (rate_stands_before row.class row.moment) rates place =
    rw (← c.as_slice.ensures) c.place_of_rate-place.ensures.point in
    c.write_row.ensures
    ∙ write-put (rate_stands_before row.class row.moment) (is_rate_of row.class row.moment) row rates place point
    (rw (← c.as_slice-2.ensures) (sym c.has_rate_at.ensures ∙ c.if-has_rate_at.true))

pub returns-else-has_rate_at : goal.returns-else-has_rate_at
returns-else-has_rate_at c =
    let rates = c.args.rates.now in
    let row = c.args.row in
    let place = c.place_of_rate-place.result in
    let point : IsPlace (rate_stands_before row.class row.moment) rates place =
    rw (← c.as_slice.ensures) c.place_of_rate-place.ensures.point in
    c.insert_row.ensures
    ∙ insert-put (rate_stands_before row.class row.moment) (is_rate_of row.class row.moment) row rates place point
    (rw (← c.as_slice-2.ensures) (sym c.has_rate_at.ensures ∙ c.if-has_rate_at.false))

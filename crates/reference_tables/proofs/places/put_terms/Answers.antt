-- That `put_terms` keeps its contract.
use Rattle.std.proofs.Common.{nat_lt, sym, ◌∙◌}
use Rattle.household_fold.proofs.LookUps.{by_number}
use Rattle.reference_tables.proofs.PutRows.{IsPlace, insert-new, there-new}
use Rattle.reference_tables.specs.Tables.{has_class_number}
use Rattle.reference_tables.proofs.places.put_terms.Goals as goal

pub returns-then-not-has_class_at : goal.returns-then-not-has_class_at
returns-then-not-has_class_at c =
    let terms = c.args.terms.now in
    let row = c.args.row in
    let place = c.place_of_terms-place.result in
    let point : IsPlace (λ r. nat_lt r.class row.class) terms place =
    rw (← c.as_slice.ensures, ← c.class-class.ensures) c.place_of_terms-place.ensures.point in
    c.insert_row.ensures
    ∙ insert-new (λ r. nat_lt r.class row.class) (has_class_number row.class) row terms place point
    (by_number (λ r. r.class) terms row.class place c.requires.rise point)
    (rw (← c.as_slice-2.ensures, ← c.class-class.ensures) (sym c.has_class_at.ensures ∙ c.if-not-has_class_at.true))

pub returns-else-not-has_class_at : goal.returns-else-not-has_class_at
returns-else-not-has_class_at c =
    let terms = c.args.terms.now in
    let row = c.args.row in
    let place = c.place_of_terms-place.result in
    let point : IsPlace (λ r. nat_lt r.class row.class) terms place =
    rw (← c.as_slice.ensures, ← c.class-class.ensures) c.place_of_terms-place.ensures.point in
    there-new (λ r. nat_lt r.class row.class) (has_class_number row.class) row terms place
    (by_number (λ r. r.class) terms row.class place c.requires.rise point)
    (rw (← c.as_slice-2.ensures, ← c.class-class.ensures) (sym c.has_class_at.ensures ∙ c.if-not-has_class_at.false))

-- That `put_account` keeps its contract.
use Rattle.std.proofs.Common.{nat_lt, sym, ◌∙◌}
use Rattle.household_fold.proofs.LookUps.{by_number}
use Rattle.reference_tables.proofs.PutRows.{IsPlace, insert-new, there-new}
use Rattle.reference_tables.specs.Tables.{has_account_number}
use Rattle.reference_tables.proofs.places.put_account.Goals as goal

pub returns-then-not-has_account_at : goal.returns-then-not-has_account_at
returns-then-not-has_account_at c =
    let accounts = c.args.accounts.now in
    let row = c.args.row in
    let place = c.place_of_account-place.result in
    let point : IsPlace (λ r. nat_lt r.account row.account) accounts place =
    rw (← c.as_slice.ensures) c.place_of_account-place.ensures.point in
    c.insert_row.ensures
    ∙ insert-new (λ r. nat_lt r.account row.account) (has_account_number row.account) row accounts place point
    (by_number (λ r. r.account) accounts row.account place c.requires.rise point)
    (rw (← c.as_slice-2.ensures) (sym c.has_account_at.ensures ∙ c.if-not-has_account_at.true))

pub returns-else-not-has_account_at : goal.returns-else-not-has_account_at
returns-else-not-has_account_at c =
    let accounts = c.args.accounts.now in
    let row = c.args.row in
    let place = c.place_of_account-place.result in
    let point : IsPlace (λ r. nat_lt r.account row.account) accounts place =
    rw (← c.as_slice.ensures) c.place_of_account-place.ensures.point in
    there-new (λ r. nat_lt r.account row.account) (has_account_number row.account) row accounts place
    (by_number (λ r. r.account) accounts row.account place c.requires.rise point)
    (rw (← c.as_slice-2.ensures) (sym c.has_account_at.ensures ∙ c.if-not-has_account_at.false))

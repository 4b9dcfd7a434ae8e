-- The proof of the law `lawful_rows_are_not_damaged`.
use Rattle.register_desk.proofs.GoodRows.{not_damaged}
use Rattle.register_desk.proofs.laws.lawful_rows_are_not_damaged.Goals as goal

pub returns : goal.returns
returns c = not_damaged c.no_row_begins_another.ensures

-- The proof of the law `rows_are_exact`.
use Rattle.state_rows.proofs.EachPart.{row_again, row_takes}
use Rattle.state_rows.proofs.laws.rows_are_exact.Goals as goal

pub returns : goal.returns
returns c = record { takes = row_takes; again = row_again }

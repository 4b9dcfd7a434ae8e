-- The worked rows of `next_lots_of_a_row`, reckoned.
use Rattle.std.proofs.Common.{refl}
use Rattle.state_rows.proofs.RowsOnLiterals.{rows_on_literals}
use Rattle.state_rows.proofs.worked.next_lots_of_a_row.Goals as goal

pub returns-clause-fresh : goal.returns-clause-fresh
unfolding rows_on_literals
returns-clause-fresh c = refl

pub returns-clause-second : goal.returns-clause-second
unfolding rows_on_literals
returns-clause-second c = refl

pub returns-clause-most : goal.returns-clause-most
unfolding rows_on_literals
returns-clause-most c = refl

pub returns-clause-more : goal.returns-clause-more
unfolding rows_on_literals
returns-clause-more c = refl

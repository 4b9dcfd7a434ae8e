-- The worked rows of `lots_of_an_account`, reckoned.
use Rattle.std.proofs.Common.{refl}
use Rattle.state_rows.proofs.worked.lots_of_an_account.Goals as goal

pub returns-clause-most : goal.returns-clause-most
returns-clause-most c = refl

pub returns-clause-more : goal.returns-clause-more
returns-clause-more c = refl

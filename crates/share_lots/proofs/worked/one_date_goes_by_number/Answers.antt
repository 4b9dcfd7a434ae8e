-- The worked rows of `one_date_goes_by_number`, reckoned.
use Rattle.std.proofs.Common.{refl}
use Rattle.share_lots.specs.Taking.{pieces, lots_less}
use Rattle.share_lots.proofs.worked.one_date_goes_by_number.Goals as goal

pub returns-clause-third : goal.returns-clause-third
unfolding pieces lots_less
returns-clause-third c = refl

-- The worked rows of `free_shares_go_first`, reckoned.
use Rattle.std.proofs.Common.{refl}
use Rattle.share_lots.specs.Taking.{pieces, lots_less}
use Rattle.share_lots.proofs.worked.free_shares_go_first.Goals as goal

pub returns-clause-pieces : goal.returns-clause-pieces
unfolding pieces lots_less
returns-clause-pieces c = refl

pub returns-clause-rest : goal.returns-clause-rest
unfolding pieces lots_less
returns-clause-rest c = refl

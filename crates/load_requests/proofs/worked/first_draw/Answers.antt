-- The worked rows of `first_draw`, reckoned.
use Rattle.std.proofs.Common.{refl}
use Rattle.load_requests.proofs.LoadOnLiterals.{load_on_literals}
use Rattle.load_requests.proofs.worked.first_draw.Goals as goal

pub returns-clause-state : goal.returns-clause-state
unfolding load_on_literals
returns-clause-state c = refl

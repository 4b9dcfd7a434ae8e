-- The worked rows of `first_correction`, reckoned.
use Rattle.std.proofs.Common.{refl}
use Rattle.load_requests.proofs.LoadOnLiterals.{load_on_literals}
use Rattle.load_requests.proofs.worked.first_correction.Goals as goal

pub returns-clause-moment : goal.returns-clause-moment
unfolding load_on_literals
returns-clause-moment c = refl

-- The worked rows of `summary_without_days`, reckoned.
use Rattle.std.proofs.Common.{refl}
use Rattle.load_requests.proofs.LoadOnLiterals.{load_on_literals}
use Rattle.load_requests.proofs.worked.summary_without_days.Goals as goal

pub returns : goal.returns
unfolding load_on_literals
returns c = refl

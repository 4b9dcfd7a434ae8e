-- The worked rows of `load_of_one_day`, reckoned.
use Rattle.std.proofs.Common.{refl}
use Rattle.load_requests.proofs.LoadOnLiterals.{load_on_literals}
use Rattle.load_requests.proofs.worked.load_of_one_day.Goals as goal

pub returns : goal.returns
unfolding load_on_literals
returns c = refl

-- The worked rows of `first_moments`, reckoned.
use Rattle.std.proofs.Common.{refl}
use Rattle.load_requests.proofs.LoadOnLiterals.{load_on_literals}
use Rattle.load_requests.proofs.worked.first_moments.Goals as goal

pub returns-clause-tuesday : goal.returns-clause-tuesday
unfolding load_on_literals
returns-clause-tuesday c = refl

pub returns-clause-wednesday : goal.returns-clause-wednesday
unfolding load_on_literals
returns-clause-wednesday c = refl

pub returns-clause-monday : goal.returns-clause-monday
unfolding load_on_literals
returns-clause-monday c = refl

-- The proof of the law `requests_never_step_back`.
use Rattle.load_requests.proofs.TurnFacts.{never_fall}
use Rattle.load_requests.proofs.laws.requests_never_step_back.Goals as goal

pub returns : goal.returns
returns c = λ load short. never_fall load short

-- The proof of the law `orders_are_counted`.
use Rattle.load_runs.proofs.TracesCounted.{traces_counted}
use Rattle.load_runs.proofs.laws.orders_are_counted.Goals as goal

pub returns : goal.returns
returns c = λ test journal lawful. traces_counted test journal lawful

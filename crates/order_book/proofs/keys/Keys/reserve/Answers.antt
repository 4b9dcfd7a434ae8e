-- That `Keys::reserve` keeps its contract.
use Rattle.order_book.proofs.keys.Keys.reserve.Goals as goal
use Rattle.order_book.specs.Indexes.{key_text}

pub returns-clause-same : goal.returns-clause-same
returns-clause-same c = λ key. c.reserve.ensures.entries.2 (key_text key)

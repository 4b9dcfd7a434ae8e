-- The proof of the law `trades_move_little_together`.
use Rattle.limit_laws.proofs.AllMoved.{counted_moves_little}
use Rattle.limit_laws.proofs.trade_laws.trades_move_little_together.Goals as goal

pub returns : goal.returns
returns c = counted_moves_little

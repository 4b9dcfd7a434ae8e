-- The proof of the law `numbers_of_lots_never_fall`.
use Rattle.checkpoint_replay.proofs.PremiseFacts.{days_numbers}
use Rattle.checkpoint_replay.proofs.laws.numbers_of_lots_never_fall.Goals as goal

pub returns : goal.returns
returns c = λ known rows from count day within. days_numbers known rows from count day within

-- The proof of the law `numbers_are_met_as_they_rise`.
use Rattle.checkpoint_replay.proofs.MetFacts.{met-rising}
use Rattle.checkpoint_replay.proofs.number_laws.numbers_are_met_as_they_rise.Goals as goal

pub returns : goal.returns
returns c = λ rows rise. met-rising rows rise

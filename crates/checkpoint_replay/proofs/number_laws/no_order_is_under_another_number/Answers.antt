-- The proof of the law `no_order_is_under_another_number`.
use Rattle.checkpoint_replay.proofs.MetFacts.{met-none}
use Rattle.checkpoint_replay.proofs.number_laws.no_order_is_under_another_number.Goals as goal

pub returns : goal.returns
returns c = λ rows number never. met-none rows number never

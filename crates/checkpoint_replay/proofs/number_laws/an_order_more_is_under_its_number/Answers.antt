-- The proof of the law `an_order_more_is_under_its_number`.
use Rattle.checkpoint_replay.proofs.NumberFacts.{under-other, under-own}
use Rattle.checkpoint_replay.proofs.number_laws.an_order_more_is_under_its_number.Goals as goal

pub returns-clause-own : goal.returns-clause-own
returns-clause-own c = λ rows row. under-own rows row

pub returns-clause-other : goal.returns-clause-other
returns-clause-other c = λ rows row number apart. under-other rows row number apart

-- The proof of the law `each_number_is_met_once`.
use Rattle.checkpoint_replay.proofs.MetFacts.{met-apart, met-each, met-no_other}
use Rattle.checkpoint_replay.proofs.number_laws.each_number_is_met_once.Goals as goal

pub returns-clause-once : goal.returns-clause-once
returns-clause-once c = λ rows. met-apart rows

pub returns-clause-each : goal.returns-clause-each
returns-clause-each c = λ rows number has. met-each rows number has

pub returns-clause-no_other : goal.returns-clause-no_other
returns-clause-no_other c = λ rows number has. met-no_other rows number has

-- The proof of the law `the_least_turn_is_kept`.
use Rattle.desk_books.proofs.LeastTurn.{least_stays}
use Rattle.desk_books.proofs.effect_laws.the_least_turn_is_kept.Goals as goal

pub returns-clause-more : goal.returns-clause-more
returns-clause-more c = least_stays

-- The proof of the law `the_least_is_the_first_of_all`.
use Rattle.desk_books.proofs.FirstOfAll.{least_is_first, none_is_broken}
use Rattle.desk_books.proofs.effect_laws.the_least_is_the_first_of_all.Goals as goal

pub returns-clause-least : goal.returns-clause-least
returns-clause-least c = least_is_first

pub returns-clause-none : goal.returns-clause-none
returns-clause-none c = none_is_broken

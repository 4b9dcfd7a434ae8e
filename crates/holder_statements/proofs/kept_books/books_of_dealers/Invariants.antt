-- The books of the dealers so far.
use Rattle.std.proofs.Common.{map, take, ◌≡◌}
use Rattle.holder_statements.specs.KeptBooks.{dealer_kept}
use Rattle.holder_statements.proofs.kept_books.books_of_dealers.Given as goal

abbrev pub invariant-loop-dealer : goal.invariant-loop-dealer
invariant-loop-dealer l = l.books ≡ map (dealer_kept l.cash) (take l.dealer-index l.dealers)

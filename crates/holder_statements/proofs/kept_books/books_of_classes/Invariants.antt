-- The books of the classes so far.
use Rattle.std.proofs.Common.{map, take, ◌≡◌}
use Rattle.holder_statements.specs.KeptBooks.{class_kept}
use Rattle.holder_statements.proofs.kept_books.books_of_classes.Given as goal

abbrev pub invariant-loop-row : goal.invariant-loop-row
invariant-loop-row l = l.books ≡ map (class_kept l.cash) (take l.row-index l.classes)

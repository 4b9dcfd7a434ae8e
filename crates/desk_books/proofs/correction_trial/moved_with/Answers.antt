-- That `moved_with` keeps its contract.
use Rattle.std.proofs.Common.{refl}
use Rattle.desk_books.proofs.correction_trial.moved_with.Goals as goal

pub returns : goal.returns
returns c = (c.in_ok-moved.moved, c.in_ok-moved.ensures, refl)

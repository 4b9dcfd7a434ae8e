-- The proof of the law `changes_of_movements_sum_to_zero`.
use Rattle.std.proofs.Common.{arith}
use Rattle.std.proofs.lemmas.Int.{ints}
use Rattle.gain_loss_book.proofs.ZeroSums.{all-as-much, came-all, went-all}
use Rattle.gain_loss_book.proofs.laws.changes_of_movements_sum_to_zero.Goals as goal

pub returns : goal.returns
returns c changes before after moves =
    omega (arith, ints, all-as-much changes before after moves, came-all changes before after, went-all changes before after)

-- What is left and the sizes so far are the limit.
use Rattle.std.proofs.Common.{take, ◌+◌, ◌≡◌}
use Rattle.gain_loss_book.specs.Posted.{most_gains, size_of_gains}
use Rattle.gain_loss_book.proofs.limits.gains_add_up.Given as goal

abbrev pub invariant-loop-gain : goal.invariant-loop-gain
invariant-loop-gain l = l.left + size_of_gains (take l.gain-index l.gains) ≡ most_gains

-- What is left and the sizes so far are the limit.
use Rattle.std.proofs.Common.{take, ◌+◌, ◌≡◌}
use Rattle.gain_loss_book.specs.ClassGains.{most_mils, size_of_mils}
use Rattle.gain_loss_book.proofs.limits.mils_add_up.Given as goal

abbrev pub invariant-loop-change : goal.invariant-loop-change
invariant-loop-change l = l.left + size_of_mils (take l.change-index l.changes) ≡ most_mils

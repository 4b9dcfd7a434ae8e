-- What is left and the sizes so far are the limit.
use Rattle.std.proofs.Common.{take, ◌+◌, ◌≡◌}
use Rattle.gain_loss_book.specs.Posted.{most_cash, size_of_cash}
use Rattle.gain_loss_book.proofs.limits.cash_adds_up.Given as goal

abbrev pub invariant-loop-change : goal.invariant-loop-change
invariant-loop-change l = l.left + size_of_cash (take l.change-index l.changes) ≡ most_cash

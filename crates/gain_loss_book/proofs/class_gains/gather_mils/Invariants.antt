-- The changes so far are gathered.
use Rattle.std.proofs.Common.{take, ℕ, ◌≡◌}
use Rattle.gain_loss_book.specs.ClassFlows.{flows_of, with_mils}
use Rattle.gain_loss_book.specs.ClassGains.{mils_flow}
use Rattle.gain_loss_book.proofs.class_gains.gather_mils.Given as goal

abbrev pub invariant-loop-change : goal.invariant-loop-change
invariant-loop-change l =
    (q : ℕ) → flows_of l.classes q ≡ with_mils (flows_of l.fn.classes q) (mils_flow (take l.change-index l.changes) q)

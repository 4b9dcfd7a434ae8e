-- The changes so far are gathered.
use Rattle.std.proofs.Common.{take, ℕ, ◌≡◌}
use Rattle.agent_events.specs.declared.order.Party.{Party as AnyParty}
use Rattle.gain_loss_book.specs.ClassFlows.{flows_of, with_cash}
use Rattle.gain_loss_book.specs.Posted.{changes_flow}
use Rattle.gain_loss_book.proofs.class_gains.gather_cash.Given as goal

abbrev pub invariant-loop-change : goal.invariant-loop-change
invariant-loop-change l =
    (q : ℕ) → flows_of l.classes q ≡ with_cash (flows_of l.fn.classes q) (changes_flow (take l.change-index l.changes) (AnyParty.Class q))

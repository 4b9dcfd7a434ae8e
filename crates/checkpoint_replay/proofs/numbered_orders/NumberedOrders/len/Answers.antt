-- That `NumberedOrders::len` keeps its contract.
use Rattle.std.proofs.Common.{ap, length, subst, sym, ◌∙◌}
use Rattle.checkpoint_replay.proofs.NumberFacts.{length-numbered, rising-numbered}
use Rattle.checkpoint_replay.specs.NumberedRows.{AreRising}
use Rattle.checkpoint_replay.proofs.numbered_orders.NumberedOrders.len.Goals as goal

pub returns-clause-len : goal.returns-clause-len
returns-clause-len c =
    c.len.ensures
    ∙ (sym (length-numbered c.self.inside.numbers.items c.self.inside.orders c.self.invariant.each)
    ∙ ap length c.self.view_is)

pub returns-clause-rising : goal.returns-clause-rising
returns-clause-rising c =
    subst AreRising c.self.view_is (rising-numbered c.self.inside.numbers.items c.self.inside.orders c.self.invariant.each c.self.invariant.rise)

-- That `gather_mils` keeps its contract.
use Rattle.gain_loss_book.proofs.ClassFlowFacts.{class-rise-fits, class-fall-fits, mils-of}
use Rattle.gain_loss_book.proofs.class_gains.gather_mils.Goals as goal

pub gather_mils_change-requires-clause-inflow : goal.gather_mils_change-requires-clause-inflow
gather_mils_change-requires-clause-inflow c = λ q.
    class-rise-fits _ _ _ c.loop-change-test.true _ _ _ _ (mils-of _ _ (c.loop-change.invariant q)) (c.requires.inflow q)

pub gather_mils_change-requires-clause-outflow : goal.gather_mils_change-requires-clause-outflow
gather_mils_change-requires-clause-outflow c = λ q.
    class-fall-fits _ _ _ c.loop-change-test.true _ _ _ _ (mils-of _ _ (c.loop-change.invariant q)) (c.requires.outflow q)

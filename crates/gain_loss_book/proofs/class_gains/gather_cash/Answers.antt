-- That `gather_cash` keeps its contract.
use Rattle.gain_loss_book.proofs.ClassFlowFacts.{party-rise-fits, party-fall-fits, cash-of}
use Rattle.gain_loss_book.proofs.class_gains.gather_cash.Goals as goal

pub gather_cash_change-requires-clause-inflow : goal.gather_cash_change-requires-clause-inflow
gather_cash_change-requires-clause-inflow c = λ q.
    party-rise-fits _ _ _ c.loop-change-test.true _ _ _ _ (cash-of _ _ (c.loop-change.invariant q)) (c.requires.inflow q)

pub gather_cash_change-requires-clause-outflow : goal.gather_cash_change-requires-clause-outflow
gather_cash_change-requires-clause-outflow c = λ q.
    party-fall-fits _ _ _ c.loop-change-test.true _ _ _ _ (cash-of _ _ (c.loop-change.invariant q)) (c.requires.outflow q)

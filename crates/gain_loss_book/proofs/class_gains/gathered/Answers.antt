-- That `gathered` keeps its contract.
use Rattle.std.proofs.Common.{ap, arith}
use Rattle.gain_loss_book.proofs.ClassFlowFacts.{cash-of, empty-flows, mils-falls-within, mils-of, mils-rises-within}
use Rattle.gain_loss_book.proofs.PostedFacts.{falls-within, flow-in, flow-out, rises-within}
use Rattle.gain_loss_book.specs.ClassGains.{size_of_mils}
use Rattle.gain_loss_book.specs.Posted.{size_of_cash}
use Rattle.gain_loss_book.proofs.class_gains.gathered.Goals as goal

pub gather_cash-requires-clause-inflow : goal.gather_cash-requires-clause-inflow
gather_cash-requires-clause-inflow c = λ q.
    omega (arith, flow-in _ _ (cash-of _ _ (empty-flows c.new-classes.result c.new-classes.ensures.empty q)), rises-within c.as_slice.result.now, ap size_of_cash c.as_slice.ensures, c.requires.cash)

pub gather_cash-requires-clause-outflow : goal.gather_cash-requires-clause-outflow
gather_cash-requires-clause-outflow c = λ q.
    omega (arith, flow-out _ _ (cash-of _ _ (empty-flows c.new-classes.result c.new-classes.ensures.empty q)), falls-within c.as_slice.result.now, ap size_of_cash c.as_slice.ensures, c.requires.cash)

pub gather_mils-requires-clause-inflow : goal.gather_mils-requires-clause-inflow
gather_mils-requires-clause-inflow c = λ q.
    omega (arith, flow-in _ _ (mils-of _ _ (c.in_ok-gather_cash.ensures q)), flow-in _ _ (mils-of _ _ (empty-flows c.new-classes.result c.new-classes.ensures.empty q)), mils-rises-within c.as_slice-2.result.now, ap size_of_mils c.as_slice-2.ensures, c.requires.mils)

pub gather_mils-requires-clause-outflow : goal.gather_mils-requires-clause-outflow
gather_mils-requires-clause-outflow c = λ q.
    omega (arith, flow-out _ _ (mils-of _ _ (c.in_ok-gather_cash.ensures q)), flow-out _ _ (mils-of _ _ (empty-flows c.new-classes.result c.new-classes.ensures.empty q)), mils-falls-within c.as_slice-2.result.now, ap size_of_mils c.as_slice-2.ensures, c.requires.mils)

-- That `add_changes` keeps its contract.
use Rattle.std.proofs.Common.{arith}
use Rattle.gain_loss_book.proofs.PostedFacts.{all-step, changes-step, fall-fits, rise-fits}
use Rattle.gain_loss_book.proofs.posting.add_changes.Goals as goal

pub add_change-requires-clause-inflow : goal.add_change-requires-clause-inflow
add_change-requires-clause-inflow c =
    rise-fits _ _ _ c.loop-change-test.true _ _ _ c.loop-change.invariant.all c.requires.inflow

pub add_change-requires-clause-outflow : goal.add_change-requires-clause-outflow
add_change-requires-clause-outflow c =
    fall-fits _ _ _ c.loop-change-test.true _ _ _ c.loop-change.invariant.all c.requires.outflow

pub loop-change-preserved : goal.loop-change-preserved
loop-change-preserved c = record {
  flows = λ q. changes-step _ _ _ c.loop-change-test.true _ _ _ q (c.loop-change.invariant.flows q) (c.add_change.ensures.flows q);
  all = all-step _ _ _ c.loop-change-test.true _ _ _ c.loop-change.invariant.all c.add_change.ensures.all;
  room = omega (arith, c.loop-change.invariant.room, c.add_change.ensures.room);
}

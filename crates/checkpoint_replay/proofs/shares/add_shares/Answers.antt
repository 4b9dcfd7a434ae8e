-- That `add_shares` keeps its contract.
use Rattle.checkpoint_replay.proofs.ShareFacts.{all-shares-step, share-fall-fits, share-rise-fits, shares-step}
use Rattle.std.proofs.Common.{arith}
use Rattle.checkpoint_replay.proofs.shares.add_shares.Goals as goal

pub add_share-requires-clause-inflow : goal.add_share-requires-clause-inflow
add_share-requires-clause-inflow c =
    share-rise-fits _ _ _ c.loop-change-test.true _ _ _ c.loop-change.invariant.whole c.requires.inflow

pub add_share-requires-clause-outflow : goal.add_share-requires-clause-outflow
add_share-requires-clause-outflow c =
    share-fall-fits _ _ _ c.loop-change-test.true _ _ _ c.loop-change.invariant.whole c.requires.outflow

pub loop-change-preserved : goal.loop-change-preserved
loop-change-preserved c = record {
  flows = λ q. shares-step _ _ _ c.loop-change-test.true _ _ _ q (c.loop-change.invariant.flows q) (c.add_share.ensures.flows q);
  whole = all-shares-step _ _ _ c.loop-change-test.true _ _ _ c.loop-change.invariant.whole c.add_share.ensures.whole;
  room = omega (arith, c.loop-change.invariant.room, c.add_share.ensures.room);
}

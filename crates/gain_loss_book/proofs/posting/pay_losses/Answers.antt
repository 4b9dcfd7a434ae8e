-- That `pay_losses` keeps its contract.
use Rattle.std.proofs.Common.{arith}
use Rattle.gain_loss_book.proofs.PostedFacts.{flow-in, flow-out, loss-fits, losses-step, moved-step}
use Rattle.gain_loss_book.proofs.posting.pay_losses.Goals as goal

pub pay_loss-requires-clause-inflow : goal.pay_loss-requires-clause-inflow
pay_loss-requires-clause-inflow c =
    omega (arith, loss-fits c.args.payer c.args.gains.now c.loop-gain.gain-index c.gain-item.result c.loop-gain-test.true c.gain-item.is, flow-in _ _ c.loop-gain.invariant.all)

pub pay_loss-requires-clause-outflow : goal.pay_loss-requires-clause-outflow
pay_loss-requires-clause-outflow c =
    omega (arith, loss-fits c.args.payer c.args.gains.now c.loop-gain.gain-index c.gain-item.result c.loop-gain-test.true c.gain-item.is, flow-out _ _ c.loop-gain.invariant.all)

pub loop-gain-preserved : goal.loop-gain-preserved
loop-gain-preserved c = record {
  flows = λ q. losses-step c.args.payer c.args.gains.now c.loop-gain.gain-index c.gain-item.result c.loop-gain-test.true c.gain-item.is _ _ _ q (c.loop-gain.invariant.flows q) (c.pay_loss.ensures.flows q);
  all = moved-step c.args.payer c.args.gains.now c.loop-gain.gain-index c.gain-item.result c.loop-gain-test.true c.gain-item.is _ _ _ c.loop-gain.invariant.all c.pay_loss.ensures.all;
  room = omega (arith, c.loop-gain.invariant.room, c.pay_loss.ensures.room);
}

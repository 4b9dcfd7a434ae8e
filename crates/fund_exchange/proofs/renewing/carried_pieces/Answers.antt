-- What is carried is the definition's, and so are its sums.
use Rattle.fund_exchange.specs.Exchange.{renewed_all}
use Rattle.fund_exchange.proofs.ExchangeFacts.{carried-all, carried-whole, carried_cost, all_have_mils}
use Rattle.fund_exchange.proofs.renewing.carried_pieces.Goals as goal

pub returns-clause-with_mils : goal.returns-clause-with_mils
returns-clause-with_mils c =
    rw (carried-all c.loop-piece.carried c.args.pieces.now c.args.from c.args.to c.loop-piece.before c.loop-piece.piece-index c.loop-piece-test.false c.loop-piece.invariant.told)
    (all_have_mils (renewed_all c.args.from c.args.to c.args.pieces.now))

pub returns-clause-mils : goal.returns-clause-mils
returns-clause-mils c =
    rw (carried-all c.loop-piece.carried c.args.pieces.now c.args.from c.args.to c.loop-piece.before c.loop-piece.piece-index c.loop-piece-test.false c.loop-piece.invariant.told)
    (carried-whole c.args.from c.args.to c.args.pieces.now c.requires.positive)

pub returns-clause-cost : goal.returns-clause-cost
returns-clause-cost c =
    rw (carried-all c.loop-piece.carried c.args.pieces.now c.args.from c.args.to c.loop-piece.before c.loop-piece.piece-index c.loop-piece-test.false c.loop-piece.invariant.told)
    (carried_cost c.args.from c.args.to c.args.pieces.now)

-- That `tally_trades` keeps its contract.
use Rattle.agent_events.specs.declared.trade.Trade.{Trade}
use Rattle.checkpoint_replay.proofs.CommonFront.{net-behind_front}
use Rattle.checkpoint_replay.proofs.FlowsOfMoves.{cash-additive, mils-additive}
use Rattle.checkpoint_replay.specs.Differences.{trades_cash}
use Rattle.gain_loss_book.specs.Movements.{trades_mils}
use Rattle.gain_loss_book.specs.Tallies.{cash_tallied, mils_tallied}
use Rattle.std.proofs.Common.{List}
use Rattle.checkpoint_replay.proofs.differences.tally_trades.Goals as goal

pub returns-clause-cash : goal.returns-clause-cash
returns-clause-cash c = λ party.
    net-behind_front (λ (trades : List Trade). trades_cash trades party) (cash-additive party) c.common_front-alike.result c.args.brought.now c.args.dropped.now (c.common_front-alike.ensures.cash party)
    (cash_tallied c.args.tally.now party) (cash_tallied c.bring.new.self party) (cash_tallied c.take_back.new.self party) (c.in_ok-bring.ensures.cash party) (c.in_ok-take_back.ensures.cash party)

pub returns-clause-mils : goal.returns-clause-mils
returns-clause-mils c = λ class.
    net-behind_front (λ (trades : List Trade). trades_mils trades class) (mils-additive class) c.common_front-alike.result c.args.brought.now c.args.dropped.now (c.common_front-alike.ensures.mils class)
    (mils_tallied c.args.tally.now class) (mils_tallied c.bring.new.self class) (mils_tallied c.take_back.new.self class) (c.in_ok-bring.ensures.mils class) (c.in_ok-take_back.ensures.mils class)

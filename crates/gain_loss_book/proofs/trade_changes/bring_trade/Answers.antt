-- That `bring_trade` keeps its contract.
use Rattle.std.proofs.Common.{ap, ◌∙◌}
use Rattle.gain_loss_book.proofs.TradeFlowFacts.{mils-of_trade, within-trade}
use Rattle.gain_loss_book.specs.Flows.{with_flow}
use Rattle.gain_loss_book.specs.Tallies.{mils_tallied}
use Rattle.gain_loss_book.specs.TradeFlows.{mils_of_flows}
use Rattle.gain_loss_book.specs.declared.flows.Flow.{Flow}
use Rattle.gain_loss_book.specs.declared.trade_flows.TradeFlows.{TradeFlows}
use Rattle.gain_loss_book.proofs.trade_changes.bring_trade.Goals as goal

pub returns-clause-mils : goal.returns-clause-mils
returns-clause-mils c = λ q.
    c.in_ok-add_trade_flows.ensures.mils q
    ∙ ap (λ (flow : Flow). with_flow (mils_tallied c.args.tally.now q) flow)
    (ap (λ (flows : TradeFlows). mils_of_flows flows q) c.of.ensures.flows ∙ mils-of_trade c.args.trade.now q)

pub returns-clause-within : goal.returns-clause-within
returns-clause-within c =
    within-trade c.args.tally.now c.add_trade_flows.new.tally c.of.result c.of.ensures.small c.in_ok-add_trade_flows.ensures.cash c.in_ok-add_trade_flows.ensures.mils

-- That `take_trade_back` keeps its contract.
use Rattle.std.proofs.Common.{ap, ◌∙◌}
use Rattle.gain_loss_book.proofs.TradeFlowFacts.{cash-of_trade, mils-of_trade, within-trade}
use Rattle.gain_loss_book.specs.Flows.{reverse_flow, with_flow}
use Rattle.gain_loss_book.specs.Tallies.{cash_tallied, mils_tallied}
use Rattle.gain_loss_book.specs.TradeFlows.{cash_of_flows, mils_of_flows}
use Rattle.gain_loss_book.specs.declared.flows.Flow.{Flow}
use Rattle.gain_loss_book.specs.declared.trade_flows.TradeFlows.{TradeFlows}
use Rattle.gain_loss_book.proofs.trade_changes.take_trade_back.Goals as goal

pub returns-clause-cash : goal.returns-clause-cash
returns-clause-cash c = λ q.
    c.in_ok-add_trade_flows.ensures.cash q
    ∙ (ap (λ (flows : TradeFlows). with_flow (cash_tallied c.args.tally.now q) (cash_of_flows flows q)) c.reversed.ensures.flows
    ∙ ap (λ (flow : Flow). with_flow (cash_tallied c.args.tally.now q) (reverse_flow flow))
    (ap (λ (flows : TradeFlows). cash_of_flows flows q) c.of.ensures.flows ∙ cash-of_trade c.args.trade.now q))

pub returns-clause-mils : goal.returns-clause-mils
returns-clause-mils c = λ q.
    c.in_ok-add_trade_flows.ensures.mils q
    ∙ (ap (λ (flows : TradeFlows). with_flow (mils_tallied c.args.tally.now q) (mils_of_flows flows q)) c.reversed.ensures.flows
    ∙ ap (λ (flow : Flow). with_flow (mils_tallied c.args.tally.now q) (reverse_flow flow))
    (ap (λ (flows : TradeFlows). mils_of_flows flows q) c.of.ensures.flows ∙ mils-of_trade c.args.trade.now q))

pub returns-clause-within : goal.returns-clause-within
returns-clause-within c =
    within-trade c.args.tally.now c.add_trade_flows.new.tally c.reversed.result (c.reversed.ensures.small c.of.ensures.small) c.in_ok-add_trade_flows.ensures.cash c.in_ok-add_trade_flows.ensures.mils

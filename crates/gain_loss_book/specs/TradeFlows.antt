-- What a trade brings and takes, each party and each class once.
use Rattle.std.specs.Prelude.{if◌then◌else◌, ℕ, ◌+◌, ◌-◌, ◌<◌, ◌==◌, ◌^◌}
use Rattle.agent_events.specs.declared.order.Party.{Party}
use Rattle.agent_events.specs.declared.trade.Outcome.{Outcome}
use Rattle.agent_events.specs.declared.trade.Trade.{Trade}
use Rattle.agent_events.specs.declared.trade.TradeKind.{TradeKind}
use Rattle.register_machine.specs.corrections.Cash.{same_party}
use Rattle.gain_loss_book.specs.ClassFlows.{no_flows}
use Rattle.gain_loss_book.specs.Flows.{no_flow, reverse_flow, with_flow}
use Rattle.gain_loss_book.specs.declared.class_flows.ClassFlows.{ClassFlows}
use Rattle.gain_loss_book.specs.declared.flows.Flow.{Flow}
use Rattle.gain_loss_book.specs.declared.trade_flows.TradeFlows.{TradeFlows}

-- what comes in, and what goes out
abbrev pub coming : ℕ → Flow
coming n = record { inflow = n; outflow = 0 }

abbrev pub going : ℕ → Flow
going n = record { inflow = 0; outflow = n }

-- a flow where it is the party's, and where it is the class's
abbrev pub flow_of_party : Party → Flow → Party → Flow
flow_of_party own flow party = record {
  inflow = if same_party own party then flow.inflow else 0;
  outflow = if same_party own party then flow.outflow else 0;
}

abbrev pub flow_of_class : ℕ → Flow → ℕ → Flow
flow_of_class own flow class = record {
  inflow = if own == class then flow.inflow else 0;
  outflow = if own == class then flow.outflow else 0;
}

-- the flows of a class together
abbrev pub with_flows : ClassFlows → ClassFlows → ClassFlows
with_flows a b = record { cash = with_flow a.cash b.cash; mils = with_flow a.mils b.mils }

abbrev pub reverse_flows : ClassFlows → ClassFlows
reverse_flows flows = record { cash = reverse_flow flows.cash; mils = reverse_flow flows.mils }

-- the cash of a party, and the shares of a class
abbrev pub cash_of_flows : TradeFlows → Party → Flow
cash_of_flows flows party =
    with_flow
    (with_flow (flow_of_party (Party.Holder flows.account) flows.holder party)
    (flow_of_party (Party.Class flows.class) flows.own.cash party))
    (with_flow (flow_of_party (Party.Class flows.to_class) flows.other.cash party)
    (flow_of_party Party.Underwriter flows.underwriter party))

abbrev pub mils_of_flows : TradeFlows → ℕ → Flow
mils_of_flows flows class =
    with_flow
    (flow_of_class flows.class flows.own.mils class)
    (flow_of_class flows.to_class flows.other.mils class)

-- the flows of a trade from those of its parties
abbrev pub trade_flows : Trade → Flow → ClassFlows → ClassFlows → Flow → TradeFlows
trade_flows trade holder own other underwriter = record {
  account = trade.account;
  class = trade.class;
  to_class = trade.to_class;
  holder = holder;
  own = own;
  other = other;
  underwriter = underwriter;
}

abbrev pub no_trade_flows : Trade → TradeFlows
no_trade_flows trade = trade_flows trade no_flow no_flows no_flows no_flow

-- what a filled trade brings and takes
abbrev pub flows_by : TradeKind → Trade → TradeFlows
flows_by TradeKind.Buy trade =
    trade_flows trade
    (going ((trade.cash - trade.charge) + trade.charge))
    (record { cash = coming (trade.cash - trade.charge); mils = coming trade.mils })
    no_flows (coming trade.charge)
flows_by TradeKind.Sell trade =
    trade_flows trade
    (coming (trade.cash - trade.charge))
    (record { cash = going ((trade.cash - trade.charge) + trade.charge); mils = going trade.mils })
    no_flows (coming trade.charge)
flows_by TradeKind.Exchange trade =
    trade_flows trade no_flow
    (record { cash = going trade.cash; mils = going trade.mils })
    (record { cash = coming trade.cash; mils = coming trade.to_mils })
    no_flow
flows_by TradeKind.Letter trade = no_trade_flows trade
flows_by TradeKind.LetterReached trade = no_trade_flows trade
flows_by TradeKind.LetterEnded trade =
    trade_flows trade no_flow
    (record { cash = going trade.cash; mils = going trade.mils })
    no_flows (coming trade.cash)
flows_by TradeKind.ElectCash trade = no_trade_flows trade
flows_by TradeKind.ElectShares trade = no_trade_flows trade
flows_by TradeKind.DividendShares trade =
    trade_flows trade
    (record { inflow = trade.cash; outflow = trade.cash })
    (record {
      cash = record { inflow = trade.cash; outflow = trade.cash };
      mils = coming trade.mils;
    })
    no_flows no_flow
flows_by TradeKind.DividendCash trade =
    trade_flows trade
    (coming trade.cash)
    (record { cash = going trade.cash; mils = no_flow })
    no_flows no_flow

-- an unfilled order brings and takes nothing
abbrev pub flows_in : Outcome → Trade → TradeFlows
flows_in Outcome.Filled trade = flows_by trade.kind trade
flows_in (Outcome.Unfilled why) trade = no_trade_flows trade

abbrev pub flows_of_trade : Trade → TradeFlows
flows_of_trade trade = flows_in trade.outcome trade

-- what is taken back
abbrev pub reverse_trade_flows : TradeFlows → TradeFlows
reverse_trade_flows flows = record {
  account = flows.account;
  class = flows.class;
  to_class = flows.to_class;
  holder = reverse_flow flows.holder;
  own = reverse_flows flows.own;
  other = reverse_flows flows.other;
  underwriter = reverse_flow flows.underwriter;
}

-- flows of amounts of 64 bits
pub record IsSmall (flow : Flow) : Type 0 where
  pub inflow : flow.inflow < 2 ^ 64
  pub outflow : flow.outflow < 2 ^ 64

pub record AreSmall (flows : TradeFlows) : Type 0 where
  pub holder : IsSmall flows.holder
  pub own_cash : IsSmall flows.own.cash
  pub own_mils : IsSmall flows.own.mils
  pub other_cash : IsSmall flows.other.cash
  pub other_mils : IsSmall flows.other.mils
  pub underwriter : IsSmall flows.underwriter

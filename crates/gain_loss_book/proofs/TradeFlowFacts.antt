-- The flows of a trade, each party and each class once, are those of its movements and of its shares.
use Rattle.std.proofs.Common.{Bool, arith, cond, false, refl, true, ℕ, ◌+◌, ◌-◌, ◌==◌, ◌^◌, ◌≤◌, ◌≡◌}
use Rattle.agent_events.specs.declared.order.Party.{Party}
use Rattle.agent_events.specs.declared.trade.Outcome.{Outcome}
use Rattle.agent_events.specs.declared.trade.Trade.{Trade}
use Rattle.agent_events.specs.declared.trade.TradeKind.{TradeKind}
use Rattle.register_machine.specs.corrections.Cash.{movements_by, movements_in, same_party}
use Rattle.register_machine.specs.replay.Movements.{if_filled, mils_brought_by, mils_taken_by}
use Rattle.gain_loss_book.proofs.FlowFacts.{flow-same}
use Rattle.gain_loss_book.proofs.PostedFacts.{flow-in, flow-out}
use Rattle.gain_loss_book.specs.Flows.{with_flow}
use Rattle.gain_loss_book.specs.Movements.{mils_flow_of}
use Rattle.gain_loss_book.specs.Posted.{movements_flow}
use Rattle.gain_loss_book.specs.Tallies.{IsWithin, cash_tallied, mils_tallied}
use Rattle.gain_loss_book.specs.TradeFlows.{AreSmall, cash_of_flows, flows_by, flows_in, flows_of_trade, mils_of_flows}
use Rattle.gain_loss_book.specs.declared.tally.Tally.{Tally}
use Rattle.gain_loss_book.specs.declared.trade_flows.TradeFlows.{TradeFlows}

-- nothing either way, and a sum that counts or doesn't
either : (b : Bool) → ◌≡◌ {A = ℕ} (cond b 0 0) 0
either true = refl
either false = refl

apiece : (b : Bool) (m n : ℕ) → cond b (m + n) 0 ≡ cond b m 0 + cond b n 0
apiece true m n = refl
apiece false m n = refl

-- the cash of a filled trade
cash-by : (kind : TradeKind) (trade : Trade) (q : Party) → cash_of_flows (flows_by kind trade) q ≡ movements_flow (movements_by kind trade) q
cash-by kind trade q =
    by_kind kind
  where
    rest : ℕ
    rest = trade.cash - trade.charge

    holder : Bool
    holder = same_party (Party.Holder trade.account) q

    own : Bool
    own = same_party (Party.Class trade.class) q

    other : Bool
    other = same_party (Party.Class trade.to_class) q

    underwriter : Bool
    underwriter = same_party Party.Underwriter q

    by_kind : (kind : TradeKind) → cash_of_flows (flows_by kind trade) q ≡ movements_flow (movements_by kind trade) q
    by_kind TradeKind.Buy = flow-same _ _
        (omega (arith, either holder, either own, either other, either underwriter))
        (omega (arith, either holder, either own, either other, either underwriter, apiece holder rest trade.charge))
    by_kind TradeKind.Sell = flow-same _ _
        (omega (arith, either holder, either own, either other, either underwriter))
        (omega (arith, either holder, either own, either other, either underwriter, apiece own rest trade.charge))
    by_kind _ = flow-same _ _
        (omega (arith, either holder, either own, either other, either underwriter))
        (omega (arith, either holder, either own, either other, either underwriter))

-- its shares
mils-by : (kind : TradeKind) (trade : Trade) (q : ℕ) → mils_of_flows (flows_by kind trade) q ≡ record { inflow = mils_brought_by kind q trade; outflow = mils_taken_by kind q trade }
mils-by kind trade q =
    by_kind kind
  where
    own : Bool
    own = trade.class == q

    other : Bool
    other = trade.to_class == q

    by_kind : (kind : TradeKind) → mils_of_flows (flows_by kind trade) q ≡ record { inflow = mils_brought_by kind q trade; outflow = mils_taken_by kind q trade }
    by_kind TradeKind.Buy = flow-same _ _ (omega (arith, either own, either other)) (omega (arith, either own, either other))
    by_kind _ = flow-same _ _ (omega (arith, either own, either other)) (omega (arith, either own, either other))

-- nothing of an unfilled order
pub cash-of_trade : (trade : Trade) (q : Party) → cash_of_flows (flows_of_trade trade) q ≡ movements_flow (movements_in trade.outcome trade) q
cash-of_trade trade q =
    by_outcome trade.outcome
  where
    by_outcome : (outcome : Outcome) → cash_of_flows (flows_in outcome trade) q ≡ movements_flow (movements_in outcome trade) q
    by_outcome Outcome.Filled = cash-by trade.kind trade q
    by_outcome (Outcome.Unfilled why) = cash-by TradeKind.Letter trade q

pub mils-of_trade : (trade : Trade) (q : ℕ) → mils_of_flows (flows_of_trade trade) q ≡ mils_flow_of trade q
mils-of_trade trade q =
    by_outcome trade.outcome
  where
    by_outcome : (outcome : Outcome) → mils_of_flows (flows_in outcome trade) q ≡ record { inflow = if_filled outcome (mils_brought_by trade.kind q trade); outflow = if_filled outcome (mils_taken_by trade.kind q trade) }
    by_outcome Outcome.Filled = mils-by trade.kind trade q
    by_outcome (Outcome.Unfilled why) = mils-by TradeKind.Letter trade q

-- a part of a flow is within it
part-le : (b : Bool) (n : ℕ) → cond b n 0 ≤ n
part-le true n = omega arith
part-le false n = omega arith

-- the flows of one party are at most those of two classes
cash-in-fits : (flows : TradeFlows) → AreSmall flows → (q : Party) → (cash_of_flows flows q).inflow ≤ 2 ^ 65
cash-in-fits flows small (Party.Holder account) = omega (arith, part-le (flows.account == account) flows.holder.inflow, small.holder.inflow)
cash-in-fits flows small (Party.Class class) =
    omega (arith, part-le (flows.class == class) flows.own.cash.inflow, part-le (flows.to_class == class) flows.other.cash.inflow, small.own_cash.inflow, small.other_cash.inflow)
cash-in-fits flows small (Party.Dealer dealer) = omega arith
cash-in-fits flows small Party.Underwriter = omega (arith, small.underwriter.inflow)
cash-in-fits flows small Party.Agent = omega arith

cash-out-fits : (flows : TradeFlows) → AreSmall flows → (q : Party) → (cash_of_flows flows q).outflow ≤ 2 ^ 65
cash-out-fits flows small (Party.Holder account) = omega (arith, part-le (flows.account == account) flows.holder.outflow, small.holder.outflow)
cash-out-fits flows small (Party.Class class) =
    omega (arith, part-le (flows.class == class) flows.own.cash.outflow, part-le (flows.to_class == class) flows.other.cash.outflow, small.own_cash.outflow, small.other_cash.outflow)
cash-out-fits flows small (Party.Dealer dealer) = omega arith
cash-out-fits flows small Party.Underwriter = omega (arith, small.underwriter.outflow)
cash-out-fits flows small Party.Agent = omega arith

-- so a tally stays within its bound and so much more
pub within-trade : (tally next : Tally) (flows : TradeFlows) → AreSmall flows → ((q : Party) → cash_tallied next q ≡ with_flow (cash_tallied tally q) (cash_of_flows flows q)) → ((q : ℕ) → mils_tallied next q ≡ with_flow (mils_tallied tally q) (mils_of_flows flows q)) → (most : ℕ) → IsWithin tally most → IsWithin next (most + 2 ^ 65)
within-trade tally next flows small cash mils most within = record {
  cash_in = λ party. omega (arith, flow-in _ _ (cash party), within.cash_in party, cash-in-fits flows small party);
  cash_out = λ party. omega (arith, flow-out _ _ (cash party), within.cash_out party, cash-out-fits flows small party);
  mils_in = λ class. omega (arith, flow-in _ _ (mils class), within.mils_in class, part-le (flows.class == class) flows.own.mils.inflow, part-le (flows.to_class == class) flows.other.mils.inflow, small.own_mils.inflow, small.other_mils.inflow);
  mils_out = λ class. omega (arith, flow-out _ _ (mils class), within.mils_out class, part-le (flows.class == class) flows.own.mils.outflow, part-le (flows.to_class == class) flows.other.mils.outflow, small.own_mils.outflow, small.other_mils.outflow);
}

-- What a tally holds of trades.
use Rattle.std.proofs.Common.{ap, arith, ℕ, ◌≡◌, ◌≤◌}
use Rattle.std.specs.BTreeMap.{BTreeMap}
use Rattle.agent_events.specs.declared.order.Party.{Party}
use Rattle.gain_loss_book.proofs.PostedFacts.{flow-in, flow-out}
use Rattle.gain_loss_book.specs.ClassFlows.{flows_of}
use Rattle.gain_loss_book.specs.Flows.{flow_at, no_flow}
use Rattle.gain_loss_book.specs.Tallies.{IsWithin, cash_tallied, mils_tallied, sorted_flow}
use Rattle.gain_loss_book.specs.declared.class_flows.ClassFlows.{ClassFlows}
use Rattle.gain_loss_book.specs.declared.flows.Flow.{Flow}
use Rattle.gain_loss_book.specs.declared.tally.Tally.{Tally}

pub within-more : (tally : Tally) (most more : ℕ) → IsWithin tally most → most ≤ more → IsWithin tally more
within-more tally most more within fits = record {
  cash_in = λ party. omega (arith, within.cash_in party);
  cash_out = λ party. omega (arith, within.cash_out party);
  mils_in = λ class. omega (arith, within.mils_in class);
  mils_out = λ class. omega (arith, within.mils_out class);
}

-- a tally with the same flows of holders, and all else as it was
pub cash-as_before : (was now : Tally) → ((q : ℕ) → flow_at now.holders.entries q ≡ flow_at was.holders.entries q) → now.classes ≡ was.classes → now.dealers ≡ was.dealers → now.underwriter ≡ was.underwriter → now.agent ≡ was.agent → (party : Party) → cash_tallied now party ≡ cash_tallied was party
cash-as_before was now holders classes dealers underwriter agent (Party.Holder q) = holders q
cash-as_before was now holders classes dealers underwriter agent (Party.Class q) = ap (λ (rows : BTreeMap ℕ ClassFlows). (flows_of rows q).cash) classes
cash-as_before was now holders classes dealers underwriter agent (Party.Dealer q) = ap (λ (rows : BTreeMap ℕ Flow). sorted_flow rows q) dealers
cash-as_before was now holders classes dealers underwriter agent Party.Underwriter = underwriter
cash-as_before was now holders classes dealers underwriter agent Party.Agent = agent

pub nothing-within : (tally : Tally) → ((party : Party) → cash_tallied tally party ≡ no_flow) → ((class : ℕ) → mils_tallied tally class ≡ no_flow) → IsWithin tally 0
nothing-within tally cash mils = record {
  cash_in = λ party. omega (arith, flow-in _ _ (cash party));
  cash_out = λ party. omega (arith, flow-out _ _ (cash party));
  mils_in = λ class. omega (arith, flow-in _ _ (mils class));
  mils_out = λ class. omega (arith, flow-out _ _ (mils class));
}

-- The cash of parties and the shares of classes as trades bring them.
use Rattle.std.specs.BTreeMap.{BTreeMap, get}
use Rattle.std.specs.Ordering.{nat_cmp}
use Rattle.std.specs.Prelude.{ℕ, unwrap_or, ◌≤◌}
use Rattle.agent_events.specs.declared.order.Party.{Party}
use Rattle.gain_loss_book.specs.ClassFlows.{flows_of}
use Rattle.gain_loss_book.specs.Flows.{flow_at, no_flow}
use Rattle.gain_loss_book.specs.declared.flows.Flow.{Flow}
use Rattle.gain_loss_book.specs.declared.tally.Tally.{Tally}

-- the flow of a number, in rows by number
abbrev pub sorted_flow : BTreeMap ℕ Flow → ℕ → Flow
sorted_flow rows number = unwrap_or (get nat_cmp rows number) no_flow

-- the cash of a party
abbrev pub cash_tallied : Tally → Party → Flow
cash_tallied tally (Party.Holder account) = flow_at tally.holders.entries account
cash_tallied tally (Party.Class class) = (flows_of tally.classes class).cash
cash_tallied tally (Party.Dealer dealer) = sorted_flow tally.dealers dealer
cash_tallied tally Party.Underwriter = tally.underwriter
cash_tallied tally Party.Agent = tally.agent

-- the shares of a class
abbrev pub mils_tallied : Tally → ℕ → Flow
mils_tallied tally class = (flows_of tally.classes class).mils

-- no flow in a tally is larger
pub record IsWithin (tally : Tally) (most : ℕ) : Type 0 where
  pub cash_in : (party : Party) → (cash_tallied tally party).inflow ≤ most
  pub cash_out : (party : Party) → (cash_tallied tally party).outflow ≤ most
  pub mils_in : (class : ℕ) → (mils_tallied tally class).inflow ≤ most
  pub mils_out : (class : ℕ) → (mils_tallied tally class).outflow ≤ most

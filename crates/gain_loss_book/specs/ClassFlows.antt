-- The cash and the shares of classes, by number.
use Rattle.std.specs.BTreeMap.{BTreeMap, get}
use Rattle.std.specs.Ordering.{nat_cmp}
use Rattle.std.specs.Prelude.{ℕ, unwrap_or}
use Rattle.gain_loss_book.specs.Flows.{no_flow, with_flow}
use Rattle.gain_loss_book.specs.declared.class_flows.ClassFlows.{ClassFlows}
use Rattle.gain_loss_book.specs.declared.flows.Flow.{Flow}

abbrev pub no_flows : ClassFlows
no_flows = record { cash = no_flow; mils = no_flow }

abbrev pub with_cash : ClassFlows → Flow → ClassFlows
with_cash flows flow = record { cash = with_flow flows.cash flow; mils = flows.mils }

abbrev pub with_mils : ClassFlows → Flow → ClassFlows
with_mils flows flow = record { cash = flows.cash; mils = with_flow flows.mils flow }

-- the flows of a class
abbrev pub flows_of : BTreeMap ℕ ClassFlows → ℕ → ClassFlows
flows_of classes class = unwrap_or (get nat_cmp classes class) no_flows

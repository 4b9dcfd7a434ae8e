-- The rows of a tally: each party and each class that changes, once, in their order.
use Rattle.std.specs.BTreeMap.{BTreeMap, keys}
use Rattle.std.specs.Prelude.{List, [], flat_map, if◌then◌else◌, ℕ, ◌++◌, ◌∷◌}
use Rattle.agent_events.specs.declared.order.Party.{Party}
use Rattle.agent_events.specs.declared.totals.CashChange.{CashChange}
use Rattle.agent_events.specs.declared.totals.MilsChange.{MilsChange}
use Rattle.register_machine.specs.corrections.Gains.{is_nothing}
use Rattle.gain_loss_book.specs.ClassFlows.{flows_of}
use Rattle.gain_loss_book.specs.Flows.{net}
use Rattle.gain_loss_book.specs.Tallies.{sorted_flow}
use Rattle.gain_loss_book.specs.declared.class_flows.ClassFlows.{ClassFlows}
use Rattle.gain_loss_book.specs.declared.flows.Flow.{Flow}
use Rattle.gain_loss_book.specs.declared.tally.Tally.{Tally}

-- the row of a party, where its cash changes
abbrev pub cash_row : Party → Flow → List CashChange
cash_row party flow = if is_nothing (net flow) then [] else record { party = party; cents = net flow } ∷ []

-- the row of a class, where its shares change
abbrev pub mils_row : ℕ → Flow → List MilsChange
mils_row class flow = if is_nothing (net flow) then [] else record { class = class; mils = net flow } ∷ []

-- the rows of holders, as they are kept
abbrev pub holder_rows : List (ℕ × Flow) → List CashChange
holder_rows holders = flat_map (λ (holder : ℕ × Flow). cash_row (Party.Holder holder.0) holder.1) holders

-- the rows by number
abbrev pub class_rows : BTreeMap ℕ ClassFlows → List CashChange
class_rows classes = flat_map (λ class. cash_row (Party.Class class) (flows_of classes class).cash) (keys classes)

abbrev pub dealer_rows : BTreeMap ℕ Flow → List CashChange
dealer_rows dealers = flat_map (λ dealer. cash_row (Party.Dealer dealer) (sorted_flow dealers dealer)) (keys dealers)

abbrev pub share_rows : BTreeMap ℕ ClassFlows → List MilsChange
share_rows classes = flat_map (λ class. mils_row class (flows_of classes class).mils) (keys classes)

-- each holder, in the order of the table, classes and dealers by number, the underwriter and the agent
abbrev pub cash_rows : Tally → List CashChange
cash_rows tally =
    (((holder_rows tally.holders.entries ++ class_rows tally.classes) ++ dealer_rows tally.dealers)
    ++ cash_row Party.Underwriter tally.underwriter) ++ cash_row Party.Agent tally.agent

abbrev pub mils_rows : Tally → List MilsChange
mils_rows tally = share_rows tally.classes

-- The gains of classes from what a correction changes.
use Rattle.std.specs.List.{list_all, list_any}
use Rattle.std.specs.Prelude.{Bool, List, Option, filter_map, if◌then◌else◌, nat_eq, nat_le, not, sum_by, true, ℕ, ℤ, ◌&&◌, ◌*◌, ◌+◌, ◌==◌, ◌^◌, ◌≡◌, ◌≤◌}
use Rattle.agent_events.specs.declared.order.Party.{Party}
use Rattle.agent_events.specs.declared.reply_lists.ClassGain.{ClassGain}
use Rattle.agent_events.specs.declared.totals.Changes.{Changes}
use Rattle.agent_events.specs.declared.totals.MilsChange.{MilsChange}
use Rattle.forward_price.specs.declared.price_sheet.Sheet.{Sheet}
use Rattle.register_machine.specs.corrections.Gains.{gain_unless_same, is_nothing, latest_nav}
use Rattle.gain_loss_book.specs.Flows.{fall, net, rise}
use Rattle.gain_loss_book.specs.Posted.{changes_flow, most_cash}
use Rattle.gain_loss_book.specs.declared.class_flows.ClassFlows.{ClassFlows}
use Rattle.gain_loss_book.specs.declared.flows.Flow.{Flow}

-- what changes of shares bring a class, and what they take from it
abbrev pub mils_rise_in : ℕ → MilsChange → ℕ
mils_rise_in class change = if change.class == class then rise change.mils else 0

abbrev pub mils_fall_in : ℕ → MilsChange → ℕ
mils_fall_in class change = if change.class == class then fall change.mils else 0

abbrev pub mils_change_flow : MilsChange → ℕ → Flow
mils_change_flow change class = record { inflow = mils_rise_in class change; outflow = mils_fall_in class change }

abbrev pub mils_flow : List MilsChange → ℕ → Flow
mils_flow changes class =
    record { inflow = sum_by (mils_rise_in class) changes; outflow = sum_by (mils_fall_in class) changes }

-- by how much the shares of a class change
abbrev pub mils_change : List MilsChange → ℕ → ℤ
mils_change changes class = net (mils_flow changes class)

-- the changes of all classes together, and their sizes
abbrev pub all_mils : List MilsChange → Flow
all_mils changes = record {
  inflow = sum_by (λ change. rise change.mils) changes;
  outflow = sum_by (λ change. fall change.mils) changes;
}

abbrev pub size_of_mils : List MilsChange → ℕ
size_of_mils changes = sum_by (λ change. rise change.mils + fall change.mils) changes

-- the shares before and after add up to at most 3 * 10^25 mils each, so their changes to twice as many
abbrev pub most_mils : ℕ
most_mils = 6 * 10 ^ 25

-- what changes bring and take of the cash and the shares of a class
abbrev pub class_flows : Changes → ℕ → ClassFlows
class_flows changes class = record {
  cash = changes_flow changes.cash (Party.Class class);
  mils = mils_flow changes.outstanding class;
}

-- the cash or the shares of a class change
abbrev pub changes_class : ClassFlows → Bool
changes_class flows = not (is_nothing (net flows.cash) && is_nothing (net flows.mils))

-- the gain of a class from its flows, at the latest net asset value
abbrev pub gain_of_flows : ℕ → ClassFlows → List Sheet → Option ClassGain
gain_of_flows class flows sheets = gain_unless_same class (net flows.cash) (net flows.mils) (latest_nav sheets class)

-- the gains of these classes
abbrev pub gains_in : Changes → List Sheet → List ℕ → List ClassGain
gains_in changes sheets classes = filter_map (λ class. gain_of_flows class (class_flows changes class) sheets) classes

-- every class that changes stands among these
abbrev pub HasChanged : List ℕ → Changes → Type 0
HasChanged classes changes =
    (class : ℕ) → changes_class (class_flows changes class) ≡ true → list_any (nat_eq class) classes ≡ true

-- all classes that changes name have numbers from 1 on
abbrev pub is_numbered : Party → Bool
is_numbered (Party.Class class) = nat_le 1 class
is_numbered _ = true

abbrev pub are_numbered : Changes → Bool
are_numbered changes =
    list_all (λ change. is_numbered change.party) changes.cash
    && list_all (λ change. nat_le 1 change.class) changes.outstanding

-- so every class that changes has one
abbrev pub NumbersChanged : Changes → Type 0
NumbersChanged changes = (class : ℕ) → changes_class (class_flows changes class) ≡ true → 1 ≤ class

-- what comes to a class and goes from it is within the limits of a correction
pub record KeepsChange (flows : ClassFlows) : Type 0 where
  pub cash_in : flows.cash.inflow ≤ most_cash
  pub cash_out : flows.cash.outflow ≤ most_cash
  pub mils_in : flows.mils.inflow ≤ most_mils
  pub mils_out : flows.mils.outflow ≤ most_mils

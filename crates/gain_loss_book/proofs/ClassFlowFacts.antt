-- What changes bring the classes, one more of them and all together.
use Rattle.std.proofs.Common.{Bool, List, [], ap, arith, cond, false, get_or, length, take, true, unwrap_or, ℕ, ◌+◌, ◌<◌, ◌==◌, ◌∙◌, ◌≡◌, ◌≤◌}
use Rattle.std.proofs.lemmas.List.Sums.{sum_by-le-sum_by, sum_by_more_le_part}
use Rattle.std.specs.BTreeMap.{BTreeMap, is_at}
use Rattle.std.specs.Map.{lookup}
use Rattle.std.specs.Ordering.{nat_cmp}
use Rattle.agent_events.specs.declared.order.Party.{Party}
use Rattle.agent_events.specs.declared.totals.CashChange.{CashChange}
use Rattle.agent_events.specs.declared.totals.Changes.{Changes}
use Rattle.agent_events.specs.declared.totals.MilsChange.{MilsChange}
use Rattle.register_machine.specs.corrections.Cash.{same_party}
use Rattle.gain_loss_book.proofs.PostedFacts.{falls-within, flow-in, flow-out, rises-within}
use Rattle.gain_loss_book.specs.ClassFlows.{flows_of, no_flows}
use Rattle.gain_loss_book.specs.ClassGains.{KeepsChange, all_mils, class_flows, mils_fall_in, mils_flow, mils_rise_in, most_mils, size_of_mils}
use Rattle.gain_loss_book.specs.Flows.{fall, rise, with_flow}
use Rattle.gain_loss_book.specs.Posted.{all_changes, changes_flow, fall_in, most_cash, rise_in, size_of_cash}
use Rattle.gain_loss_book.specs.declared.class_flows.ClassFlows.{ClassFlows}
use Rattle.gain_loss_book.specs.declared.flows.Flow.{Flow}

pub flows-same : (a b : ClassFlows) → a.cash ≡ b.cash → a.mils ≡ b.mils → a ≡ b
flows-same a b cash mils =
    let with_first = λ (f : Flow). let flows : ClassFlows = record { cash = f; mils = a.mils } in flows in
    let with_second = λ (f : Flow). let flows : ClassFlows = record { cash = b.cash; mils = f } in flows in
    ap with_first cash ∙ ap with_second mils

pub cash-of : (a b : ClassFlows) → a ≡ b → a.cash ≡ b.cash
cash-of a b same = ap (λ (f : ClassFlows). f.cash) same

pub mils-of : (a b : ClassFlows) → a ≡ b → a.mils ≡ b.mils
mils-of a b same = ap (λ (f : ClassFlows). f.mils) same

-- a part of a term is within it
part-le : (b : Bool) (n : ℕ) → cond b n 0 ≤ n
part-le true n = omega arith
part-le false n = omega arith

-- the changes of one party so far and the next change are within all of them
pub party-rise-fits : (rows : List CashChange) (i : ℕ) (d : CashChange) → i < length rows → (base now : Flow) (q : Party) (m : ℕ) → now ≡ with_flow base (changes_flow (take i rows) q) → base.inflow + (all_changes rows).inflow < m → now.inflow + rise (get_or rows i d).cents < m
party-rise-fits rows i d there base now q m was fits =
    omega (arith, sum_by_more_le_part (rise_in q) (λ (x : CashChange). rise x.cents) rows i d there (λ x. part-le (same_party x.party q) (rise x.cents)), flow-in _ _ was)

pub party-fall-fits : (rows : List CashChange) (i : ℕ) (d : CashChange) → i < length rows → (base now : Flow) (q : Party) (m : ℕ) → now ≡ with_flow base (changes_flow (take i rows) q) → base.outflow + (all_changes rows).outflow < m → now.outflow + fall (get_or rows i d).cents < m
party-fall-fits rows i d there base now q m was fits =
    omega (arith, sum_by_more_le_part (fall_in q) (λ (x : CashChange). fall x.cents) rows i d there (λ x. part-le (same_party x.party q) (fall x.cents)), flow-out _ _ was)

pub class-rise-fits : (rows : List MilsChange) (i : ℕ) (d : MilsChange) → i < length rows → (base now : Flow) (q : ℕ) (m : ℕ) → now ≡ with_flow base (mils_flow (take i rows) q) → base.inflow + (all_mils rows).inflow < m → now.inflow + rise (get_or rows i d).mils < m
class-rise-fits rows i d there base now q m was fits =
    omega (arith, sum_by_more_le_part (mils_rise_in q) (λ (x : MilsChange). rise x.mils) rows i d there (λ x. part-le (x.class == q) (rise x.mils)), flow-in _ _ was)

pub class-fall-fits : (rows : List MilsChange) (i : ℕ) (d : MilsChange) → i < length rows → (base now : Flow) (q : ℕ) (m : ℕ) → now ≡ with_flow base (mils_flow (take i rows) q) → base.outflow + (all_mils rows).outflow < m → now.outflow + fall (get_or rows i d).mils < m
class-fall-fits rows i d there base now q m was fits =
    omega (arith, sum_by_more_le_part (mils_fall_in q) (λ (x : MilsChange). fall x.mils) rows i d there (λ x. part-le (x.class == q) (fall x.mils)), flow-out _ _ was)

-- an empty map has no flows
pub empty-flows : (classes : BTreeMap ℕ ClassFlows) → classes.entries ≡ [] → (q : ℕ) → flows_of classes q ≡ no_flows
empty-flows classes none q = ap (λ (es : List (ℕ × ClassFlows)). unwrap_or (lookup (is_at (nat_cmp q)) es) no_flows) none

pub mils-rises-within : (rows : List MilsChange) → (all_mils rows).inflow ≤ size_of_mils rows
mils-rises-within rows = sum_by-le-sum_by (λ (x : MilsChange). rise x.mils) (λ (x : MilsChange). rise x.mils + fall x.mils) rows (λ x. omega arith)

pub mils-falls-within : (rows : List MilsChange) → (all_mils rows).outflow ≤ size_of_mils rows
mils-falls-within rows = sum_by-le-sum_by (λ (x : MilsChange). fall x.mils) (λ (x : MilsChange). rise x.mils + fall x.mils) rows (λ x. omega arith)

-- the flows of one class are within the limits of all
pub keeps-change : (changes : Changes) (class : ℕ) (flows : ClassFlows) → flows ≡ class_flows changes class → size_of_cash changes.cash ≤ most_cash → size_of_mils changes.outstanding ≤ most_mils → KeepsChange flows
keeps-change changes class flows same cash mils = record {
  cash_in = omega (arith, flow-in _ _ (cash-of _ _ same), cash, rises-within changes.cash, sum_by-le-sum_by (rise_in (Party.Class class)) (λ (x : CashChange). rise x.cents) changes.cash (λ x. part-le (same_party x.party (Party.Class class)) (rise x.cents)));
  cash_out = omega (arith, flow-out _ _ (cash-of _ _ same), cash, falls-within changes.cash, sum_by-le-sum_by (fall_in (Party.Class class)) (λ (x : CashChange). fall x.cents) changes.cash (λ x. part-le (same_party x.party (Party.Class class)) (fall x.cents)));
  mils_in = omega (arith, flow-in _ _ (mils-of _ _ same), mils, mils-rises-within changes.outstanding, sum_by-le-sum_by (mils_rise_in class) (λ (x : MilsChange). rise x.mils) changes.outstanding (λ x. part-le (x.class == class) (rise x.mils)));
  mils_out = omega (arith, flow-out _ _ (mils-of _ _ same), mils, mils-falls-within changes.outstanding, sum_by-le-sum_by (mils_fall_in class) (λ (x : MilsChange). fall x.mils) changes.outstanding (λ x. part-le (x.class == class) (fall x.mils)));
}

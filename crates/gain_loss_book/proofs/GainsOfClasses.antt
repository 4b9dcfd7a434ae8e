-- The gains over the classes that are gathered are those over any rising classes among which all that change stand.
use Rattle.std.proofs.Common.{Bool, List, None, Option, Some, [], ap, cond, false, inl, inr, arith, is_some, nat_eq, nat_le, not, refl, suc, sum_by, sym, true, zero, ℤ, ◌==◌, unwrap_or, ℕ, ◌&&◌, ◌||◌, ◌∙◌, ◌∷◌, ◌≡◌, ◌⊎◌}
use Rattle.std.specs.BTreeMap.{BTreeMap, is_at, keys}
use Rattle.std.specs.Cmp.{unsigned_tied}
use Rattle.std.specs.List.{filter_map, list_all, list_any}
use Rattle.std.specs.List.Sorted.{IsStrictlyIncreasing, IsStrictlySortedBy}
use Rattle.std.specs.Map.{lookup}
use Rattle.std.specs.Ordering.{nat_cmp}
use Rattle.std.proofs.lemmas.Bool.{true≢false}
use Rattle.std.proofs.lemmas.Map.Keys.{sorted_from_strictly_increasing}
use Rattle.std.proofs.lemmas.Map.Made.{is_some-lookup}
use Rattle.agent_events.specs.declared.reply_lists.ClassGain.{ClassGain}
use Rattle.std.proofs.lemmas.Bool.Decides.{eqb_tells}
use Rattle.std.proofs.lemmas.List.Sums.{sum_by-cons}
use Rattle.agent_events.specs.declared.order.Party.{Party}
use Rattle.agent_events.specs.declared.totals.CashChange.{CashChange}
use Rattle.agent_events.specs.declared.totals.MilsChange.{MilsChange}
use Rattle.register_machine.specs.corrections.Cash.{same_party}
use Rattle.gain_loss_book.proofs.BookedFacts.{gains-alike}
use Rattle.gain_loss_book.proofs.ClassFlowFacts.{flows-same}
use Rattle.gain_loss_book.proofs.FlowFacts.{flow-same}
use Rattle.agent_events.specs.declared.totals.Changes.{Changes}
use Rattle.forward_price.specs.declared.price_sheet.Sheet.{Sheet}
use Rattle.register_machine.specs.corrections.Gains.{gain_by, is_nothing, latest_nav}
use Rattle.gain_loss_book.proofs.RisingClasses.{rising-same}
use Rattle.gain_loss_book.specs.ClassFlows.{flows_of, no_flows}
use Rattle.gain_loss_book.specs.ClassGains.{HasChanged, NumbersChanged, are_numbered, changes_class, class_flows, gain_of_flows, gains_in, is_numbered}
use Rattle.gain_loss_book.specs.Flows.{fall, net, no_flow, rise}
use Rattle.gain_loss_book.specs.declared.class_flows.ClassFlows.{ClassFlows}

pub alike-tests : (q : ℕ) (ks : List ℕ) → list_any (is_at (nat_cmp q)) ks ≡ list_any (nat_eq q) ks
alike-tests q [] = refl
alike-tests q (k ∷ ks) =
    ap (λ b. b || list_any (is_at (nat_cmp q)) ks) (unsigned_tied q k) ∙ ap (λ b. nat_eq q k || b) (alike-tests q ks)

-- a class that isn't gathered has no flows
pub flows-none : (classes : BTreeMap ℕ ClassFlows) (q : ℕ) → list_any (nat_eq q) (keys classes) ≡ false → flows_of classes q ≡ no_flows
flows-none classes q absent =
    by_found (lookup (is_at (nat_cmp q)) classes.entries) (is_some-lookup (is_at (nat_cmp q)) classes.entries ∙ (alike-tests q (keys classes) ∙ absent))
  where
    by_found : (o : Option ClassFlows) → is_some o ≡ false → unwrap_or o no_flows ≡ no_flows
    by_found None e = refl
    by_found (Some flows) e = absurd (true≢false e)

-- one that doesn't change has no gain
gain-none : (class : ℕ) (flows : ClassFlows) (sheets : List Sheet) → changes_class flows ≡ false → gain_of_flows class flows sheets ≡ None
gain-none class flows sheets same =
    by_change (is_nothing (net flows.cash) && is_nothing (net flows.mils)) same
  where
    by_change : (b : Bool) → not b ≡ false → cond {A = Option ClassGain} b None (Some (record { class = class; cents = gain_by (net flows.cash) (net flows.mils) (latest_nav sheets class) })) ≡ None
    by_change true e = refl
    by_change false e = absurd (true≢false e)

and-first : (a b : Bool) → (a && b) ≡ true → a ≡ true
and-first true b e = refl
and-first false b e = e

and-second : (a b : Bool) → (a && b) ≡ true → b ≡ true
and-second true b e = e
and-second false b e = absurd (true≢false (sym e))

pub gains-over : (classes : BTreeMap ℕ ClassFlows) (changes : Changes) (sheets : List Sheet) (chosen : List ℕ) → ((q : ℕ) → flows_of classes q ≡ class_flows changes q) → IsStrictlySortedBy nat_cmp (keys classes) → IsStrictlyIncreasing chosen → HasChanged chosen changes → filter_map (λ q. gain_of_flows q (flows_of classes q) sheets) (keys classes) ≡ gains_in changes sheets chosen
gains-over classes changes sheets chosen gathered rising increasing has =
    gains-alike (λ q. gain_of_flows q (flows_of classes q) sheets) gain (λ q. ap (λ (flows : ClassFlows). gain_of_flows q flows sheets) (gathered q)) (keys classes)
    ∙ rising-same gain (keys classes) chosen rising (sorted_from_strictly_increasing chosen increasing) agree
  where
    gain : ℕ → Option ClassGain
    gain q = gain_of_flows q (class_flows changes q) sheets

    agree : (q : ℕ) → (gain q ≡ None) ⊎ (list_any (nat_eq q) (keys classes) ≡ list_any (nat_eq q) chosen)
    agree q = by_place (list_any (nat_eq q) (keys classes)) (changes_class (class_flows changes q)) refl refl
      where
        by_place : (there changed : Bool) → list_any (nat_eq q) (keys classes) ≡ there → changes_class (class_flows changes q) ≡ changed → (gain q ≡ None) ⊎ (list_any (nat_eq q) (keys classes) ≡ list_any (nat_eq q) chosen)
        by_place true true is changes_it = inr (is ∙ sym (has q changes_it))
        by_place true false is same = inl (gain-none q (class_flows changes q) sheets same)
        by_place false false is same = inl (gain-none q (class_flows changes q) sheets same)
        by_place false true absent changes_it =
            absurd (true≢false (sym changes_it ∙ ap changes_class (sym (gathered q) ∙ flows-none classes q absent)))

-- ---- numbers

-- rows of classes from 1 on have nothing of class 0
none-of-zero : (side : ℤ → ℕ) (rows : List CashChange) → list_all (λ change. is_numbered change.party) rows ≡ true → sum_by (λ (x : CashChange). cond (same_party x.party (Party.Class 0)) (side x.cents) 0) rows ≡ 0
none-of-zero side [] all = refl
none-of-zero side (row ∷ rows) all =
    omega (arith, sum_by-cons (λ (x : CashChange). cond (same_party x.party (Party.Class 0)) (side x.cents) 0) row rows, by_party row.party (side row.cents) (and-first (is_numbered row.party) _ all), none-of-zero side rows (and-second (is_numbered row.party) _ all))
  where
    by_party : (party : Party) (n : ℕ) → is_numbered party ≡ true → cond (same_party party (Party.Class 0)) n 0 ≡ 0
    by_party (Party.Class class) n numbered = elim (eqb_tells class 0) [
      | inl (is, same) ↦ absurd (true≢false (sym (ap (nat_le 1) (sym same) ∙ numbered)))
      | inr (is, apart) ↦ ap {B = ℕ} (λ b. cond b n 0) is
    ]
    by_party (Party.Holder account) n numbered = refl
    by_party (Party.Dealer dealer) n numbered = refl
    by_party Party.Underwriter n numbered = refl
    by_party Party.Agent n numbered = refl

none-of-zero_mils : (side : ℤ → ℕ) (rows : List MilsChange) → list_all (λ change. nat_le 1 change.class) rows ≡ true → sum_by (λ (x : MilsChange). cond (x.class == 0) (side x.mils) 0) rows ≡ 0
none-of-zero_mils side [] all = refl
none-of-zero_mils side (row ∷ rows) all =
    omega (arith, sum_by-cons (λ (x : MilsChange). cond (x.class == 0) (side x.mils) 0) row rows, by_class row.class (side row.mils) (and-first (nat_le 1 row.class) _ all), none-of-zero_mils side rows (and-second (nat_le 1 row.class) _ all))
  where
    by_class : (class n : ℕ) → nat_le 1 class ≡ true → cond (class == 0) n 0 ≡ 0
    by_class class n numbered = elim (eqb_tells class 0) [
      | inl (is, same) ↦ absurd (true≢false (sym (ap (nat_le 1) (sym same) ∙ numbered)))
      | inr (is, apart) ↦ ap {B = ℕ} (λ b. cond b n 0) is
    ]

pub numbers-changed : (changes : Changes) → are_numbered changes ≡ true → NumbersChanged changes
numbers-changed changes numbered zero changed =
    let cash = and-first (list_all (λ (change : CashChange). is_numbered change.party) changes.cash) _ numbered in
    let mils = and-second (list_all (λ (change : CashChange). is_numbered change.party) changes.cash) _ numbered in
    let none : class_flows changes 0 ≡ no_flows =
    flows-same (class_flows changes 0) no_flows
    (flow-same (class_flows changes 0).cash no_flow (none-of-zero rise changes.cash cash) (none-of-zero fall changes.cash cash))
    (flow-same (class_flows changes 0).mils no_flow (none-of-zero_mils rise changes.outstanding mils) (none-of-zero_mils fall changes.outstanding mils)) in
    absurd (true≢false (sym changed ∙ ap changes_class none))
numbers-changed changes numbered (suc class) changed = omega arith

-- The rows of a tally name each party and each class once.
use Rattle.std.proofs.Common.{Bool, List, [], ap, arith, cond, count_by, false, flat_map, get_or, inl, inr, map, nat_eq, refl, subst, sym, true, ℕ, ◌++◌, ◌+◌, ◌<◌, ◌==◌, ◌∷◌, ◌≡◌, ◌≤◌}
use Rattle.std.proofs.lemmas.Bool.{eqb-true}
use Rattle.std.proofs.lemmas.List.Sums.{sum_by-append, sum_by-cons}
use Rattle.std.proofs.lemmas.Bool.Decides.{eqb_tells}
use Rattle.std.proofs.lemmas.List.{map-id}
use Rattle.std.proofs.lemmas.Map.Keys.{IsDistinct-from_apart, IsDistinct-head, IsDistinct-tail, below_from_sorted}
use Rattle.std.specs.BTreeMap.{keys}
use Rattle.std.specs.List.{AllByRecursion, IsDistinct}
use Rattle.std.specs.List.Sorted.{IsStrictlySortedBy}
use Rattle.std.specs.Ordering.{nat_cmp}
use Rattle.agent_events.specs.declared.order.Party.{Party}
use Rattle.agent_events.specs.declared.totals.CashChange.{CashChange}
use Rattle.agent_events.specs.declared.totals.MilsChange.{MilsChange}
use Rattle.gain_loss_book.specs.ChangeRows.{cash_row, cash_rows, class_rows, dealer_rows, holder_rows, mils_row, mils_rows}
use Rattle.gain_loss_book.specs.ClassFlows.{flows_of}
use Rattle.gain_loss_book.specs.Flows.{net}
use Rattle.gain_loss_book.specs.Tallies.{sorted_flow}
use Rattle.gain_loss_book.specs.declared.flows.Flow.{Flow}
use Rattle.gain_loss_book.specs.declared.tally.Tally.{Tally}
use Rattle.limit_laws.specs.Posts.{HasRowsOnce, TallyNamesEachOnce}
use Rattle.register_laws.proofs.Comparisons.{eq-yes}
use Rattle.register_machine.specs.corrections.Cash.{same_party}
use Rattle.register_machine.specs.corrections.Gains.{is_nothing}

-- ---- rows by number

key-once : {K : Type 0} (key : K → ℕ) (q : ℕ) (ks : List K) → IsDistinct nat_eq (map key ks) → count_by (λ k. nat_eq q (key k)) ks ≤ 1
key-once key q [] once = omega arith
key-once {K = K} key q (k ∷ ks) once =
    by (nat_eq q (key k)) refl (key-once key q ks (IsDistinct-tail nat_eq (key k) (map key ks) once)) (sum_by-cons (λ x. cond (nat_eq q (key x)) 1 0) k ks)
  where
    none : (ks : List K) → AllByRecursion (λ m. nat_eq q m ≡ false) (map key ks) → count_by (λ x. nat_eq q (key x)) ks ≤ 0
    none [] absent = omega arith
    none (m ∷ ks) absent = omega (arith, none ks absent.1, sum_by-cons (λ x. cond (nat_eq q (key x)) 1 0) m ks, ap {B = ℕ} (λ b. cond b 1 0) absent.0)

    by : (same : Bool) → nat_eq q (key k) ≡ same → count_by (λ x. nat_eq q (key x)) ks ≤ 1 → count_by (λ x. nat_eq q (key x)) (k ∷ ks) ≡ cond same 1 0 + count_by (λ x. nat_eq q (key x)) ks → count_by (λ x. nat_eq q (key x)) (k ∷ ks) ≤ 1
    by false e rest whole = omega (arith, rest, whole)
    by true e rest whole =
        let absent : AllByRecursion (λ m. nat_eq q m ≡ false) (map key ks) = subst (λ n. AllByRecursion (λ m. nat_eq n m ≡ false) (map key ks)) (sym (eqb-true q (key k) e)) (IsDistinct-head nat_eq (key k) (map key ks) once) in
        omega (arith, whole, none ks absent)

-- a list that rises has each number once
rising-once : (ks : List ℕ) → IsStrictlySortedBy nat_cmp ks → IsDistinct nat_eq (map (λ k. k) ks)
rising-once ks up =
    subst (IsDistinct nat_eq) (sym (map-id ks)) (IsDistinct-from_apart nat_eq ks (λ i j d before within. apart (get_or ks i d) (get_or ks j d) (below_from_sorted ks i j d up before within)))
  where
    apart : (a b : ℕ) → a < b → nat_eq a b ≡ false
    apart a b less = elim (eqb_tells a b) [ inl (is, same) ↦ absurd (omega (arith, same, less)) | inr (is, other) ↦ is ]

rows-once : {Row K : Type 0} (p : Row → Bool) (row : K → List Row) (key : K → ℕ) (q : ℕ) → ((k : K) → count_by p (row k) ≤ cond (nat_eq q (key k)) 1 0) → (ks : List K) → count_by p (flat_map row ks) ≤ count_by (λ k. nat_eq q (key k)) ks
rows-once p row key q each [] = omega arith
rows-once p row key q each (k ∷ ks) =
    omega (arith, each k, rows-once p row key q each ks, sum_by-append (λ x. cond (p x) 1 0) (row k) (flat_map row ks), sum_by-cons (λ x. cond (nat_eq q (key x)) 1 0) k ks)

rows-none : {Row K : Type 0} (p : Row → Bool) (row : K → List Row) → ((k : K) → count_by p (row k) ≤ 0) → (ks : List K) → count_by p (flat_map row ks) ≤ 0
rows-none p row each [] = omega arith
rows-none p row each (k ∷ ks) =
    omega (arith, each k, rows-none p row each ks, sum_by-append (λ x. cond (p x) 1 0) (row k) (flat_map row ks))

turned : (a b : ℕ) → cond (a == b) 1 0 ≤ cond (nat_eq b a) 1 0
turned a b = by (a == b) refl
  where
    by : (same : Bool) → (a == b) ≡ same → cond same 1 0 ≤ cond (nat_eq b a) 1 0
    by false e = omega arith
    by true e = rw (eq-yes b a (sym (eqb-true a b e))) (omega arith)

-- ---- parties

abbrev of_party : Party → CashChange → Bool
of_party q change = same_party change.party q

row-counts : (q party : Party) (flow : Flow) → count_by (of_party q) (cash_row party flow) ≤ cond (same_party party q) 1 0
row-counts q party flow =
    elim (is_nothing (net flow)) as (λ b. count_by (of_party q) (cond b [] (record { party = party; cents = net flow } ∷ [])) ≤ cond (same_party party q) 1 0) [
      | true ↦ omega arith
      | false ↦ omega arith
    ]

-- the rows of each kind
record CountsBy (tally : Tally) (q : Party) (holders classes dealers underwriter agent : ℕ) : Type 0 where
  of_holders : count_by (of_party q) (holder_rows tally.holders.entries) ≤ holders
  of_classes : count_by (of_party q) (class_rows tally.classes) ≤ classes
  of_dealers : count_by (of_party q) (dealer_rows tally.dealers) ≤ dealers
  of_underwriter : count_by (of_party q) (cash_row Party.Underwriter tally.underwriter) ≤ underwriter
  of_agent : count_by (of_party q) (cash_row Party.Agent tally.agent) ≤ agent

all-count : (tally : Tally) (q : Party) (h c d u a : ℕ) → h + (c + (d + (u + a))) ≤ 1 → CountsBy tally q h c d u a → count_by (of_party q) (cash_rows tally) ≤ 1
all-count tally q h c d u a few by =
    let one : CashChange → ℕ = λ x. cond (of_party q x) 1 0 in
    let two = holder_rows tally.holders.entries ++ class_rows tally.classes in
    let three = two ++ dealer_rows tally.dealers in
    let four = three ++ cash_row Party.Underwriter tally.underwriter in
    omega (
      arith,
      few,
      by.of_holders,
      by.of_classes,
      by.of_dealers,
      by.of_underwriter,
      by.of_agent,
      sum_by-append one (holder_rows tally.holders.entries) (class_rows tally.classes),
      sum_by-append one two (dealer_rows tally.dealers),
      sum_by-append one three (cash_row Party.Underwriter tally.underwriter),
      sum_by-append one four (cash_row Party.Agent tally.agent),
    )

abbrev holder_row : (ℕ × Flow) → List CashChange
holder_row holder = cash_row (Party.Holder holder.0) holder.1

abbrev class_row : Tally → ℕ → List CashChange
class_row tally k = cash_row (Party.Class k) (flows_of tally.classes k).cash

abbrev dealer_row : Tally → ℕ → List CashChange
dealer_row tally k = cash_row (Party.Dealer k) (sorted_flow tally.dealers k)

party-once : (tally : Tally) → HasRowsOnce tally → (q : Party) → count_by (of_party q) (cash_rows tally) ≤ 1
party-once tally rise (Party.Holder a) =
    let q = Party.Holder a in
    all-count tally q 1 0 0 0 0 (omega arith) (record {
      of_holders = omega (arith, key-once (λ (e : ℕ × Flow). e.0) a tally.holders.entries rise.holders, rows-once (of_party q) holder_row (λ (e : ℕ × Flow). e.0) a (λ (e : ℕ × Flow). omega (arith, row-counts q (Party.Holder e.0) e.1, turned e.0 a)) tally.holders.entries);
      of_classes = rows-none (of_party q) (class_row tally) (λ k. row-counts q (Party.Class k) (flows_of tally.classes k).cash) (keys tally.classes);
      of_dealers = rows-none (of_party q) (dealer_row tally) (λ k. row-counts q (Party.Dealer k) (sorted_flow tally.dealers k)) (keys tally.dealers);
      of_underwriter = row-counts q Party.Underwriter tally.underwriter;
      of_agent = row-counts q Party.Agent tally.agent;
    })
party-once tally rise (Party.Class a) =
    let q = Party.Class a in
    all-count tally q 0 1 0 0 0 (omega arith) (record {
      of_holders = rows-none (of_party q) holder_row (λ (e : ℕ × Flow). row-counts q (Party.Holder e.0) e.1) tally.holders.entries;
      of_classes = omega (arith, key-once (λ k. k) a (keys tally.classes) (rising-once (keys tally.classes) rise.classes), rows-once (of_party q) (class_row tally) (λ k. k) a (λ k. omega (arith, row-counts q (Party.Class k) (flows_of tally.classes k).cash, turned k a)) (keys tally.classes));
      of_dealers = rows-none (of_party q) (dealer_row tally) (λ k. row-counts q (Party.Dealer k) (sorted_flow tally.dealers k)) (keys tally.dealers);
      of_underwriter = row-counts q Party.Underwriter tally.underwriter;
      of_agent = row-counts q Party.Agent tally.agent;
    })
party-once tally rise (Party.Dealer a) =
    let q = Party.Dealer a in
    all-count tally q 0 0 1 0 0 (omega arith) (record {
      of_holders = rows-none (of_party q) holder_row (λ (e : ℕ × Flow). row-counts q (Party.Holder e.0) e.1) tally.holders.entries;
      of_classes = rows-none (of_party q) (class_row tally) (λ k. row-counts q (Party.Class k) (flows_of tally.classes k).cash) (keys tally.classes);
      of_dealers = omega (arith, key-once (λ k. k) a (keys tally.dealers) (rising-once (keys tally.dealers) rise.dealers), rows-once (of_party q) (dealer_row tally) (λ k. k) a (λ k. omega (arith, row-counts q (Party.Dealer k) (sorted_flow tally.dealers k), turned k a)) (keys tally.dealers));
      of_underwriter = row-counts q Party.Underwriter tally.underwriter;
      of_agent = row-counts q Party.Agent tally.agent;
    })
party-once tally rise Party.Underwriter =
    all-count tally Party.Underwriter 0 0 0 1 0 (omega arith) (record {
      of_holders = rows-none (of_party Party.Underwriter) holder_row (λ (e : ℕ × Flow). row-counts Party.Underwriter (Party.Holder e.0) e.1) tally.holders.entries;
      of_classes = rows-none (of_party Party.Underwriter) (class_row tally) (λ k. row-counts Party.Underwriter (Party.Class k) (flows_of tally.classes k).cash) (keys tally.classes);
      of_dealers = rows-none (of_party Party.Underwriter) (dealer_row tally) (λ k. row-counts Party.Underwriter (Party.Dealer k) (sorted_flow tally.dealers k)) (keys tally.dealers);
      of_underwriter = row-counts Party.Underwriter Party.Underwriter tally.underwriter;
      of_agent = row-counts Party.Underwriter Party.Agent tally.agent;
    })
party-once tally rise Party.Agent =
    all-count tally Party.Agent 0 0 0 0 1 (omega arith) (record {
      of_holders = rows-none (of_party Party.Agent) holder_row (λ (e : ℕ × Flow). row-counts Party.Agent (Party.Holder e.0) e.1) tally.holders.entries;
      of_classes = rows-none (of_party Party.Agent) (class_row tally) (λ k. row-counts Party.Agent (Party.Class k) (flows_of tally.classes k).cash) (keys tally.classes);
      of_dealers = rows-none (of_party Party.Agent) (dealer_row tally) (λ k. row-counts Party.Agent (Party.Dealer k) (sorted_flow tally.dealers k)) (keys tally.dealers);
      of_underwriter = row-counts Party.Agent Party.Underwriter tally.underwriter;
      of_agent = row-counts Party.Agent Party.Agent tally.agent;
    })

-- ---- classes

share-counts : (q class : ℕ) (flow : Flow) → count_by (λ (change : MilsChange). change.class == q) (mils_row class flow) ≤ cond (class == q) 1 0
share-counts q class flow =
    elim (is_nothing (net flow)) as (λ b. count_by (λ (change : MilsChange). change.class == q) (cond b [] (record { class = class; mils = net flow } ∷ [])) ≤ cond (class == q) 1 0) [
      | true ↦ omega arith
      | false ↦ omega arith
    ]

class-once : (tally : Tally) → HasRowsOnce tally → (q : ℕ) → count_by (λ (change : MilsChange). change.class == q) (mils_rows tally) ≤ 1
class-once tally rise q =
    omega (
      arith,
      key-once (λ k. k) q (keys tally.classes) (rising-once (keys tally.classes) rise.classes),
      rows-once (λ (change : MilsChange). change.class == q) (λ k. mils_row k (flows_of tally.classes k).mils) (λ k. k) q
          (λ k. omega (arith, share-counts q k (flows_of tally.classes k).mils, turned k q)) (keys tally.classes),
    )

pub tally_names_each_once : (tally : Tally) → TallyNamesEachOnce tally
tally_names_each_once tally rise = record { parties = party-once tally rise; classes = class-once tally rise }

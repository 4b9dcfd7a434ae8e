-- The rows of a tally change each party and each class by what the tally took in.
use Rattle.std.proofs.Common.{Bool, List, None, Option, Some, [], ap, arith, cond, eq-eqb, false, flat_map, inl, inr, is_some, nat_eq, refl, sum_by, sym, true, unwrap_or, ℕ, ℤ, ◌++◌, ◌+◌, ◌==◌, ◌||◌, ◌∙◌, ◌∷◌, ◌≡◌, negsuc, pos}
use Rattle.std.specs.BTreeMap.{BTreeMap, is_at, keys}
use Rattle.std.specs.List.{AllByRecursion, IsDistinct, list_any}
use Rattle.std.specs.List.Sorted.{IsStrictlySortedBy}
use Rattle.std.specs.Map.{keys_of, lookup}
use Rattle.std.specs.Ordering.{nat_cmp}
use Rattle.std.proofs.lemmas.Bool.{true≢false}
use Rattle.std.proofs.lemmas.Bool.Decides.{Decides-int_eq, eqb_tells}
use Rattle.std.proofs.lemmas.Int.{ints}
use Rattle.std.proofs.lemmas.List.Sums.{sum_by-append, sum_by-cons}
use Rattle.std.proofs.lemmas.Map.Keys.{IsDistinct-head, IsDistinct-tail, sorted_head, sorted_tail}
use Rattle.std.proofs.lemmas.Map.Made.{is_some-lookup}
use Rattle.agent_events.specs.declared.order.Party.{Party}
use Rattle.agent_events.specs.declared.totals.CashChange.{CashChange}
use Rattle.agent_events.specs.declared.totals.MilsChange.{MilsChange}
use Rattle.register_machine.specs.corrections.Cash.{same_party}
use Rattle.register_machine.specs.corrections.Gains.{is_nothing}
use Rattle.gain_loss_book.proofs.FlowFacts.{flow-same}
use Rattle.gain_loss_book.proofs.GainsOfClasses.{alike-tests, flows-none}
use Rattle.gain_loss_book.proofs.RisingClasses.{none-up_to}
use Rattle.gain_loss_book.specs.ChangeRows.{cash_row, cash_rows, class_rows, dealer_rows, holder_rows, mils_row, mils_rows}
use Rattle.gain_loss_book.specs.ClassFlows.{flows_of}
use Rattle.gain_loss_book.specs.ClassGains.{mils_change, mils_flow}
use Rattle.gain_loss_book.specs.Flows.{fall, flow_at, flow_by, net, no_flow, rise}
use Rattle.gain_loss_book.specs.Posted.{cash_change, changes_flow}
use Rattle.gain_loss_book.specs.Tallies.{cash_tallied, mils_tallied, sorted_flow}
use Rattle.gain_loss_book.specs.declared.class_flows.ClassFlows.{ClassFlows}
use Rattle.gain_loss_book.specs.declared.flows.Flow.{Flow}
use Rattle.gain_loss_book.specs.declared.tally.Tally.{Tally}

-- sums over rows by number, of which only one number's count
other-sum : {X K : Type 0} (g : X → ℕ) (row : K → List X) → ((k : K) → sum_by g (row k) ≡ 0) → (ks : List K) → sum_by g (flat_map row ks) ≡ 0
other-sum g row none [] = refl
other-sum g row none (k ∷ ks) =
    omega (arith, sum_by-append g (row k) (flat_map row ks), none k, other-sum g row none ks)

own-sum : {X : Type 0} (g : X → ℕ) (row : ℕ → List X) (q : ℕ) → ((k : ℕ) → (q ≡ k → ⊥) → sum_by g (row k) ≡ 0) → (ks : List ℕ) → IsStrictlySortedBy nat_cmp ks → sum_by g (flat_map row ks) ≡ cond (list_any (nat_eq q) ks) (sum_by g (row q)) 0
own-sum g row q none [] up = refl
own-sum g row q none (k ∷ ks) up =
    let both = sum_by-append g (row k) (flat_map row ks) in
    let rest = own-sum g row q none ks (sorted_tail nat_cmp k ks up) in
    elim (eqb_tells q k) [
      | inl (is, same) ↦
          (let later = none-up_to k q (omega (arith, same)) ks (sorted_head nat_cmp k ks up) in
          let rest_none : sum_by g (flat_map row ks) ≡ 0 = rest ∙ ap {B = ℕ} (λ b. cond b (sum_by g (row q)) 0) later in
          let first = ap (λ n. sum_by g (row n)) same in
          let whole : sum_by g (row k ++ flat_map row ks) ≡ sum_by g (row q) = omega (arith, both, rest_none, first) in
          whole ∙ sym (ap {B = ℕ} (λ b. cond (b || list_any (nat_eq q) ks) (sum_by g (row q)) 0) is))
      | inr (is, apart) ↦
          (let first = none k apart in
          let whole : sum_by g (row k ++ flat_map row ks) ≡ cond (list_any (nat_eq q) ks) (sum_by g (row q)) 0 = omega (arith, both, first, rest) in
          whole ∙ sym (ap {B = ℕ} (λ b. cond (b || list_any (nat_eq q) ks) (sum_by g (row q)) 0) is))
    ]

-- a row of its party, and of another
own-row : (side : ℤ → ℕ) → side (pos 0) ≡ 0 → (p party : Party) (flow : Flow) → same_party p party ≡ true → sum_by (λ (x : CashChange). cond (same_party x.party party) (side x.cents) 0) (cash_row p flow) ≡ side (net flow)
own-row side none p party flow same =
    by_size (is_nothing (net flow)) refl
  where
    of_row : sum_by (λ (x : CashChange). cond (same_party x.party party) (side x.cents) 0) (record { party = p; cents = net flow } ∷ []) ≡ side (net flow)
    of_row =
        let one : CashChange = record { party = p; cents = net flow } in
        let first = sum_by-cons (λ (x : CashChange). cond (same_party x.party party) (side x.cents) 0) one [] in
        let own : cond (same_party p party) (side (net flow)) 0 ≡ side (net flow) = ap {B = ℕ} (λ b. cond b (side (net flow)) 0) same in
        omega (arith, first, own)

    by_size : (b : Bool) → is_nothing (net flow) ≡ b → sum_by (λ (x : CashChange). cond (same_party x.party party) (side x.cents) 0) (cond b [] (record { party = p; cents = net flow } ∷ [])) ≡ side (net flow)
    by_size true e = sym none ∙ ap side (sym ((Decides-int_eq (net flow) (pos 0)).0 e))
    by_size false e = of_row

other-row : (side : ℤ → ℕ) (p party : Party) (flow : Flow) → same_party p party ≡ false → sum_by (λ (x : CashChange). cond (same_party x.party party) (side x.cents) 0) (cash_row p flow) ≡ 0
other-row side p party flow apart =
    by_size (is_nothing (net flow))
  where
    by_size : (b : Bool) → sum_by (λ (x : CashChange). cond (same_party x.party party) (side x.cents) 0) (cond b [] (record { party = p; cents = net flow } ∷ [])) ≡ 0
    by_size true = refl
    by_size false =
        let one : CashChange = record { party = p; cents = net flow } in
        let first = sum_by-cons (λ (x : CashChange). cond (same_party x.party party) (side x.cents) 0) one [] in
        let other : cond (same_party p party) (side (net flow)) 0 ≡ 0 = ap {B = ℕ} (λ b. cond b (side (net flow)) 0) apart in
        omega (arith, first, other)

own-class-row : (side : ℤ → ℕ) → side (pos 0) ≡ 0 → (class : ℕ) (flow : Flow) → sum_by (λ (x : MilsChange). cond (x.class == class) (side x.mils) 0) (mils_row class flow) ≡ side (net flow)
own-class-row side none class flow =
    by_size (is_nothing (net flow)) refl
  where
    of_row : sum_by (λ (x : MilsChange). cond (x.class == class) (side x.mils) 0) (record { class = class; mils = net flow } ∷ []) ≡ side (net flow)
    of_row =
        let one : MilsChange = record { class = class; mils = net flow } in
        let first = sum_by-cons (λ (x : MilsChange). cond (x.class == class) (side x.mils) 0) one [] in
        let own : cond (class == class) (side (net flow)) 0 ≡ side (net flow) = ap {B = ℕ} (λ b. cond b (side (net flow)) 0) (same_number class) in
        omega (arith, first, own)
      where
        same_number : (k : ℕ) → (k == k) ≡ true
        same_number k = elim (eqb_tells k k) [ inl (is, same) ↦ is | inr (is, apart) ↦ absurd (apart refl) ]

    by_size : (b : Bool) → is_nothing (net flow) ≡ b → sum_by (λ (x : MilsChange). cond (x.class == class) (side x.mils) 0) (cond b [] (record { class = class; mils = net flow } ∷ [])) ≡ side (net flow)
    by_size true e = sym none ∙ ap side (sym ((Decides-int_eq (net flow) (pos 0)).0 e))
    by_size false e = of_row

other-class-row : (side : ℤ → ℕ) (class other : ℕ) (flow : Flow) → (other == class) ≡ false → sum_by (λ (x : MilsChange). cond (x.class == class) (side x.mils) 0) (mils_row other flow) ≡ 0
other-class-row side class other flow apart =
    by_size (is_nothing (net flow))
  where
    by_size : (b : Bool) → sum_by (λ (x : MilsChange). cond (x.class == class) (side x.mils) 0) (cond b [] (record { class = other; mils = net flow } ∷ [])) ≡ 0
    by_size true = refl
    by_size false =
        let one : MilsChange = record { class = other; mils = net flow } in
        let first = sum_by-cons (λ (x : MilsChange). cond (x.class == class) (side x.mils) 0) one [] in
        let none : cond (other == class) (side (net flow)) 0 ≡ 0 = ap {B = ℕ} (λ b. cond b (side (net flow)) 0) apart in
        omega (arith, first, none)

-- a number that isn't in a tally has no flow
row-none : (rows : BTreeMap ℕ Flow) (q : ℕ) → list_any (nat_eq q) (keys rows) ≡ false → sorted_flow rows q ≡ no_flow
row-none rows q absent =
    by_found (lookup (is_at (nat_cmp q)) rows.entries) (is_some-lookup (is_at (nat_cmp q)) rows.entries ∙ (alike-tests q (keys rows) ∙ absent))
  where
    by_found : (o : Option Flow) → is_some o ≡ false → unwrap_or o no_flow ≡ no_flow
    by_found None e = refl
    by_found (Some flow) e = absurd (true≢false e)

-- so a sum by whether it is there is its own
by_presence : (side : ℤ → ℕ) → side (pos 0) ≡ 0 → (there : Bool) (flow : Flow) (own : ℕ) → own ≡ side (net flow) → (there ≡ false → flow ≡ no_flow) → cond there own 0 ≡ side (net flow)
by_presence side none true flow own is absent = is
by_presence side none false flow own is absent = sym none ∙ ap (λ (f : Flow). side (net f)) (sym (absent refl))

apart_number : (q k : ℕ) → (q ≡ k → ⊥) → (k == q) ≡ false
apart_number q k apart = elim (eqb_tells k q) [ inl (is, same) ↦ absurd (apart (sym same)) | inr (is, other) ↦ is ]

same_number : (k : ℕ) → (k == k) ≡ true
same_number k = elim (eqb_tells k k) [ inl (is, same) ↦ is | inr (is, apart) ↦ absurd (apart refl) ]

-- the rows of one kind of party, at one of them
own-kind : (side : ℤ → ℕ) → side (pos 0) ≡ 0 → (make : ℕ → Party) → ((a b : ℕ) → same_party (make a) (make b) ≡ (a == b)) → (f : ℕ → Flow) (ks : List ℕ) → IsStrictlySortedBy nat_cmp ks → (q : ℕ) → (list_any (nat_eq q) ks ≡ false → f q ≡ no_flow) → sum_by (λ (x : CashChange). cond (same_party x.party (make q)) (side x.cents) 0) (flat_map (λ k. cash_row (make k) (f k)) ks) ≡ side (net (f q))
own-kind side none make same f ks up q absent =
    own-sum (λ (x : CashChange). cond (same_party x.party (make q)) (side x.cents) 0) (λ k. cash_row (make k) (f k)) q (λ k apart. other-row side (make k) (make q) (f k) (same k q ∙ apart_number q k apart)) ks up
    ∙ by_presence side none (list_any (nat_eq q) ks) (f q) _ (own-row side none (make q) (make q) (f q) (same q q ∙ same_number q)) absent

-- and at another party
other-kind : (side : ℤ → ℕ) (make : ℕ → Party) (party : Party) → ((k : ℕ) → same_party (make k) party ≡ false) → (f : ℕ → Flow) (ks : List ℕ) → sum_by (λ (x : CashChange). cond (same_party x.party party) (side x.cents) 0) (flat_map (λ k. cash_row (make k) (f k)) ks) ≡ 0
other-kind side make party apart f ks =
    other-sum (λ (x : CashChange). cond (same_party x.party party) (side x.cents) 0) (λ k. cash_row (make k) (f k)) (λ k. other-row side (make k) party (f k) (apart k)) ks

-- the rows of holders, as they are kept: where one is absent, at one of them, and at another party
absent-holder : (side : ℤ → ℕ) (q : ℕ) (holders : List (ℕ × Flow)) → AllByRecursion (λ k. nat_eq q k ≡ false) (keys_of holders) → sum_by (λ (x : CashChange). cond (same_party x.party (Party.Holder q)) (side x.cents) 0) (holder_rows holders) ≡ 0
absent-holder side q [] absent = refl
absent-holder side q (holder ∷ holders) absent =
    let g : CashChange → ℕ = λ x. cond (same_party x.party (Party.Holder q)) (side x.cents) 0 in
    let apart : (holder.0 == q) ≡ false = apart_number q holder.0 (λ same. true≢false (sym (eq-eqb q holder.0 same) ∙ absent.0)) in
    omega (arith, sum_by-append g (cash_row (Party.Holder holder.0) holder.1) (holder_rows holders), other-row side (Party.Holder holder.0) (Party.Holder q) holder.1 apart, absent-holder side q holders absent.1)

own-holder : (side : ℤ → ℕ) → side (pos 0) ≡ 0 → (q : ℕ) (holders : List (ℕ × Flow)) → IsDistinct nat_eq (keys_of holders) → sum_by (λ (x : CashChange). cond (same_party x.party (Party.Holder q)) (side x.cents) 0) (holder_rows holders) ≡ side (net (flow_at holders q))
own-holder side none q [] once = sym none
own-holder side none q (holder ∷ holders) once =
    let p = Party.Holder q in
    let g : CashChange → ℕ = λ x. cond (same_party x.party p) (side x.cents) 0 in
    let both = sum_by-append g (cash_row (Party.Holder holder.0) holder.1) (holder_rows holders) in
    elim (eqb_tells q holder.0) [
      | inl (is, same) ↦
          (let absent : AllByRecursion (λ k. nat_eq q k ≡ false) (keys_of holders) = rw same (IsDistinct-head nat_eq holder.0 (keys_of holders) once) in
          let own = own-row side none (Party.Holder holder.0) p holder.1 (eq-eqb holder.0 q (sym same)) in
          let whole : sum_by g (holder_rows (holder ∷ holders)) ≡ side (net holder.1) = omega (arith, both, own, absent-holder side q holders absent) in
          whole ∙ ap (λ b. side (net (unwrap_or (cond b (Some holder.1) (lookup (nat_eq q) holders)) no_flow))) (sym is))
      | inr (is, apart) ↦
          (let first = other-row side (Party.Holder holder.0) p holder.1 (apart_number q holder.0 apart) in
          let whole : sum_by g (holder_rows (holder ∷ holders)) ≡ side (net (flow_at holders q)) = omega (arith, both, first, own-holder side none q holders (IsDistinct-tail nat_eq holder.0 (keys_of holders) once)) in
          whole ∙ ap (λ b. side (net (unwrap_or (cond b (Some holder.1) (lookup (nat_eq q) holders)) no_flow))) (sym is))
    ]

other-holders : (side : ℤ → ℕ) (party : Party) → ((k : ℕ) → same_party (Party.Holder k) party ≡ false) → (holders : List (ℕ × Flow)) → sum_by (λ (x : CashChange). cond (same_party x.party party) (side x.cents) 0) (holder_rows holders) ≡ 0
other-holders side party apart holders =
    other-sum (λ (x : CashChange). cond (same_party x.party party) (side x.cents) 0) (λ (holder : ℕ × Flow). cash_row (Party.Holder holder.0) holder.1) (λ (holder : ℕ × Flow). other-row side (Party.Holder holder.0) party holder.1 (apart holder.0)) holders

net-flow_by : (z : ℤ) → net (flow_by z) ≡ z
net-flow_by (pos n) = omega (arith, ints)
net-flow_by (negsuc n) = omega (arith, ints)

-- what the rows of a tally add up to
abbrev HasKeysOnce : Tally → Type 0
HasKeysOnce tally = IsDistinct nat_eq (keys_of tally.holders.entries) × IsStrictlySortedBy nat_cmp (keys tally.classes) × IsStrictlySortedBy nat_cmp (keys tally.dealers)

five-parts : {X : Type 0} (g : X → ℕ) (a b c d e : List X) → sum_by g ((((a ++ b) ++ c) ++ d) ++ e) ≡ sum_by g a + (sum_by g b + (sum_by g c + (sum_by g d + sum_by g e)))
five-parts g a b c d e =
    omega (arith, sum_by-append g (((a ++ b) ++ c) ++ d) e, sum_by-append g ((a ++ b) ++ c) d, sum_by-append g (a ++ b) c, sum_by-append g a b)

side-of-cash : (side : ℤ → ℕ) → side (pos 0) ≡ 0 → (tally : Tally) → HasKeysOnce tally → (party : Party) → sum_by (λ (x : CashChange). cond (same_party x.party party) (side x.cents) 0) (cash_rows tally) ≡ side (net (cash_tallied tally party))
side-of-cash side none tally up (Party.Holder q) =
    let p = Party.Holder q in
    omega (arith, five-parts (λ (x : CashChange). cond (same_party x.party p) (side x.cents) 0) (holder_rows tally.holders.entries) (class_rows tally.classes) (dealer_rows tally.dealers) (cash_row Party.Underwriter tally.underwriter) (cash_row Party.Agent tally.agent), own-holder side none q tally.holders.entries up.0, other-kind side (λ k. Party.Class k) p (λ k. refl) (λ k. (flows_of tally.classes k).cash) (keys tally.classes), other-kind side (λ k. Party.Dealer k) p (λ k. refl) (sorted_flow tally.dealers) (keys tally.dealers), other-row side Party.Underwriter p tally.underwriter refl, other-row side Party.Agent p tally.agent refl)
side-of-cash side none tally up (Party.Class q) =
    let p = Party.Class q in
    omega (arith, five-parts (λ (x : CashChange). cond (same_party x.party p) (side x.cents) 0) (holder_rows tally.holders.entries) (class_rows tally.classes) (dealer_rows tally.dealers) (cash_row Party.Underwriter tally.underwriter) (cash_row Party.Agent tally.agent), own-kind side none (λ k. Party.Class k) (λ a b. refl) (λ k. (flows_of tally.classes k).cash) (keys tally.classes) up.1 q (λ absent. ap (λ (f : ClassFlows). f.cash) (flows-none tally.classes q absent)), other-holders side p (λ k. refl) tally.holders.entries, other-kind side (λ k. Party.Dealer k) p (λ k. refl) (sorted_flow tally.dealers) (keys tally.dealers), other-row side Party.Underwriter p tally.underwriter refl, other-row side Party.Agent p tally.agent refl)
side-of-cash side none tally up (Party.Dealer q) =
    let p = Party.Dealer q in
    omega (arith, five-parts (λ (x : CashChange). cond (same_party x.party p) (side x.cents) 0) (holder_rows tally.holders.entries) (class_rows tally.classes) (dealer_rows tally.dealers) (cash_row Party.Underwriter tally.underwriter) (cash_row Party.Agent tally.agent), own-kind side none (λ k. Party.Dealer k) (λ a b. refl) (sorted_flow tally.dealers) (keys tally.dealers) up.2 q (row-none tally.dealers q), other-holders side p (λ k. refl) tally.holders.entries, other-kind side (λ k. Party.Class k) p (λ k. refl) (λ k. (flows_of tally.classes k).cash) (keys tally.classes), other-row side Party.Underwriter p tally.underwriter refl, other-row side Party.Agent p tally.agent refl)
side-of-cash side none tally up Party.Underwriter =
    let p = Party.Underwriter in
    omega (arith, five-parts (λ (x : CashChange). cond (same_party x.party p) (side x.cents) 0) (holder_rows tally.holders.entries) (class_rows tally.classes) (dealer_rows tally.dealers) (cash_row Party.Underwriter tally.underwriter) (cash_row Party.Agent tally.agent), other-holders side p (λ k. refl) tally.holders.entries, other-kind side (λ k. Party.Class k) p (λ k. refl) (λ k. (flows_of tally.classes k).cash) (keys tally.classes), other-kind side (λ k. Party.Dealer k) p (λ k. refl) (sorted_flow tally.dealers) (keys tally.dealers), own-row side none Party.Underwriter p tally.underwriter refl, other-row side Party.Agent p tally.agent refl)
side-of-cash side none tally up Party.Agent =
    let p = Party.Agent in
    omega (arith, five-parts (λ (x : CashChange). cond (same_party x.party p) (side x.cents) 0) (holder_rows tally.holders.entries) (class_rows tally.classes) (dealer_rows tally.dealers) (cash_row Party.Underwriter tally.underwriter) (cash_row Party.Agent tally.agent), other-holders side p (λ k. refl) tally.holders.entries, other-kind side (λ k. Party.Class k) p (λ k. refl) (λ k. (flows_of tally.classes k).cash) (keys tally.classes), other-kind side (λ k. Party.Dealer k) p (λ k. refl) (sorted_flow tally.dealers) (keys tally.dealers), other-row side Party.Underwriter p tally.underwriter refl, own-row side none Party.Agent p tally.agent refl)

pub cash-by_party : (rows : List CashChange) (tally : Tally) → rows ≡ cash_rows tally → IsDistinct nat_eq (keys_of tally.holders.entries) → IsStrictlySortedBy nat_cmp (keys tally.classes) → IsStrictlySortedBy nat_cmp (keys tally.dealers) → (party : Party) → cash_change rows party ≡ net (cash_tallied tally party)
cash-by_party rows tally is holders classes dealers party =
    let up : HasKeysOnce tally = (holders, classes, dealers) in
    ap (λ (xs : List CashChange). cash_change xs party) is
    ∙ (ap net (flow-same (changes_flow (cash_rows tally) party) (flow_by (net (cash_tallied tally party))) (side-of-cash rise refl tally up party) (side-of-cash fall refl tally up party))
    ∙ net-flow_by (net (cash_tallied tally party)))

side-of-mils : (side : ℤ → ℕ) → side (pos 0) ≡ 0 → (tally : Tally) → IsStrictlySortedBy nat_cmp (keys tally.classes) → (class : ℕ) → sum_by (λ (x : MilsChange). cond (x.class == class) (side x.mils) 0) (mils_rows tally) ≡ side (net (mils_tallied tally class))
side-of-mils side none tally up q =
    own-sum (λ (x : MilsChange). cond (x.class == q) (side x.mils) 0) (λ k. mils_row k (flows_of tally.classes k).mils) q (λ k apart. other-class-row side q k (flows_of tally.classes k).mils (apart_number q k apart)) (keys tally.classes) up
    ∙ by_presence side none (list_any (nat_eq q) (keys tally.classes)) (flows_of tally.classes q).mils _ (own-class-row side none q (flows_of tally.classes q).mils) (λ absent. ap (λ (f : ClassFlows). f.mils) (flows-none tally.classes q absent))

pub mils-by_class : (rows : List MilsChange) (tally : Tally) → rows ≡ mils_rows tally → IsStrictlySortedBy nat_cmp (keys tally.classes) → (class : ℕ) → mils_change rows class ≡ net (mils_tallied tally class)
mils-by_class rows tally is classes class =
    ap (λ (xs : List MilsChange). mils_change xs class) is
    ∙ (ap net (flow-same (mils_flow (mils_rows tally) class) (flow_by (net (mils_tallied tally class))) (side-of-mils rise refl tally classes class) (side-of-mils fall refl tally classes class))
    ∙ net-flow_by (net (mils_tallied tally class)))

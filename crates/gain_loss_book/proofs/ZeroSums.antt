-- Changes whose amounts by party are those of movements sum to zero.
use Rattle.std.proofs.Common.{Bool, List, [], ap, arith, cond, eqb-true, false, inl, inr, filter, flat_map, length, map, not, refl, suc, sum_by, sym, true, zero, ℕ, ◌++◌, ◌+◌, ◌==◌, ◌∙◌, ◌∷◌, ◌≡◌, ◌≤◌}
use Rattle.std.proofs.lemmas.Bool.{true≢false}
use Rattle.std.proofs.lemmas.Bool.Decides.{eqb_tells}
use Rattle.std.proofs.lemmas.Int.{ints}
use Rattle.std.proofs.lemmas.List.Sums.{count_by-le-length, length-filter, sum_by-append, sum_by-cons}
use Rattle.agent_events.specs.declared.order.Party.{Party}
use Rattle.agent_events.specs.declared.totals.CashChange.{CashChange}
use Rattle.register_machine.specs.corrections.Cash.{Movement, cents_paid, cents_paid_in, cents_received, cents_received_in, same_party}
use Rattle.gain_loss_book.specs.Booked.{MovesAs}
use Rattle.gain_loss_book.specs.Flows.{flow_by}
use Rattle.gain_loss_book.specs.Posted.{all_changes, cents_moved, fall_in, rise_in}
use Rattle.gain_loss_book.specs.declared.flows.Flow.{Flow}

-- ---- parties

same-refl : (p : Party) → same_party p p ≡ true
same-refl (Party.Holder a) = same_number a
  where
    same_number : (k : ℕ) → (k == k) ≡ true
    same_number k = elim (eqb_tells k k) [ inl (is, same) ↦ is | inr (is, apart) ↦ absurd (apart refl) ]
same-refl (Party.Class a) = elim (eqb_tells a a) [ inl (is, same) ↦ is | inr (is, apart) ↦ absurd (apart refl) ]
same-refl (Party.Dealer a) = elim (eqb_tells a a) [ inl (is, same) ↦ is | inr (is, apart) ↦ absurd (apart refl) ]
same-refl Party.Underwriter = refl
same-refl Party.Agent = refl

party-same : (a b : Party) → same_party a b ≡ true → a ≡ b
party-same (Party.Holder a) (Party.Holder b) e = ap (λ n. Party.Holder n) (eqb-true a b e)
party-same (Party.Class a) (Party.Class b) e = ap (λ n. Party.Class n) (eqb-true a b e)
party-same (Party.Dealer a) (Party.Dealer b) e = ap (λ n. Party.Dealer n) (eqb-true a b e)
party-same Party.Underwriter Party.Underwriter e = refl
party-same Party.Agent Party.Agent e = refl
party-same _ _ e = absurd (true≢false (sym e))

-- ---- entries: what comes to a party, and what goes from it

pub record Entry : Type 0 where
  pub party : Party
  pub flow : Flow

abbrev part_at : (Entry → ℕ) → Party → Entry → ℕ
part_at side party entry = cond (same_party entry.party party) (side entry) 0

abbrev is_other : Party → Entry → Bool
is_other party entry = not (same_party entry.party party)

-- the entries of one party, and the others
split-sum : (side : Entry → ℕ) (party : Party) (es : List Entry) → sum_by side es ≡ sum_by (part_at side party) es + sum_by side (filter (is_other party) es)
split-sum side party [] = refl
split-sum side party (e ∷ es) =
    by_party (split-sum side party es) (same_party e.party party) refl
  where
    by_party : sum_by side es ≡ sum_by (part_at side party) es + sum_by side (filter (is_other party) es) → (b : Bool) → same_party e.party party ≡ b → sum_by side (e ∷ es) ≡ sum_by (part_at side party) (e ∷ es) + sum_by side (cond (not b) (e ∷ filter (is_other party) es) (filter (is_other party) es))
    by_party rest true is =
        let own : part_at side party e ≡ side e = ap {B = ℕ} (λ b. cond b (side e) 0) is in
        omega (arith, sum_by-cons side e es, sum_by-cons (part_at side party) e es, own, rest)
    by_party rest false is =
        let none : part_at side party e ≡ 0 = ap {B = ℕ} (λ b. cond b (side e) 0) is in
        omega (arith, sum_by-cons side e es, sum_by-cons (part_at side party) e es, none, rest, sum_by-cons side e (filter (is_other party) es))

-- what is left of another party, and nothing of the one that went
left-at : (side : Entry → ℕ) (gone q : Party) (es : List Entry) → sum_by (part_at side q) (filter (is_other gone) es) ≡ cond (same_party gone q) 0 (sum_by (part_at side q) es)
left-at side gone q [] = elim (same_party gone q) as (λ b. ◌≡◌ {A = ℕ} 0 (cond b 0 0)) [ true ↦ refl | false ↦ refl ]
left-at side gone q (e ∷ es) =
    by_party (left-at side gone q es) (same_party e.party gone) (same_party gone q) refl refl
  where
    more : sum_by (part_at side q) (e ∷ es) ≡ part_at side q e + sum_by (part_at side q) es
    more = sum_by-cons (part_at side q) e es

    by_party : sum_by (part_at side q) (filter (is_other gone) es) ≡ cond (same_party gone q) 0 (sum_by (part_at side q) es) → (b d : Bool) → same_party e.party gone ≡ b → same_party gone q ≡ d → sum_by (part_at side q) (cond (not b) (e ∷ filter (is_other gone) es) (filter (is_other gone) es)) ≡ cond d 0 (sum_by (part_at side q) (e ∷ es))
    by_party rest true true is too = rest ∙ ap {B = ℕ} (λ b. cond b 0 (sum_by (part_at side q) es)) too
    by_party rest true false is too =
        let tail : sum_by (part_at side q) (filter (is_other gone) es) ≡ sum_by (part_at side q) es = rest ∙ ap {B = ℕ} (λ b. cond b 0 (sum_by (part_at side q) es)) too in
        let none : part_at side q e ≡ 0 = ap {B = ℕ} (λ (p : Party). cond (same_party p q) (side e) 0) (party-same e.party gone is) ∙ ap {B = ℕ} (λ b. cond b (side e) 0) too in
        omega (arith, tail, none, more)
    by_party rest false true is too =
        let tail : sum_by (part_at side q) (filter (is_other gone) es) ≡ 0 = rest ∙ ap {B = ℕ} (λ b. cond b 0 (sum_by (part_at side q) es)) too in
        let none : part_at side q e ≡ 0 = ap {B = ℕ} (λ (p : Party). cond (same_party e.party p) (side e) 0) (sym (party-same gone q too)) ∙ ap {B = ℕ} (λ b. cond b (side e) 0) is in
        omega (arith, tail, none, sum_by-cons (part_at side q) e (filter (is_other gone) es))
    by_party rest false false is too =
        let tail : sum_by (part_at side q) (filter (is_other gone) es) ≡ sum_by (part_at side q) es = rest ∙ ap {B = ℕ} (λ b. cond b 0 (sum_by (part_at side q) es)) too in
        omega (arith, tail, more, sum_by-cons (part_at side q) e (filter (is_other gone) es))

abbrev pub came : Entry → ℕ
came entry = entry.flow.inflow

abbrev pub went : Entry → ℕ
went entry = entry.flow.outflow

-- where as much comes to each party as goes from it, as much comes as goes
all-even : (k : ℕ) (es : List Entry) → length es ≤ k → ((q : Party) → sum_by (part_at came q) es ≡ sum_by (part_at went q) es) → sum_by came es ≡ sum_by went es
all-even k [] fits even = refl
all-even zero (e ∷ es) fits even = absurd (omega arith)
all-even (suc k) (e ∷ es) fits even =
    let p = e.party in
    let others : filter (is_other p) (e ∷ es) ≡ filter (is_other p) es = ap (λ b. cond (not b) (e ∷ filter (is_other p) es) (filter (is_other p) es)) (same-refl p) in
    let fewer : length (filter (is_other p) es) ≤ k = omega (arith, length-filter (is_other p) es, count_by-le-length (is_other p) es) in
    let left = all-even k (filter (is_other p) es) fewer (λ q. left_even p q) in
    let came_is = split-sum came p (e ∷ es) ∙ ap (λ (xs : List Entry). sum_by (part_at came p) (e ∷ es) + sum_by came xs) others in
    let went_is = split-sum went p (e ∷ es) ∙ ap (λ (xs : List Entry). sum_by (part_at went p) (e ∷ es) + sum_by went xs) others in
    omega (arith, left, came_is, went_is, even p)
  where
    left_even : (p q : Party) → sum_by (part_at came q) (filter (is_other e.party) es) ≡ sum_by (part_at went q) (filter (is_other e.party) es)
    left_even p q =
        let others : filter (is_other e.party) (e ∷ es) ≡ filter (is_other e.party) es = ap (λ b. cond (not b) (e ∷ filter (is_other e.party) es) (filter (is_other e.party) es)) (same-refl e.party) in
        sym (ap (sum_by (part_at came q)) others)
        ∙ (left-at came e.party q (e ∷ es)
        ∙ (ap (cond (same_party e.party q) 0) (even q)
        ∙ (sym (left-at went e.party q (e ∷ es))
        ∙ ap (sum_by (part_at went q)) others)))

-- ---- changes and movements as entries

abbrev of_change : CashChange → Entry
of_change change = record { party = change.party; flow = flow_by change.cents }

abbrev entry_in : Party → ℕ → Entry
entry_in party cents = record { party = party; flow = record { inflow = cents; outflow = 0 } }

abbrev entry_out : Party → ℕ → Entry
entry_out party cents = record { party = party; flow = record { inflow = 0; outflow = cents } }

-- a movement, and one that is taken back
abbrev along : Movement → List Entry
along m = entry_out m.giver m.cents ∷ entry_in m.taker m.cents ∷ []

abbrev against : Movement → List Entry
against m = entry_in m.giver m.cents ∷ entry_out m.taker m.cents ∷ []

abbrev pub entries : List CashChange → List Movement → List Movement → List Entry
entries changes before after = map of_change changes ++ (flat_map against after ++ flat_map along before)

mapped-sum : {X : Type 0} (g : Entry → ℕ) (f : X → Entry) (xs : List X) → sum_by g (map f xs) ≡ sum_by (λ x. g (f x)) xs
mapped-sum g f [] = refl
mapped-sum g f (x ∷ xs) =
    omega (arith, sum_by-cons g (f x) (map f xs), sum_by-cons (λ y. g (f y)) x xs, mapped-sum g f xs)

moved-sum : (g : Entry → ℕ) (f : Movement → List Entry) (h : Movement → ℕ) → ((m : Movement) → sum_by g (f m) ≡ h m) → (ms : List Movement) → sum_by g (flat_map f ms) ≡ sum_by h ms
moved-sum g f h same [] = refl
moved-sum g f h same (m ∷ ms) =
    omega (arith, sum_by-append g (f m) (flat_map f ms), sum_by-cons h m ms, same m, moved-sum g f h same ms)

two-sum : (g : Entry → ℕ) (a b : Entry) → sum_by g (a ∷ b ∷ []) ≡ g a + g b
two-sum g a b = omega (arith, sum_by-cons g a (b ∷ []), sum_by-cons g b [])

nothing : (b : Bool) → ◌≡◌ {A = ℕ} (cond b 0 0) 0
nothing true = refl
nothing false = refl

first-alone : (g : Entry → ℕ) (a b : Entry) → g b ≡ 0 → sum_by g (a ∷ b ∷ []) ≡ g a
first-alone g a b none = omega (arith, two-sum g a b, none)

second-alone : (g : Entry → ℕ) (a b : Entry) → g a ≡ 0 → sum_by g (a ∷ b ∷ []) ≡ g b
second-alone g a b none = omega (arith, two-sum g a b, none)

three-parts : (g : Entry → ℕ) (a b c : List Entry) → sum_by g (a ++ (b ++ c)) ≡ sum_by g a + (sum_by g b + sum_by g c)
three-parts g a b c = omega (arith, sum_by-append g a (b ++ c), sum_by-append g b c)

came-at : (changes : List CashChange) (before after : List Movement) (q : Party) → sum_by (part_at came q) (entries changes before after) ≡ sum_by (rise_in q) changes + (cents_paid after q + cents_received before q)
came-at changes before after q =
    omega (arith, three-parts (part_at came q) (map of_change changes) (flat_map against after) (flat_map along before), mapped-sum (part_at came q) of_change changes, moved-sum (part_at came q) against (cents_paid_in q) (λ m. first-alone (part_at came q) (entry_in m.giver m.cents) (entry_out m.taker m.cents) (nothing (same_party m.taker q))) after, moved-sum (part_at came q) along (cents_received_in q) (λ m. second-alone (part_at came q) (entry_out m.giver m.cents) (entry_in m.taker m.cents) (nothing (same_party m.giver q))) before)

went-at : (changes : List CashChange) (before after : List Movement) (q : Party) → sum_by (part_at went q) (entries changes before after) ≡ sum_by (fall_in q) changes + (cents_received after q + cents_paid before q)
went-at changes before after q =
    omega (arith, three-parts (part_at went q) (map of_change changes) (flat_map against after) (flat_map along before), mapped-sum (part_at went q) of_change changes, moved-sum (part_at went q) against (cents_received_in q) (λ m. second-alone (part_at went q) (entry_in m.giver m.cents) (entry_out m.taker m.cents) (nothing (same_party m.giver q))) after, moved-sum (part_at went q) along (cents_paid_in q) (λ m. first-alone (part_at went q) (entry_out m.giver m.cents) (entry_in m.taker m.cents) (nothing (same_party m.taker q))) before)

pub came-all : (changes : List CashChange) (before after : List Movement) → sum_by came (entries changes before after) ≡ (all_changes changes).inflow + (cents_moved after + cents_moved before)
came-all changes before after =
    omega (arith, three-parts came (map of_change changes) (flat_map against after) (flat_map along before), mapped-sum came of_change changes, moved-sum came against (λ m. m.cents) (λ m. first-alone came (entry_in m.giver m.cents) (entry_out m.taker m.cents) refl) after, moved-sum came along (λ m. m.cents) (λ m. second-alone came (entry_out m.giver m.cents) (entry_in m.taker m.cents) refl) before)

pub went-all : (changes : List CashChange) (before after : List Movement) → sum_by went (entries changes before after) ≡ (all_changes changes).outflow + (cents_moved after + cents_moved before)
went-all changes before after =
    omega (arith, three-parts went (map of_change changes) (flat_map against after) (flat_map along before), mapped-sum went of_change changes, moved-sum went against (λ m. m.cents) (λ m. second-alone went (entry_in m.giver m.cents) (entry_out m.taker m.cents) refl) after, moved-sum went along (λ m. m.cents) (λ m. first-alone went (entry_out m.giver m.cents) (entry_in m.taker m.cents) refl) before)

-- as much comes to all parties as goes from them
pub all-as-much : (changes : List CashChange) (before after : List Movement) → MovesAs changes before after → sum_by came (entries changes before after) ≡ sum_by went (entries changes before after)
all-as-much changes before after moves =
    let es = entries changes before after in all-even (length es) es (omega arith) (λ q. even_at q)
  where
    even_at : (q : Party) → sum_by (part_at came q) (entries changes before after) ≡ sum_by (part_at went q) (entries changes before after)
    even_at q = omega (arith, ints, came-at changes before after q, went-at changes before after q, moves q)

-- The held mils that lots pay by date and number sum to what is asked.
use Rattle.std.proofs.Common.{◌≡◌, ◌≢◌, ℕ, suc, ◌+◌, ◌-◌, ◌≤◌, Bool, true, false, cond, min, List, [], ◌∷◌, get_or, filter, map, sum_by, refl, sym, ap, ◌∙◌, inl, inr, arith}
use Rattle.std.specs.Prelude.{All, AllPairs, ◌⊎◌}
use Rattle.std.proofs.lemmas.List.Elements.{All-cons}
use Rattle.std.proofs.lemmas.List.Sums.{sum_by-cons}
use Rattle.money_units.proofs.RoundingFacts.{half-mul}
use Rattle.share_lots.specs.declared.lot.Lot.{Lot}
use Rattle.share_lots.specs.Lots.{AreRanked, before_by_date, ranks_before, mils}
use Rattle.share_lots.specs.Taking.{held_if_before, held_before, paid_of, piece_cost, cost_paid, lot_paying, has_mils}
use Rattle.share_lots.proofs.LotLemmas.{AllPairs-head, AllPairs-tail, All-head, All-tail, half-le, owned_behind}
use Rattle.share_lots.proofs.OrderLemmas.{before-next, before-itself, before-back, before-either, ranks-dated}
use Rattle.share_lots.proofs.KeptLemmas.{sum-has_mils}

abbrev held : Lot → ℕ
held lot = lot.held

abbrev paid : ℕ → (Lot → ℕ) → Lot → ℕ
paid asked before lot = min lot.held (asked - before lot)

-- lots by date and number
abbrev AreDated : List Lot → Type 0
AreDated lots = AllPairs (λ a b. before_by_date a b ≡ true) lots

-- what other lots hold, before one and behind it
held_if-before : (lot other : Lot) → before_by_date other lot ≡ true → held_if_before lot other ≡ other.held
held_if-before lot other first = ap (λ b. cond b other.held 0) first

held_if-behind : (lot other : Lot) → before_by_date other lot ≡ false → held_if_before lot other ≡ 0
held_if-behind lot other behind = ap (λ b. cond b other.held 0) behind

none_before : (lot : Lot) (lots : List Lot) → All (λ l. before_by_date l lot ≡ false) lots → sum_by (held_if_before lot) lots ≡ 0
none_before lot [] behind = refl
none_before lot (x ∷ xs) behind =
    rw (sum_by-cons (held_if_before lot) x xs) (omega (arith, held_if-behind lot x (All-head (λ l. before_by_date l lot ≡ false) x xs behind), none_before lot xs (All-tail (λ l. before_by_date l lot ≡ false) x xs behind)))

-- the first lot comes before none of the others
first_behind : (x : Lot) (xs : List Lot) → AreDated (x ∷ xs) → All (λ l. before_by_date l x ≡ false) (x ∷ xs)
first_behind x xs dated =
    All-cons (λ l. before_by_date l x ≡ false) x xs (before-itself x x refl) (λ k d short. before-back x (get_or xs k d) (AllPairs-head (λ a b. before_by_date a b ≡ true) x xs dated k d short))

-- lots by date alone
in_order : (asked : ℕ) (before : Lot → ℕ) (passed : ℕ) (lots : List Lot) → AreDated lots → All (λ l. before l ≡ passed + sum_by (held_if_before l) lots) lots → sum_by (paid asked before) lots + min asked passed ≡ min asked (passed + sum_by held lots)
in_order asked before passed [] dated so = omega arith
in_order asked before passed (x ∷ xs) dated so =
    let here : before x ≡ passed = (let first = All-head (λ l. before l ≡ passed + sum_by (held_if_before l) (x ∷ xs)) x xs so in omega (arith, none_before x (x ∷ xs) (first_behind x xs dated))) in
    let rest = in_order asked before (passed + x.held) xs (AllPairs-tail (λ a b. before_by_date a b ≡ true) x xs dated) (λ k d short. later (get_or xs k d) (AllPairs-head (λ a b. before_by_date a b ≡ true) x xs dated k d short) (so (suc k) d (omega arith))) in
    rw (sum_by-cons (paid asked before) x xs, sum_by-cons held x xs, here) (omega (arith, rest))
  where
    later : (l : Lot) → before_by_date x l ≡ true → before l ≡ passed + sum_by (held_if_before l) (x ∷ xs) → before l ≡ passed + x.held + sum_by (held_if_before l) xs
    later l first all = omega (arith, all, sum_by-cons (held_if_before l) x xs, held_if-before l x first)

before_tells : (a b : Lot) → (before_by_date a b ≡ true) ⊎ (before_by_date a b ≡ false)
before_tells a b = either_way (before_by_date a b)
  where
    either_way : (t : Bool) → (t ≡ true) ⊎ (t ≡ false)
    either_way true = inl refl
    either_way false = inr refl

-- and around the free lot
around : (free : Lot) (asked : ℕ) (before : Lot → ℕ) (passed : ℕ) (lots : List Lot) → AreDated lots → All (λ l. before_by_date l free ≡ false → before_by_date free l ≡ true) lots → All (λ l. before l ≡ passed + held_if_before l free + sum_by (held_if_before l) lots) lots → sum_by (paid asked before) lots + min free.held (asked - (passed + sum_by (held_if_before free) lots)) + min asked passed ≡ min asked (passed + free.held + sum_by held lots)
around free asked before passed [] dated either so = omega arith
around free asked before passed (x ∷ xs) dated either so = elim (before_tells x free) [
  | inl first ↦
      let here : before x ≡ passed = passed_at first in
      let rest = around free asked before (passed + x.held) xs (AllPairs-tail (λ a b. before_by_date a b ≡ true) x xs dated) (All-tail (λ l. before_by_date l free ≡ false → before_by_date free l ≡ true) x xs either)
      (λ k d short. passed_x (get_or xs k d) (behind_x k d short) (so (suc k) d (omega arith))) in
      rw (sum_by-cons (paid asked before) x xs, sum_by-cons held x xs, sum_by-cons (held_if_before free) x xs, held_if-before free x first, here) (omega (arith, rest))
  | inr none ↦
      let first = free_first none in
      let rest = in_order asked before (passed + free.held) (x ∷ xs) dated (λ k d short. passed_free (get_or (x ∷ xs) k d) (first k d short) (so k d short)) in
      let nothing = none_before free (x ∷ xs) (λ k d short. before-back free (get_or (x ∷ xs) k d) (first k d short)) in
      omega (arith, rest, nothing)
]
  where
    behind_x : All (λ l. before_by_date x l ≡ true) xs
    behind_x = AllPairs-head (λ a b. before_by_date a b ≡ true) x xs dated

    passed_x : (l : Lot) → before_by_date x l ≡ true → before l ≡ passed + held_if_before l free + sum_by (held_if_before l) (x ∷ xs) → before l ≡ passed + x.held + held_if_before l free + sum_by (held_if_before l) xs
    passed_x l next all = omega (arith, all, sum_by-cons (held_if_before l) x xs, held_if-before l x next)

    passed_at : before_by_date x free ≡ true → before x ≡ passed
    passed_at first = let all = All-head (λ l. before l ≡ passed + held_if_before l free + sum_by (held_if_before l) (x ∷ xs)) x xs so in omega (arith, all, held_if-behind x free (before-back x free first), none_before x (x ∷ xs) (first_behind x xs dated))

    free_first : before_by_date x free ≡ false → All (λ l. before_by_date free l ≡ true) (x ∷ xs)
    free_first none =
        let first = All-head (λ l. before_by_date l free ≡ false → before_by_date free l ≡ true) x xs either none in
        All-cons (λ l. before_by_date free l ≡ true) x xs first (λ k d short. before-next free x (get_or xs k d) first (behind_x k d short))

    passed_free : (l : Lot) → before_by_date free l ≡ true → before l ≡ passed + held_if_before l free + sum_by (held_if_before l) (x ∷ xs) → before l ≡ passed + free.held + sum_by (held_if_before l) (x ∷ xs)
    passed_free l first all = omega (arith, all, held_if-before l free first)

-- lots that aren't free stand by date
by_date : (lots : List Lot) → All (λ l. l.free ≡ false) lots → AreRanked lots → AreDated lots
by_date lots owned ranked i j d lt short =
    sym (ranks-dated (get_or lots i d) (get_or lots j d) (owned i d (omega arith)) (owned j d short)) ∙ ranked i j d lt short

pub paid-whole : (lots : List Lot) (asked : ℕ) → AreRanked lots → AllPairs (λ a b. a.number ≢ b.number) lots → asked ≤ sum_by (λ l. l.held) lots → sum_by (paid_of lots asked) lots ≡ asked
paid-whole [] asked ranked distinct enough = omega arith
paid-whole (x ∷ xs) asked ranked distinct enough = by x.free refl
  where
    total : sum_by (λ l. l.held) (x ∷ xs) ≡ x.held + sum_by (λ l. l.held) xs
    total = sum_by-cons (λ (l : Lot). l.held) x xs

    owned : All (λ l. l.free ≡ false) xs
    owned = owned_behind x xs ranked

    by : (b : Bool) → x.free ≡ b → sum_by (paid_of (x ∷ xs) asked) (x ∷ xs) ≡ asked
    by true free =
        let either : All (λ l. before_by_date l x ≡ false → before_by_date x l ≡ true) xs = λ k d short. before-either (get_or xs k d) x (λ same. AllPairs-head (λ a b. a.number ≢ b.number) x xs distinct k d short (sym same)) in
        let rest = around x asked (held_before (x ∷ xs)) 0 xs (by_date xs owned (AllPairs-tail (λ a b. ranks_before a b ≡ true) x xs ranked)) either (λ k d short. rw (sum_by-cons (held_if_before (get_or xs k d)) x xs) (omega arith)) in
        let first : held_before (x ∷ xs) x ≡ sum_by (held_if_before x) xs = rw (sum_by-cons (held_if_before x) x xs) (omega (arith, held_if-behind x x (before-itself x x refl))) in
        rw (sum_by-cons (paid_of (x ∷ xs) asked) x xs, first) (omega (arith, rest, total))
    by false free =
        let rest = in_order asked (held_before (x ∷ xs)) 0 (x ∷ xs) (by_date (x ∷ xs) (All-cons (λ l. l.free ≡ false) x xs free owned) ranked) (λ k d short. omega arith) in
        omega (arith, rest, total)

held_left : (all : List Lot) (asked : ℕ) (lots : List Lot) → sum_by (λ l. l.held) (map (lot_paying all asked) lots) + sum_by (paid_of all asked) lots ≡ sum_by (λ l. l.held) lots
held_left all asked [] = refl
held_left all asked (x ∷ xs) =
    rw (sum_by-cons (λ (l : Lot). l.held) (lot_paying all asked x) (map (lot_paying all asked) xs), sum_by-cons (paid_of all asked) x xs, sum_by-cons (λ (l : Lot). l.held) x xs) (omega (arith, held_left all asked xs))

pub paying-whole : (lots : List Lot) (asked : ℕ) → AreRanked lots → AllPairs (λ a b. a.number ≢ b.number) lots → asked ≤ sum_by (λ l. l.held) lots → sum_by (λ l. l.held) (filter has_mils (map (lot_paying lots asked) lots)) + asked ≡ sum_by (λ l. l.held) lots
paying-whole lots asked ranked distinct enough =
    rw (sum-has_mils (λ (l : Lot). l.held) (map (lot_paying lots asked) lots) (λ k d short none. omega arith)) (omega (arith, held_left lots asked lots, paid-whole lots asked ranked distinct enough))

-- loose mils stay
loose_left : (all : List Lot) (asked : ℕ) (lots : List Lot) → sum_by (λ l. l.loose) (map (lot_paying all asked) lots) ≡ sum_by (λ l. l.loose) lots
loose_left all asked [] = refl
loose_left all asked (x ∷ xs) =
    rw (sum_by-cons (λ (l : Lot). l.loose) (lot_paying all asked x) (map (lot_paying all asked) xs), sum_by-cons (λ (l : Lot). l.loose) x xs) (omega (arith, loose_left all asked xs))

pub paying-keeps_loose : (lots : List Lot) (asked : ℕ) → sum_by (λ l. l.loose) (filter has_mils (map (lot_paying lots asked) lots)) ≡ sum_by (λ l. l.loose) lots
paying-keeps_loose lots asked =
    rw (sum-has_mils (λ (l : Lot). l.loose) (map (lot_paying lots asked) lots) (λ k d short none. omega arith)) (loose_left lots asked lots)

-- and cost is kept
cost_left : (all : List Lot) (asked : ℕ) (lots : List Lot) → All (λ l. 1 ≤ mils l) lots → sum_by (cost_paid all asked) lots + sum_by (λ l. l.cost) (map (lot_paying all asked) lots) ≡ sum_by (λ l. l.cost) lots
cost_left all asked [] some = refl
cost_left all asked (x ∷ xs) some =
    let here = All-head (λ l. 1 ≤ mils l) x xs some in
    rw (sum_by-cons (cost_paid all asked) x xs, sum_by-cons (λ (l : Lot). l.cost) (lot_paying all asked x) (map (lot_paying all asked) xs), sum_by-cons (λ (l : Lot). l.cost) x xs)
    (omega (arith, half-le x.cost (paid_of all asked x) (mils x) here (omega arith), cost_left all asked xs (All-tail (λ l. 1 ≤ mils l) x xs some)))

no_cost_left : (all : List Lot) (asked : ℕ) (lots : List Lot) → All (λ l. 1 ≤ mils l) lots → All (λ l. mils l ≡ 0 → l.cost ≡ 0) (map (lot_paying all asked) lots)
no_cost_left all asked [] some = λ k d short. absurd (omega arith)
no_cost_left all asked (x ∷ xs) some =
    All-cons (λ l. mils l ≡ 0 → l.cost ≡ 0) (lot_paying all asked x) (map (lot_paying all asked) xs)
    (λ none. let whole : paid_of all asked x ≡ mils x = omega arith in
    let cost : piece_cost x (paid_of all asked x) ≡ x.cost = rw whole (half-mul x.cost (mils x) (All-head (λ l. 1 ≤ mils l) x xs some)) in omega arith)
    (no_cost_left all asked xs (All-tail (λ l. 1 ≤ mils l) x xs some))

pub paying-keeps_cost : (lots : List Lot) (asked : ℕ) → All (λ l. 1 ≤ mils l) lots → sum_by (cost_paid lots asked) lots + sum_by (λ l. l.cost) (filter has_mils (map (lot_paying lots asked) lots)) ≡ sum_by (λ l. l.cost) lots
paying-keeps_cost lots asked some =
    rw (sum-has_mils (λ (l : Lot). l.cost) (map (lot_paying lots asked) lots) (no_cost_left lots asked lots some)) (cost_left lots asked lots some)

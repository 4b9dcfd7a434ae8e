-- Orders in turn: rows by receipt that stand, at equal receipts, as they did are the orders in turn, and so is what passes of them.
use Rattle.std.proofs.Common.{Bool, List, [], ap, append-nil, append_assoc, arith, cond, false, filter, fold, get_or, inl, inr, length, nat_le, nat_lt, refl, subst, suc, sym, true, ℕ, ◌++◌, ◌<◌, ◌==◌, ◌∙◌, ◌∷◌, ◌≡◌, ◌≤◌, ◌⊎◌}
use Rattle.std.proofs.lemmas.Bool.{cases_lt, eqb-true, le-leb, lt-leb, true≢false}
use Rattle.std.proofs.lemmas.List.Elements.{filter-append}
use Rattle.std.specs.List.Sorted.{IsNonDecreasingBy}
use Rattle.std.specs.Prelude.{AllPairs}
use Rattle.agent_events.specs.declared.order.OrderRow.{OrderRow}
use Rattle.register_laws.proofs.Comparisons.{eq-no, eq-yes, lt-no, lt-yes}
use Rattle.register_laws.proofs.ListParts.{filter-within}
use Rattle.register_laws.proofs.TurnsFiltered.{turn-sorted}
use Rattle.register_machine.specs.replay.Replay.{all_in_turn, in_turn}

-- ---- filters

-- what passes neither
filter-apart : {X : Type 0} (p q : X → Bool) → ((x : X) → q x ≡ true → p x ≡ false) → (xs : List X) → filter q (filter p xs) ≡ []
filter-apart p q apart [] = refl
filter-apart {X} p q apart (x ∷ xs) = by (p x) (q x) refl refl (filter-apart p q apart xs)
  where
    by : (a b : Bool) → p x ≡ a → q x ≡ b → filter q (filter p xs) ≡ [] → filter q (cond a (x ∷ filter p xs) (filter p xs)) ≡ []
    by false b first second rest = rest
    by true false first second rest = ap (λ is. cond is (x ∷ filter q (filter p xs)) (filter q (filter p xs))) second ∙ rest
    by true true first second rest = absurd (true≢false (sym first ∙ apart x second))

-- none is at a number below all of them
none-at : {X : Type 0} (n : X → ℕ) (number : ℕ) (xs : List X) → ((k : ℕ) (d : X) → k < length xs → number < n (get_or xs k d)) → filter (λ x. n x == number) xs ≡ []
none-at n number [] more = refl
none-at n number (x ∷ xs) more =
    ap (λ is. cond is (x ∷ filter (λ y. n y == number) xs) (filter (λ y. n y == number) xs)) (eq-no (n x) number (λ e. let low = more 0 x (omega arith) in omega (arith, e, low)))
    ∙ none-at n number xs (λ k d short. more (suc k) d (omega (arith, short)))

-- ---- two lists sorted by a number that agree on each number are the same

sorted-rest : {X : Type 0} (n : X → ℕ) (x : X) (xs : List X) → IsNonDecreasingBy n (x ∷ xs) → IsNonDecreasingBy n xs
sorted-rest n x xs sorted i j d le short = sorted (suc i) (suc j) d (omega (arith, le)) (omega (arith, short))

sorted-first : {X : Type 0} (n : X → ℕ) (x : X) (xs : List X) → IsNonDecreasingBy n (x ∷ xs) → (k : ℕ) (d : X) → k < length (x ∷ xs) → n x ≤ n (get_or (x ∷ xs) k d)
sorted-first n x xs sorted k d short = sorted 0 k d (omega arith) short

pub no-cons : {X : Type 0} {x : X} {xs : List X} → x ∷ xs ≡ [] → ⊥
no-cons e = cc

pub head-same : {X : Type 0} {x y : X} {xs ys : List X} → x ∷ xs ≡ y ∷ ys → x ≡ y
head-same e = cc

pub tail-same : {X : Type 0} {x y : X} {xs ys : List X} → x ∷ xs ≡ y ∷ ys → xs ≡ ys
tail-same e = cc

at-own : {X : Type 0} (n : X → ℕ) (x : X) (xs : List X) → filter (λ y. n y == n x) (x ∷ xs) ≡ x ∷ filter (λ y. n y == n x) xs
at-own n x xs = ap (λ is. cond is (x ∷ filter (λ y. n y == n x) xs) (filter (λ y. n y == n x) xs)) (eq-yes (n x) (n x) refl)

pub sorted-same : {X : Type 0} (n : X → ℕ) (xs ys : List X) → IsNonDecreasingBy n xs → IsNonDecreasingBy n ys → ((z : X) → filter (λ x. n x == n z) xs ≡ filter (λ x. n x == n z) ys) → xs ≡ ys
sorted-same n [] [] first second same = refl
sorted-same n [] (y ∷ ys) first second same = absurd (no-cons (sym (same y ∙ at-own n y ys)))
sorted-same n (x ∷ xs) [] first second same = absurd (no-cons (sym (at-own n x xs) ∙ same x))
sorted-same {X} n (x ∷ xs) (y ∷ ys) first second same = elim (cases_lt (n x) (n y)) [
  | inl low ↦ absurd (no-cons (sym (at-own n x xs) ∙ (same x ∙ none-at n (n x) (y ∷ ys) (λ k d short. let least = sorted-first n y ys second k d short in omega (arith, low, least)))))
  | inr ge ↦ elim (cases_lt (n y) (n x)) [
    | inl low ↦ absurd (no-cons (sym (at-own n y ys) ∙ (sym (same y) ∙ none-at n (n y) (x ∷ xs) (λ k d short. let least = sorted-first n x xs first k d short in omega (arith, low, least)))))
    | inr le ↦ level (λ tails. sorted-same n xs ys (sorted-rest n x xs first) (sorted-rest n y ys second) tails) (omega (arith, ge, le))
  ]
]
  where
    level : (((z : X) → filter (λ w. n w == n z) xs ≡ filter (λ w. n w == n z) ys) → xs ≡ ys) → n y ≡ n x → x ∷ xs ≡ y ∷ ys
    level again e = ap (λ z. z ∷ xs) heads ∙ ap (λ rest. y ∷ rest) (again tails)
      where
        both : x ∷ filter (λ z. n z == n x) xs ≡ y ∷ filter (λ z. n z == n x) ys
        both = sym (at-own n x xs) ∙ (same x ∙ ap (λ is. cond is (y ∷ filter (λ z. n z == n x) ys) (filter (λ z. n z == n x) ys)) (eq-yes (n y) (n x) e))

        heads : x ≡ y
        heads = head-same both

        rest-same : (is : Bool) (one other : List X) → cond is (x ∷ one) one ≡ cond is (y ∷ other) other → one ≡ other
        rest-same true one other h = tail-same h
        rest-same false one other h = h

        tails : (z : X) → filter (λ w. n w == n z) xs ≡ filter (λ w. n w == n z) ys
        tails z = rest-same (n x == n z) (filter (λ w. n w == n z) xs) (filter (λ w. n w == n z) ys)
            (same z ∙ ap (λ number. cond (number == n z) (y ∷ filter (λ w. n w == n z) ys) (filter (λ w. n w == n z) ys)) e)

-- ---- in turn

abbrev pub received_at : ℕ → OrderRow → Bool
received_at receipt row = row.receipt == receipt

turn-at : (receipt : ℕ) (row : OrderRow) (rows : List OrderRow) → filter (received_at receipt) (in_turn row rows) ≡ filter (received_at receipt) rows ++ filter (received_at receipt) (row ∷ [])
turn-at receipt row rows =
    filter-append at (filter less rows) (row ∷ filter more rows) ∙ by_place (cases_lt receipt row.receipt)
  where
    at : OrderRow → Bool
    at = received_at receipt

    less : OrderRow → Bool
    less other = nat_le other.receipt row.receipt

    more : OrderRow → Bool
    more other = nat_lt row.receipt other.receipt

    not-here : (row.receipt ≡ receipt → ⊥) → filter at (row ∷ []) ≡ []
    not-here apart = ap (λ is. cond is (row ∷ []) []) (eq-no row.receipt receipt apart)

    skips : (row.receipt ≡ receipt → ⊥) → (others : List OrderRow) → filter at (row ∷ others) ≡ filter at others
    skips apart others = ap (λ is. cond is (row ∷ filter at others) (filter at others)) (eq-no row.receipt receipt apart)

    at-least : (other : OrderRow) → at other ≡ true → other.receipt ≡ receipt
    at-least other e = eqb-true other.receipt receipt e

    all-less : receipt ≤ row.receipt → filter at (filter less rows) ≡ filter at rows
    all-less le = filter-within less at (λ other e. le-leb other.receipt row.receipt (let is = at-least other e in omega (arith, le, is))) rows

    none-more : receipt ≤ row.receipt → filter at (filter more rows) ≡ []
    none-more le = filter-apart more at (λ other e. lt-no row.receipt other.receipt (let is = at-least other e in omega (arith, le, is))) rows

    none-less : row.receipt < receipt → filter at (filter less rows) ≡ []
    none-less lt = filter-apart less at (λ other e. lt-leb other.receipt row.receipt (let is = at-least other e in omega (arith, lt, is))) rows

    all-more : row.receipt < receipt → filter at (filter more rows) ≡ filter at rows
    all-more lt = filter-within more at (λ other e. lt-yes row.receipt other.receipt (let is = at-least other e in omega (arith, lt, is))) rows

    behind : receipt ≤ row.receipt → filter at (filter less rows) ++ filter at (row ∷ filter more rows) ≡ filter at rows ++ filter at (row ∷ [])
    behind le =
        ap (λ front. front ++ filter at (row ∷ filter more rows)) (all-less le)
        ∙ ap (λ rest. filter at rows ++ cond (at row) (row ∷ rest) rest) (none-more le)

    before : row.receipt < receipt → filter at (filter less rows) ++ filter at (row ∷ filter more rows) ≡ filter at rows ++ filter at (row ∷ [])
    before lt =
        let apart : row.receipt ≡ receipt → ⊥ = λ e. omega (arith, lt, e) in
        ap (λ front. front ++ filter at (row ∷ filter more rows)) (none-less lt)
        ∙ (skips apart (filter more rows)
        ∙ (all-more lt
        ∙ (sym (append-nil (filter at rows)) ∙ ap (λ back. filter at rows ++ back) (sym (not-here apart)))))

    by_place : (receipt < row.receipt) ⊎ (row.receipt ≤ receipt) → filter at (filter less rows) ++ filter at (row ∷ filter more rows) ≡ filter at rows ++ filter at (row ∷ [])
    by_place (inl low) = behind (omega (arith, low))
    by_place (inr ge) = elim (cases_lt row.receipt receipt) [
      | inl high ↦ before high
      | inr le ↦ behind le
    ]

turns-at : (receipt : ℕ) (ordered rows : List OrderRow) → filter (received_at receipt) (fold (λ ordered row. in_turn row ordered) ordered rows) ≡ filter (received_at receipt) ordered ++ filter (received_at receipt) rows
turns-at receipt ordered [] = sym (append-nil (filter (received_at receipt) ordered))
turns-at receipt ordered (row ∷ rows) =
    turns-at receipt (in_turn row ordered) rows
    ∙ (ap (λ front. front ++ filter (received_at receipt) rows) (turn-at receipt row ordered)
    ∙ (append_assoc (filter (received_at receipt) ordered) (filter (received_at receipt) (row ∷ [])) (filter (received_at receipt) rows)
    ∙ ap (λ back. filter (received_at receipt) ordered ++ back) (sym (filter-append (received_at receipt) (row ∷ []) rows))))

turns-sorted : (ordered rows : List OrderRow) → AllPairs (λ (row other : OrderRow). row.receipt ≤ other.receipt) ordered → AllPairs (λ (row other : OrderRow). row.receipt ≤ other.receipt) (fold (λ ordered row. in_turn row ordered) ordered rows)
turns-sorted ordered [] sorted = sorted
turns-sorted ordered (row ∷ rows) sorted = turns-sorted (in_turn row ordered) rows (turn-sorted row ordered sorted)

never-falls : (rows : List OrderRow) → AllPairs (λ (row other : OrderRow). row.receipt ≤ other.receipt) rows → IsNonDecreasingBy (λ (row : OrderRow). row.receipt) rows
never-falls rows pairs i j d le short = elim (cases_lt i j) [
  | inl lt ↦ pairs i j d lt short
  | inr ge ↦ let same : i ≡ j = omega (arith, le, ge) in subst (λ k. (get_or rows i d).receipt ≤ (get_or rows k d).receipt) same (omega arith)
]

all-sorted : (rows : List OrderRow) → AllPairs (λ (row other : OrderRow). row.receipt ≤ other.receipt) (all_in_turn rows)
all-sorted rows = turns-sorted [] rows (λ i j d lt short. absurd (omega (arith, short)))

-- rows by receipt that agree with others on each receipt are those in turn
pub are-in-turn : (rows sorted : List OrderRow) → IsNonDecreasingBy (λ (row : OrderRow). row.receipt) sorted → ((z : OrderRow) → filter (received_at z.receipt) sorted ≡ filter (received_at z.receipt) rows) → sorted ≡ all_in_turn rows
are-in-turn rows sorted rises same =
    sorted-same (λ (row : OrderRow). row.receipt) sorted (all_in_turn rows) rises (never-falls (all_in_turn rows) (all-sorted rows))
    (λ z. same z ∙ sym (turns-at z.receipt [] rows))

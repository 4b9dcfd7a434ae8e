-- The numbers of rows, each once: what a walk over them meets.
use Rattle.std.proofs.Common.{All, AllPairs, Bool, List, [], ap, arith, cond, drop, filter, get_or, inl, inr, length, map, not, refl, subst, suc, sym, take, true, zero, ℕ, ◌++◌, ◌+◌, ◌-◌, ◌<◌, ◌==◌, ◌∙◌, ◌∷◌, ◌≡◌, ◌≤◌, false}
use Rattle.std.proofs.lemmas.Bool.{cases_lt, eq-eqb, ne_eqb, true≢false}
use Rattle.std.proofs.lemmas.Bool.Decides.{eqb_tells}
use Rattle.std.proofs.lemmas.List.{drop-drop, get_or-drop, length-drop, length-take, take-append-drop}
use Rattle.std.proofs.lemmas.List.Elements.{All-cons, All-contains, All-filter, All-head, All-nil, All-tail, All-weaker, filter_passes}
use Rattle.std.proofs.lemmas.List.Kept.{AllPairs-cons, AllPairs-filter}
use Rattle.std.specs.List.Sorted.{IsPartitionPoint}
use Rattle.std.specs.Prelude.{Contains}
use Rattle.agent_events.specs.declared.order.Order.{Order}
use Rattle.household_positions.proofs.ListParts.{filter-all, filter-within}
use Rattle.checkpoint_replay.proofs.NumberFacts.{all-front, all-rest, length-numbered, number-at, under-none}
use Rattle.checkpoint_replay.specs.NumberedRows.{AreKept, AreRising, orders_numbered, numbers_met}
use Rattle.checkpoint_replay.specs.Replays.{NumberedOrder, orders_under}
use Rattle.share_lots.proofs.LotLemmas.{AllPairs-head, AllPairs-tail}

-- whether a number is another one than this
abbrev pub is_other : ℕ → ℕ → Bool
is_other n number = not (number == n)

other-true : (n number : ℕ) → (number ≡ n → ⊥) → is_other n number ≡ true
other-true n number apart = ap not (ne_eqb number n apart)

-- what holds of the numbers of all rows holds of those that are met
pub all-met : (P : ℕ → Type 0) (rows : List NumberedOrder) → All (λ row. P row.number) rows → All P (numbers_met rows)
all-met P [] all = All-nil P
all-met P (row ∷ rows) all =
    let Q = λ (r : NumberedOrder). P r.number in
    All-cons P row.number (filter (is_other row.number) (numbers_met rows)) (All-head Q row rows all)
    (All-filter (is_other row.number) P (numbers_met rows) (all-met P rows (All-tail Q row rows all)))

-- rows with a number add nothing to the others that are met
met-same : (n : ℕ) (front rest : List NumberedOrder) → All (λ row. row.number ≡ n) front → filter (is_other n) (numbers_met (front ++ rest)) ≡ filter (is_other n) (numbers_met rest)
met-same n [] rest all = refl
met-same n (row ∷ front) rest all =
    let Is = λ (r : NumberedOrder). r.number ≡ n in
    let here = All-head Is row front all in
    let met = numbers_met (front ++ rest) in
    let others = filter (is_other row.number) met in
    ap (λ b. cond (not b) (row.number ∷ filter (is_other n) others) (filter (is_other n) others)) (eq-eqb row.number n here)
    ∙ (filter-within (is_other row.number) (is_other n) (λ a e. subst (λ (m : ℕ). is_other m a ≡ true) (sym here) e) met
    ∙ met-same n front rest (All-tail Is row front all))

-- rows of one number, and others behind them
met-front : (n : ℕ) (front rest : List NumberedOrder) → 0 < length front → All (λ row. row.number ≡ n) front → All (λ row. row.number ≡ n → ⊥) rest → numbers_met (front ++ rest) ≡ n ∷ numbers_met rest
met-front n [] rest some all apart = absurd (omega arith)
met-front n (row ∷ front) rest some all apart =
    let Is = λ (r : NumberedOrder). r.number ≡ n in
    ap (λ m. m ∷ filter (is_other m) (numbers_met (front ++ rest))) (All-head Is row front all)
    ∙ ap (λ ms. n ∷ ms)
    (met-same n front rest (All-tail Is row front all)
    ∙ filter-all (is_other n) (numbers_met rest)
    (All-weaker (λ m. m ≡ n → ⊥) (λ m. is_other n m ≡ true) (λ m away. other-true n m away) (numbers_met rest) (all-met (λ m. m ≡ n → ⊥) rest apart)))

-- between two places of one number there is it, and behind it what is behind
pub met-between : (number place behind : ℕ) (rows : List NumberedOrder) → place < behind → behind ≤ length rows → ((k : ℕ) (d : NumberedOrder) → place ≤ k → k < behind → k < length rows → (get_or rows k d).number ≡ number) → ((k : ℕ) (d : NumberedOrder) → behind ≤ k → k < length rows → (get_or rows k d).number ≡ number → ⊥) → numbers_met (drop place rows) ≡ number ∷ numbers_met (drop behind rows)
met-between number place behind rows lt bound at after =
    let Is = λ (r : NumberedOrder). r.number ≡ number in
    let Apart = λ (r : NumberedOrder). r.number ≡ number → ⊥ in
    let rest = drop place rows in
    let lengths = length-drop place rows in
    let taken = length-take (behind - place) rest in
    let all = all-front Is (behind - place) rest (λ k d less short. subst Is (sym (get_or-drop place rows k d)) (at (place + k) d (omega arith) (omega arith) (omega arith))) in
    let apart = all-rest Apart behind rows after in
    let there : drop (behind - place) rest ≡ drop behind rows = drop-drop (behind - place) place rows ∙ ap (λ n. drop n rows) (let sum : place + (behind - place) ≡ behind = omega arith in sum) in
    ap numbers_met (sym (take-append-drop (behind - place) rest) ∙ ap (λ rs. take (behind - place) rest ++ rs) there)
    ∙ met-front number (take (behind - place) rest) (drop behind rows) (omega arith) all apart

-- a walk from a place to the next one with another number
pub place-later : (numbers : List ℕ) (number place behind : ℕ) → AllPairs (λ a b. a ≤ b) numbers → place < length numbers → number ≡ get_or numbers place 0 → IsPartitionPoint (λ n. n ≤ number) (λ n. number < n) numbers behind → place < behind
place-later numbers number place behind rise short is point = elim (cases_lt place behind) [
  | inl lt ↦ lt
  | inr le ↦ absurd (let above = point.1 place 0 le short in omega arith)
]

pub met-step : (numbers : List ℕ) (orders : List Order) (number place behind : ℕ) → AreKept numbers orders → place < length numbers → number ≡ get_or numbers place 0 → IsPartitionPoint (λ n. n ≤ number) (λ n. number < n) numbers behind → behind ≤ length numbers → numbers_met (drop place (orders_numbered numbers orders)) ≡ number ∷ numbers_met (drop behind (orders_numbered numbers orders))
met-step numbers orders number place behind kept short is point bound =
    let rows = orders_numbered numbers orders in
    let same = kept.each in
    let lengths = length-numbered numbers orders same in
    let later = place-later numbers number place behind kept.rise short is point in
    let at = λ (k : ℕ) (d : NumberedOrder) (less : k < length numbers). number-at numbers orders k d 0 same less in
    met-between number place behind rows later (omega arith)
    (λ k d ge lt less. elim (cases_lt place k) [
      | inl further ↦ (let here = at k d (omega arith) in let above = kept.rise place k 0 further (omega arith) in let below = point.0 k 0 (omega arith) lt in omega arith)
      | inr no_further ↦ (
          let here = at k d (omega arith) in
          let one : k ≡ place = omega arith in
          here ∙ (ap (λ i. get_or numbers i 0) one ∙ sym is)
          )
    ])
    (λ k d ge less equal. (let here = at k d (omega arith) in let above = point.1 k 0 ge (omega arith) in omega arith))

-- ---- each number once

apart-from : (n m : ℕ) → is_other n m ≡ true → n ≡ m → ⊥
apart-from n m other same = true≢false (sym other ∙ ap not (eq-eqb m n (sym same)))

strictly : (n m : ℕ) → n ≤ m → (n ≡ m → ⊥) → n < m
strictly n m most away = elim (cases_lt n m) [
  | inl lt ↦ lt
  | inr le ↦ absurd (away (omega arith))
]

-- no number is met twice
pub met-apart : (rows : List NumberedOrder) → AllPairs (λ a b. a ≡ b → ⊥) (numbers_met rows)
met-apart [] = λ i j d lt short. absurd (omega arith)
met-apart (row ∷ rows) =
    let met = numbers_met rows in
    AllPairs-cons (λ a b. a ≡ b → ⊥) row.number (filter (is_other row.number) met)
    (All-weaker (λ m. is_other row.number m ≡ true) (λ m. row.number ≡ m → ⊥) (λ m other. apart-from row.number m other) (filter (is_other row.number) met)
    (filter_passes (is_other row.number) met))
    (AllPairs-filter (λ a b. a ≡ b → ⊥) (is_other row.number) met (met-apart rows))

-- numbers that never fall are met as they rise
pub met-rising : (rows : List NumberedOrder) → AreRising rows → AllPairs (λ a b. a < b) (numbers_met rows)
met-rising [] rise = λ i j d lt short. absurd (omega arith)
met-rising (row ∷ rows) rise =
    let R = λ (a b : NumberedOrder). a.number ≤ b.number in
    let met = numbers_met rows in
    let others = filter (is_other row.number) met in
    let above : All (λ m. row.number ≤ m) met = all-met (λ m. row.number ≤ m) rows (AllPairs-head R row rows rise) in
    AllPairs-cons (λ a b. a < b) row.number others
    (λ k d short.
    let most = All-filter (is_other row.number) (λ m. row.number ≤ m) met above k d short in
    let away = apart-from row.number (get_or others k d) (filter_passes (is_other row.number) met k d short) in
    strictly row.number (get_or others k d) most away)
    (AllPairs-filter (λ a b. a < b) (is_other row.number) met (met-rising rows (AllPairs-tail R row rows rise)))

contains-cons : (y : ℕ) (ys : List ℕ) (x : ℕ) → Contains ys x → Contains (y ∷ ys) x
contains-cons y ys x has = (suc has.0, omega (arith, has.1), has.2)

-- what is in a list is in what passes of it
contains-filter : (p : ℕ → Bool) (xs : List ℕ) (x : ℕ) → p x ≡ true → Contains xs x → Contains (filter p xs) x
contains-filter p [] x passes (k, short, is) = absurd (omega arith)
contains-filter p (y ∷ ys) x passes (zero, short, is) =
    subst (λ zs. Contains zs x) (sym (ap (λ b. cond b (y ∷ filter p ys) (filter p ys)) (ap p is ∙ passes))) (0, omega arith, is)
contains-filter p (y ∷ ys) x passes (suc k, short, is) =
    elim (p y) as (λ b. Contains (cond b (y ∷ filter p ys) (filter p ys)) x) [
      | true ↦ contains-cons y (filter p ys) x (contains-filter p ys x passes (k, omega arith, is))
      | false ↦ contains-filter p ys x passes (k, omega arith, is)
    ]

-- each number of a row is met
pub met-each : (rows : List NumberedOrder) (number : ℕ) → Contains (map (λ row. row.number) rows) number → Contains (numbers_met rows) number
met-each [] number (k, short, is) = absurd (omega arith)
met-each (row ∷ rows) number (zero, short, is) = (0, omega arith, is)
met-each (row ∷ rows) number (suc k, short, is) = elim (eqb_tells number row.number) [
  | inl same ↦ (0, omega arith, sym same.1)
  | inr other ↦ contains-cons row.number (filter (is_other row.number) (numbers_met rows)) number
      (contains-filter (is_other row.number) (numbers_met rows) number (ap not other.0) (met-each rows number (k, omega arith, is)))
]

-- the rows have their own numbers
all-own : (rows : List NumberedOrder) → All (λ row. Contains (map (λ row. row.number) rows) row.number) rows
all-own [] = All-nil (λ row. Contains [] row.number)
all-own (row ∷ rows) =
    All-cons (λ r. Contains (map (λ r. r.number) (row ∷ rows)) r.number) row rows (0, omega arith, refl)
    (λ k d short. contains-cons row.number (map (λ r. r.number) rows) (get_or rows k d).number (all-own rows k d short))

-- and a number that is met is one of a row
pub met-no_other : (rows : List NumberedOrder) (number : ℕ) → Contains (numbers_met rows) number → Contains (map (λ row. row.number) rows) number
met-no_other rows number has =
    All-contains (λ m. Contains (map (λ row. row.number) rows) m) (numbers_met rows) number
    (all-met (λ m. Contains (map (λ row. row.number) rows) m) rows (all-own rows)) has

-- so there is no order under another one
pub met-none : (rows : List NumberedOrder) (number : ℕ) → (Contains (numbers_met rows) number → ⊥) → orders_under number rows ≡ []
met-none rows number never =
    under-none number rows (λ k d short is.
    never (met-each rows number (subst (Contains (map (λ row. row.number) rows)) is (all-own rows k d short))))

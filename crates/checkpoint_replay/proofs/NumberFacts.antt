-- Orders under numbers that never fall: those under one number stand together.
use Rattle.std.proofs.Common.{All, AllPairs, List, [], ap, append-nil, arith, cond, drop, filter, get_or, length, map, refl, subst, suc, sym, take, zero, ℕ, ◌++◌, ◌+◌, ◌-◌, ◌<◌, ◌==◌, ◌∙◌, ◌∷◌, ◌≡◌, ◌≤◌}
use Rattle.std.proofs.Common.{None, Option, Some, inl, inr, slice_get}
use Rattle.std.proofs.lemmas.Option.{get_or_from_slice_get, slice_get_cases}
use Rattle.std.specs.Prelude.{IfNone, IfSome}
use Rattle.std.proofs.lemmas.Bool.{cases_lt, eq-eqb, ne_eqb}
use Rattle.std.proofs.lemmas.List.{drop-map, get_or-drop, get_or-take, length-append, length-drop, length-take, map-append, take-append-drop, take-map}
use Rattle.std.proofs.lemmas.List.Elements.{All-head, All-tail, filter-append}
use Rattle.std.proofs.lemmas.List.Quantifiers.{all_pairs_push}
use Rattle.std.specs.List.Sorted.{IsPartitionPoint}
use Rattle.agent_events.specs.declared.order.Order.{Order}
use Rattle.checkpoint_replay.specs.NumberedRows.{AreKept, AreRising, AreUpTo, orders_numbered}
use Rattle.checkpoint_replay.specs.Replays.{NumberedOrder, orders_under}

-- ---- fronts and rests of a list

pub all-front : {X : Type 0} (P : X → Type 0) (n : ℕ) (xs : List X) → ((k : ℕ) (d : X) → k < n → k < length xs → P (get_or xs k d)) → All P (take n xs)
all-front P n xs all k d short =
    let lengths = length-take n xs in
    subst P (sym (get_or-take n xs k d (omega arith))) (all k d (omega arith) (omega arith))

pub all-rest : {X : Type 0} (P : X → Type 0) (n : ℕ) (xs : List X) → ((k : ℕ) (d : X) → n ≤ k → k < length xs → P (get_or xs k d)) → All P (drop n xs)
all-rest P n xs all k d short =
    let lengths = length-drop n xs in
    subst P (sym (get_or-drop n xs k d)) (all (n + k) d (omega arith) (omega arith))

-- ---- rows of numbers and orders

-- as many rows as numbers and orders
pub length-numbered : (numbers : List ℕ) (orders : List Order) → length numbers ≡ length orders → length (orders_numbered numbers orders) ≡ length orders
length-numbered [] orders same = same
length-numbered (number ∷ numbers) [] same = refl
length-numbered (number ∷ numbers) (order ∷ orders) same =
    let shorter : length numbers ≡ length orders = omega arith in
    omega (arith, length-numbered numbers orders shorter)

-- the number of a row is that in its place
pub number-at : (numbers : List ℕ) (orders : List Order) (i : ℕ) (d : NumberedOrder) (n : ℕ) → length numbers ≡ length orders → i < length numbers → (get_or (orders_numbered numbers orders) i d).number ≡ get_or numbers i n
number-at [] orders i d n same short = absurd (omega arith)
number-at (number ∷ numbers) [] i d n same short = absurd (omega arith)
number-at (number ∷ numbers) (order ∷ orders) zero d n same short = refl
number-at (number ∷ numbers) (order ∷ orders) (suc i) d n same short =
    number-at numbers orders i d n (omega arith) (omega arith)

-- numbers that never fall make rows that rise
pub rising-numbered : (numbers : List ℕ) (orders : List Order) → length numbers ≡ length orders → AllPairs (λ a b. a ≤ b) numbers → AreRising (orders_numbered numbers orders)
rising-numbered numbers orders same rise i j d lt short =
    let within : j < length numbers = omega (arith, length-numbered numbers orders same) in
    let first = number-at numbers orders i d 0 same (omega arith) in
    let second = number-at numbers orders j d 0 same within in
    omega (arith, first, second, rise i j 0 lt within)

-- the orders of the rows
pub orders-numbered : (numbers : List ℕ) (orders : List Order) → length numbers ≡ length orders → map (λ row. row.order) (orders_numbered numbers orders) ≡ orders
orders-numbered [] [] same = refl
orders-numbered [] (order ∷ orders) same = absurd (omega arith)
orders-numbered (number ∷ numbers) [] same = absurd (omega arith)
orders-numbered (number ∷ numbers) (order ∷ orders) same =
    ap (λ os. order ∷ os) (orders-numbered numbers orders (omega arith))

-- and their numbers
pub numbers-numbered : (numbers : List ℕ) (orders : List Order) → length numbers ≡ length orders → map (λ row. row.number) (orders_numbered numbers orders) ≡ numbers
numbers-numbered [] orders same = refl
numbers-numbered (number ∷ numbers) [] same = absurd (omega arith)
numbers-numbered (number ∷ numbers) (order ∷ orders) same =
    ap (λ ns. number ∷ ns) (numbers-numbered numbers orders (omega arith))

-- one row more
pub numbered-more : (numbers : List ℕ) (orders : List Order) (number : ℕ) (order : Order) → length numbers ≡ length orders → orders_numbered (numbers ++ number ∷ []) (orders ++ order ∷ []) ≡ orders_numbered numbers orders ++ record { number = number; order = order } ∷ []
numbered-more [] [] number order same = refl
numbered-more [] (o ∷ os) number order same = absurd (omega arith)
numbered-more (n ∷ ns) [] number order same = absurd (omega arith)
numbered-more (n ∷ ns) (o ∷ os) number order same =
    ap (λ rows. record { number = n; order = o } ∷ rows) (numbered-more ns os number order (omega arith))

-- ---- orders under a number

pub under-append : (number : ℕ) (rows more : List NumberedOrder) → orders_under number (rows ++ more) ≡ orders_under number rows ++ orders_under number more
under-append number rows more =
    ap (map (λ row. row.order)) (filter-append (λ row. row.number == number) rows more)
    ∙ map-append (λ row. row.order) (filter (λ row. row.number == number) rows) (filter (λ row. row.number == number) more)

-- there is none under a number that no row has
pub under-none : (number : ℕ) (rows : List NumberedOrder) → All (λ row. row.number ≡ number → ⊥) rows → orders_under number rows ≡ []
under-none number [] apart = refl
under-none number (row ∷ rows) apart =
    let Apart = λ (r : NumberedOrder). r.number ≡ number → ⊥ in
    let those = filter (λ r. r.number == number) rows in
    ap (λ b. map (λ r. r.order) (cond b (row ∷ those) those)) (ne_eqb row.number number (All-head Apart row rows apart))
    ∙ under-none number rows (All-tail Apart row rows apart)

-- all are under the number that all rows have
pub under-all : (number : ℕ) (rows : List NumberedOrder) → All (λ row. row.number ≡ number) rows → orders_under number rows ≡ map (λ row. row.order) rows
under-all number [] all = refl
under-all number (row ∷ rows) all =
    let Is = λ (r : NumberedOrder). r.number ≡ number in
    let those = filter (λ r. r.number == number) rows in
    ap (λ b. map (λ r. r.order) (cond b (row ∷ those) those)) (eq-eqb row.number number (All-head Is row rows all))
    ∙ ap (λ os. row.order ∷ os) (under-all number rows (All-tail Is row rows all))

-- the orders between two places are those under the number that all rows there have, where no other row has it
pub under-between : (number first behind : ℕ) (rows : List NumberedOrder) → ((k : ℕ) (d : NumberedOrder) → k < first → k < length rows → (get_or rows k d).number ≡ number → ⊥) → ((k : ℕ) (d : NumberedOrder) → first ≤ k → k < behind → k < length rows → (get_or rows k d).number ≡ number) → ((k : ℕ) (d : NumberedOrder) → behind ≤ k → k < length rows → (get_or rows k d).number ≡ number → ⊥) → first ≤ behind → orders_under number rows ≡ take (behind - first) (drop first (map (λ row. row.order) rows))
under-between number first behind rows before at after le =
    let Apart = λ (r : NumberedOrder). r.number ≡ number → ⊥ in
    let Is = λ (r : NumberedOrder). r.number ≡ number in
    let rest = drop first rows in
    let middle = take (behind - first) rest in
    let end = drop (behind - first) rest in
    let lengths = length-drop first rows in
    let none-before = under-none number (take first rows) (all-front Apart first rows before) in
    let all-at = under-all number middle (all-front Is (behind - first) rest (λ k d lt short. subst Is (sym (get_or-drop first rows k d)) (at (first + k) d (omega arith) (omega arith) (omega arith)))) in
    let none-after = under-none number end (all-rest Apart (behind - first) rest (λ k d le' short. subst Apart (sym (get_or-drop first rows k d)) (after (first + k) d (omega arith) (omega arith)))) in
    ap (orders_under number) (sym (take-append-drop first rows))
    ∙ (under-append number (take first rows) rest
    ∙ (ap (λ os. os ++ orders_under number rest) none-before
    ∙ (ap (orders_under number) (sym (take-append-drop (behind - first) rest))
    ∙ (under-append number middle end
    ∙ (ap (λ os. orders_under number middle ++ os) none-after
    ∙ (append-nil (orders_under number middle)
    ∙ (all-at
    ∙ (sym (take-map (λ r. r.order) (behind - first) rest)
    ∙ ap (take (behind - first)) (sym (drop-map (λ r. r.order) first rows))))))))))

-- so the orders under a number are those between its first place and the one behind it
pub under-is : (numbers : List ℕ) (orders : List Order) (number first behind : ℕ) → AreKept numbers orders → IsPartitionPoint (λ n. n < number) (λ n. number ≤ n) numbers first → IsPartitionPoint (λ n. n ≤ number) (λ n. number < n) numbers behind → first ≤ behind → take (behind - first) (drop first orders) ≡ orders_under number (orders_numbered numbers orders)
under-is numbers orders number first behind kept low high le =
    let rows = orders_numbered numbers orders in
    let lengths = length-numbered numbers orders kept.each in
    let same = kept.each in
    let at = λ (k : ℕ) (d : NumberedOrder) (short : k < length numbers). number-at numbers orders k d 0 same short in
    sym (under-between number first behind rows
    (λ k d lt short is. (let here = at k d (omega arith) in let below = low.0 k 0 (omega arith) lt in omega arith))
    (λ k d ge lt short. (let here = at k d (omega arith) in let above = low.1 k 0 ge (omega arith) in let below = high.0 k 0 (omega arith) lt in omega arith))
    (λ k d ge short is. (let here = at k d (omega arith) in let above = high.1 k 0 ge (omega arith) in omega arith))
    le
    ∙ ap (λ os. take (behind - first) (drop first os)) (orders-numbered numbers orders same))

-- the first place of a number isn't behind the one that is behind it
pub first-before : (numbers : List ℕ) (number first behind : ℕ) → IsPartitionPoint (λ n. n < number) (λ n. number ≤ n) numbers first → IsPartitionPoint (λ n. n ≤ number) (λ n. number < n) numbers behind → first ≤ length numbers → first ≤ behind
first-before numbers number first behind low high bound = elim (cases_lt behind first) [
  | inl lt ↦ absurd (let below = low.0 behind 0 (omega arith) lt in let above = high.1 behind 0 (omega arith) (omega arith) in omega arith)
  | inr le ↦ le
]

-- ---- an order more

-- a number that is at least all others is at the end
pub kept-more : (numbers : List ℕ) (orders : List Order) (number : ℕ) (order : Order) → AreKept numbers orders → AreUpTo number (orders_numbered numbers orders) → AreKept (numbers ++ number ∷ []) (orders ++ order ∷ [])
kept-more numbers orders number order kept up_to = record {
  each = (
      let a = length-append numbers (number ∷ []) in
      let b = length-append orders (order ∷ []) in
      let same = kept.each in
      omega arith
      );
  rise = all_pairs_push (λ a b. a ≤ b) numbers number kept.rise (λ k d short.
      let lengths = length-numbered numbers orders kept.each in
      let same = kept.each in
      let row : NumberedOrder = record { number = d; order = order } in
      let here = number-at numbers orders k row d same short in
      let below = up_to k row (omega arith) in
      omega arith);
}

-- ---- the last number

-- it is at least all others
pub last-most : (numbers : List ℕ) (o : Option ℕ) → AllPairs (λ a b. a ≤ b) numbers → o ≡ slice_get numbers (length numbers - 1) → IfSome o (λ number. All (λ n. n ≤ number) numbers)
last-most numbers o rise is = elim (slice_get_cases numbers (length numbers - 1)).1 [
  | inl there ↦ subst P (sym (is ∙ there.2)) (each there.0 there.1 there.2)
  | inr past ↦ subst P (sym (is ∙ past.1)) tt
]
  where
    P : Option ℕ → Type 0
    P q = IfSome q (λ number. All (λ n. n ≤ number) numbers)

    each : (number : ℕ) → length numbers - 1 < length numbers → slice_get numbers (length numbers - 1) ≡ Some number → All (λ n. n ≤ number) numbers
    each number short there k d less = elim (cases_lt k (length numbers - 1)) [
      | inl lt ↦ (
          let rises = rise k (length numbers - 1) d lt short in
          let found = get_or_from_slice_get numbers (length numbers - 1) number d there in
          omega arith
          )
      | inr ge ↦ (
          let here : k ≡ length numbers - 1 = omega arith in
          let found = get_or_from_slice_get numbers (length numbers - 1) number d there in
          let same = ap (λ i. get_or numbers i d) here in
          omega arith
          )
    ]

-- and what holds of all numbers holds of those of the rows
pub all-numbered : (P : ℕ → Type 0) (numbers : List ℕ) (orders : List Order) → length numbers ≡ length orders → All P numbers → All (λ row. P row.number) (orders_numbered numbers orders)
all-numbered P numbers orders same all k d short =
    let lengths = length-numbered numbers orders same in
    subst P (sym (number-at numbers orders k d 0 same (omega arith))) (all k 0 (omega arith))

pub none-numbered : (numbers : List ℕ) (orders : List Order) → numbers ≡ [] → orders_numbered numbers orders ≡ []
none-numbered numbers orders none = ap (λ ns. orders_numbered ns orders) none

-- what is said of an option's number, by something weaker
pub if-number : (P Q : ℕ → Type 0) (o : Option ℕ) → ((n : ℕ) → P n → Q n) → IfSome o P → IfSome o Q
if-number P Q None weaker is = tt
if-number P Q (Some n) weaker is = weaker n is

pub if-no_number : (P Q : Type 0) (o : Option ℕ) → (P → Q) → IfNone o P → IfNone o Q
if-no_number P Q None weaker is = weaker is
if-no_number P Q (Some n) weaker is = tt

-- ---- an order more, under its number and under others

pub under-own : (rows : List NumberedOrder) (row : NumberedOrder) → orders_under row.number (rows ++ row ∷ []) ≡ orders_under row.number rows ++ row.order ∷ []
under-own rows row =
    under-append row.number rows (row ∷ [])
    ∙ ap (λ os. orders_under row.number rows ++ os) (ap (λ b. map (λ r. r.order) (cond b (row ∷ []) [])) (eq-eqb row.number row.number refl))

pub under-other : (rows : List NumberedOrder) (row : NumberedOrder) (number : ℕ) → (row.number ≡ number → ⊥) → orders_under number (rows ++ row ∷ []) ≡ orders_under number rows
under-other rows row number apart =
    under-append number rows (row ∷ [])
    ∙ (ap (λ os. orders_under number rows ++ os) (ap (λ b. map (λ r. r.order) (cond b (row ∷ []) [])) (ne_eqb row.number number apart))
    ∙ append-nil (orders_under number rows))

-- What a search finds in a table by number.
use Rattle.std.proofs.Common.{AllPairs, Bool, List, None, Some, ap, arith, cond, false, find, get_or, inl, inr, length, ltb, refl, slice_get, subst, sym, true, ℕ, ◌&&◌, ◌<◌, ◌==◌, ◌||◌, ◌∙◌, ◌≡◌, ◌⊎◌}
use Rattle.std.specs.List.Sorted.{IsPartitionPoint, IsPartitionedBy}
use Rattle.std.proofs.lemmas.Bool.{and_from, and_parts, both_ways, cases_Bool, cases_lt, eq-eqb, eqb-true, lt-ltb, ltb-true, or_cases}
use Rattle.std.proofs.lemmas.Option.{get_or_from_slice_get, slice_get_cases}
use Rattle.fund_calendar.proofs.LookUpLemmas.{eq_false, find_at, find_none}
use Rattle.agent_events.specs.declared.rows.RateRow.{RateRow}
use Rattle.household_fold.specs.Facts.{rate_numbered, rate_stands_before}
use Rattle.household_fold.specs.Searches.{if_passes}

-- no element that comes before what is looked for stands behind one that doesn't
pub partitioned : {X : Type 0} (before : X → Bool) (xs : List X) → AllPairs (λ a b. before b ≡ true → before a ≡ true) xs → IsPartitionedBy before xs
partitioned before xs pairs i j d le short e = elim (cases_lt i j) [
  | inl lt ↦ pairs i j d lt short e
  | inr ge ↦ let same : i ≡ j = omega arith in rw same e
]

-- Elements that pass stand behind those that come before, and of two the earlier one comes before a later one that passes:
-- so what passes stands in the place of the search, or nowhere.
pub found_in_place : {X : Type 0} (before passes : X → Bool) (xs : List X) (i : ℕ) → IsPartitionPoint (λ y. before y ≡ true) (λ y. before y ≡ false) xs i → ((x : X) → before x ≡ true → passes x ≡ false) → AllPairs (λ a b. passes b ≡ true → before a ≡ true) xs → if_passes passes (slice_get xs i) ≡ find passes xs
found_in_place {X} before passes xs i point apart rise = elim (slice_get_cases xs i).1 [
  | inl there ↦ ap (if_passes passes) there.2 ∙ elim (cases_Bool (passes there.0)) [
    | inl is ↦ here there.0 there.2 is
    | inr fails ↦ not_here there.0 there.1 there.2 fails
  ]
  | inr past ↦ ap (if_passes passes) past.1 ∙ sym (find_none passes xs (λ k d short. earlier k d (let le = past.0 in omega arith)))
]
  where
    earlier : (k : ℕ) (d : X) → k < i → passes (get_or xs k d) ≡ false
    earlier k d lt = apart (get_or xs k d) (point.0 k d (omega arith) lt)

    here : (x : X) → slice_get xs i ≡ Some x → passes x ≡ true → if_passes passes (Some x) ≡ find passes xs
    here x there is =
        ap (λ b. cond b (Some x) None) is
        ∙ sym (find_at passes xs i (λ k d lt short. earlier k d lt) (λ d short. ap passes (get_or_from_slice_get xs i x d there) ∙ is) ∙ there)

    later : (k : ℕ) (d : X) → i < k → k < length xs → (b : Bool) → passes (get_or xs k d) ≡ b → b ≡ false
    later k d lt short false e = refl
    later k d lt short true e = absurd (both_ways (before (get_or xs i d)) (point.1 i d (omega arith) (omega arith)) (rise i k d lt short e))

    not_here : (x : X) → i < length xs → slice_get xs i ≡ Some x → passes x ≡ false → if_passes passes (Some x) ≡ find passes xs
    not_here x lt there fails =
        ap (λ b. cond b (Some x) None) fails
        ∙ sym (find_none passes xs (λ k d short. elim (cases_lt k i) [
          | inl low ↦ earlier k d low
          | inr ge ↦ elim (cases_lt i k) [
            | inl past ↦ later k d past short (passes (get_or xs k d)) refl
            | inr le ↦
                let same : k ≡ i = omega arith in
                ap (λ n. passes (get_or xs n d)) same ∙ ap passes (get_or_from_slice_get xs i x d there) ∙ fails
          ]
        ]))

-- a table by rising numbers
pub by_number : {X : Type 0} (n : X → ℕ) (xs : List X) (key i : ℕ) → AllPairs (λ a b. n a < n b) xs → IsPartitionPoint (λ y. ltb (n y) key ≡ true) (λ y. ltb (n y) key ≡ false) xs i → if_passes (λ y. n y == key) (slice_get xs i) ≡ find (λ y. n y == key) xs
by_number n xs key i rise point =
    found_in_place (λ y. ltb (n y) key) (λ y. n y == key) xs i point
    (λ x lt. eq_false (n x) key (λ e. (let below = ltb-true (n x) key lt in omega arith)))
    (λ a b d lt short e. lt-ltb (n (get_or xs a d)) key (let below = rise a b d lt short in let is = eqb-true (n (get_or xs b d)) key e in omega arith))

-- the rates by class and then moment
before_facts : (class moment : ℕ) (row : RateRow) → rate_stands_before class moment row ≡ true → (row.class < class) ⊎ ((row.class ≡ class) × (row.moment < moment))
before_facts class moment row e = elim (or_cases (ltb row.class class) (row.class == class && ltb row.moment moment) e) [
  | inl lt ↦ inl (ltb-true row.class class lt)
  | inr both ↦ (let parts = and_parts (row.class == class) (ltb row.moment moment) both in inr (eqb-true row.class class parts.0, ltb-true row.moment moment parts.1))
]

before_from : (class moment : ℕ) (row : RateRow) → (row.class < class) ⊎ ((row.class ≡ class) × (row.moment < moment)) → rate_stands_before class moment row ≡ true
before_from class moment row (inl lt) = ap (λ b. b || (row.class == class && ltb row.moment moment)) (lt-ltb row.class class lt)
before_from class moment row (inr both) =
    ap (λ b. ltb row.class class || b) (and_from (row.class == class) (ltb row.moment moment) (eq-eqb row.class class both.0) (lt-ltb row.moment moment both.1))
    ∙ or_true (ltb row.class class)
  where
    or_true : (b : Bool) → (b || true) ≡ true
    or_true true = refl
    or_true false = refl

before_through : (class moment : ℕ) (a b : RateRow) → rate_stands_before b.class b.moment a ≡ true → rate_stands_before class moment b ≡ true → rate_stands_before class moment a ≡ true
before_through class moment a b first second = elim (before_facts b.class b.moment a first) [
  | inl lt ↦ elim (before_facts class moment b second) [
    | inl less ↦ before_from class moment a (inl (omega arith))
    | inr same ↦ before_from class moment a (inl (let e = same.0 in omega arith))
  ]
  | inr equal ↦ elim (before_facts class moment b second) [
    | inl less ↦ before_from class moment a (inl (let e = equal.0 in omega arith))
    | inr same ↦ before_from class moment a (inr (equal.0 ∙ same.0, (let l = equal.1 in let m = same.1 in omega arith)))
  ]
]

pub rates_partitioned : (rates : List RateRow) (class moment : ℕ) → AllPairs (λ a b. rate_stands_before b.class b.moment a ≡ true) rates → IsPartitionedBy (rate_stands_before class moment) rates
rates_partitioned rates class moment rise =
    partitioned (rate_stands_before class moment) rates
    (λ i j d lt short e. before_through class moment (get_or rates i d) (get_or rates j d) (rise i j d lt short) e)

rate_apart : (class moment : ℕ) (row : RateRow) → rate_stands_before class moment row ≡ true → (row.class == class && row.moment == moment) ≡ false
rate_apart class moment row e = elim (cases_Bool (row.class == class && row.moment == moment)) [
  | inl is ↦ (
      let parts = and_parts (row.class == class) (row.moment == moment) is in
      let same = eqb-true row.class class parts.0 in
      let when = eqb-true row.moment moment parts.1 in
      elim (before_facts class moment row e) [
        | inl lt ↦ absurd (omega arith)
        | inr both ↦ absurd (let less = both.1 in omega arith)
      ]
      )
  | inr no_rate ↦ no_rate
]

rate_behind : (class moment : ℕ) (a b : RateRow) → rate_stands_before b.class b.moment a ≡ true → (b.class == class && b.moment == moment) ≡ true → rate_stands_before class moment a ≡ true
rate_behind class moment a b before e =
    let parts = and_parts (b.class == class) (b.moment == moment) e in
    let P : ℕ → Type 0 = λ n. rate_stands_before n moment a ≡ true in
    let Q : ℕ → Type 0 = λ n. rate_stands_before b.class n a ≡ true in
    subst P (eqb-true b.class class parts.0) (subst Q (eqb-true b.moment moment parts.1) before)

pub rate_in_place : (rates : List RateRow) (class moment i : ℕ) → AllPairs (λ a b. rate_stands_before b.class b.moment a ≡ true) rates → IsPartitionPoint (λ y. rate_stands_before class moment y ≡ true) (λ y. rate_stands_before class moment y ≡ false) rates i → if_passes (λ row. row.class == class && row.moment == moment) (slice_get rates i) ≡ rate_numbered rates class moment
rate_in_place rates class moment i rise point =
    found_in_place (rate_stands_before class moment) (λ row. row.class == class && row.moment == moment) rates i point
    (λ x before. rate_apart class moment x before)
    (λ a b d lt short e. rate_behind class moment (get_or rates a d) (get_or rates b d) (rise a b d lt short) e)

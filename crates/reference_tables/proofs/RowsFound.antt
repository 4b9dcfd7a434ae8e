-- What is found among rows with one more in its place, and how many there are.
use Rattle.std.proofs.Common.{Bool, List, None, Option, Some, [], ap, arith, cond, count_by, false, find, inl, inr, is_some, length, nat_lt, refl, subst, sym, true, ℕ, ◌&&◌, ◌+◌, ◌==◌, ◌∙◌, ◌∷◌, ◌≡◌, ◌≤◌}
use Rattle.std.proofs.lemmas.Bool.{and_from, and_parts, cases_Bool, eq-eqb, eqb-true}
use Rattle.std.proofs.lemmas.Bool.Decides.{nat_tests}
use Rattle.std.proofs.lemmas.List.Sums.{sum_by-cons}
use Rattle.std.specs.Option.{option_or}
use Rattle.agent_events.specs.declared.rows.RateRow.{RateRow}
use Rattle.household_fold.specs.Facts.{rate_numbered, rate_stands_before}
use Rattle.reference_tables.proofs.PutRows.{new-all}
use Rattle.reference_tables.specs.Places.{put_new, put_row}
use Rattle.reference_tables.specs.Tables.{is_rate_of, with_dividend, with_fixed_rate}
use Rattle.register_machine.proofs.KeyOrder.{keys-apart}

-- ---- the row itself, and another one

find-own : {R : Type 0} (before same q : R → Bool) (row : R) (xs : List R) → q row ≡ true → ((x : R) → before x ≡ true → q x ≡ false) → find q (put_row before same row xs) ≡ Some row
find-own before same q row [] own apart = ap (λ b. cond b (Some row) None) own
find-own before same q row (x ∷ xs) own apart =
    elim (before x) as (λ b. before x ≡ b → find q (cond b (x ∷ put_row before same row xs) (cond (same x) (row ∷ xs) (row ∷ x ∷ xs))) ≡ Some row) [
      | true ↦ λ e. ap (λ b. cond b (Some x) (find q (put_row before same row xs))) (apart x e) ∙ find-own before same q row xs own apart
      | false ↦ λ e.
          elim (same x) as (λ b. find q (cond b (row ∷ xs) (row ∷ x ∷ xs)) ≡ Some row) [
            | true ↦ ap (λ b. cond b (Some row) (find q xs)) own
            | false ↦ ap (λ b. cond b (Some row) (find q (x ∷ xs))) own
          ]
    ] refl

find-other : {R : Type 0} (before same q : R → Bool) (row : R) (xs : List R) → q row ≡ false → ((x : R) → same x ≡ true → q x ≡ false) → find q (put_row before same row xs) ≡ find q xs
find-other before same q row [] other apart = ap (λ b. cond b (Some row) None) other
find-other before same q row (x ∷ xs) other apart =
    elim (before x) as (λ b. find q (cond b (x ∷ put_row before same row xs) (cond (same x) (row ∷ xs) (row ∷ x ∷ xs))) ≡ find q (x ∷ xs)) [
      | true ↦ ap (λ o. cond (q x) (Some x) o) (find-other before same q row xs other apart)
      | false ↦
          elim (same x) as (λ b. same x ≡ b → find q (cond b (row ∷ xs) (row ∷ x ∷ xs)) ≡ find q (x ∷ xs)) [
            | true ↦ λ is.
                ap (λ b. cond b (Some row) (find q xs)) other ∙ sym (ap (λ b. cond b (Some x) (find q xs)) (apart x is))
            | false ↦ λ is. ap (λ b. cond b (Some row) (find q (x ∷ xs))) other
          ] refl
    ]

or-none : {X : Type 0} (o : Option X) → o ≡ option_or o None
or-none None = refl
or-none (Some x) = refl

new-own : {R : Type 0} (before same : R → Bool) (row : R) (xs : List R) → same row ≡ true → ((x : R) → before x ≡ true → same x ≡ false) → find same (put_new before same row xs) ≡ option_or (find same xs) (Some row)
new-own {R} before same row xs own apart = by_found (find same xs) refl
  where
    by_found : (o : Option R) → find same xs ≡ o → find same (cond (is_some o) xs (put_row before same row xs)) ≡ option_or o (Some row)
    by_found None e = find-own before same same row xs own apart
    by_found (Some x) e = e

new-other : {R : Type 0} (before same q : R → Bool) (row : R) (xs : List R) → q row ≡ false → ((x : R) → same x ≡ true → q x ≡ false) → find q (put_new before same row xs) ≡ option_or (find q xs) None
new-other before same q row xs other apart =
    new-all (λ ys. find q ys ≡ option_or (find q xs) None) before same row xs (or-none (find q xs))
    (find-other before same q row xs other apart ∙ or-none (find q xs))

-- ---- by one number

before-apart : (a b : ℕ) → nat_lt a b ≡ true → (a == b) ≡ false
before-apart a b = grind (arith, nat_tests)

same-apart : (a b c : ℕ) → (b == c) ≡ false → (a == b) ≡ true → (a == c) ≡ false
same-apart a b c = grind (arith, nat_tests)

pub numbered-new : {R : Type 0} (n : R → ℕ) (row : R) (xs : List R) (k : ℕ) → find (λ x. n x == k) (put_new (λ x. nat_lt (n x) (n row)) (λ x. n x == n row) row xs) ≡ option_or (find (λ x. n x == k) xs) (cond (n row == k) (Some row) None)
numbered-new {R} n row xs k = elim (cases_Bool (n row == k)) [
  | inl is ↦ subst Found (eqb-true (n row) k is) own
  | inr other ↦
      new-other (λ x. nat_lt (n x) (n row)) (λ x. n x == n row) (λ x. n x == k) row xs other (λ x. same-apart (n x) (n row) k other)
      ∙ ap (λ b. option_or (find (λ x. n x == k) xs) (cond b (Some row) None)) (sym other)
]
  where
    Found : ℕ → Type 0
    Found m = find (λ x. n x == m) (put_new (λ x. nat_lt (n x) (n row)) (λ x. n x == n row) row xs) ≡ option_or (find (λ x. n x == m) xs) (cond (n row == m) (Some row) None)

    own : Found (n row)
    own =
        let is = eq-eqb (n row) (n row) refl in
        new-own (λ x. nat_lt (n x) (n row)) (λ x. n x == n row) row xs is (λ x. before-apart (n x) (n row))
        ∙ ap (λ b. option_or (find (λ x. n x == n row) xs) (cond b (Some row) None)) (sym is)

-- ---- by class and moment

rates-differ : (a b c d e f : ℕ) → (c == e && d == f) ≡ false → (a == c && b == d) ≡ true → (a == e && b == f) ≡ false
rates-differ a b c d e f = grind (arith, nat_tests)

own-rate : (row : RateRow) → is_rate_of row.class row.moment row ≡ true
own-rate row = and_from (row.class == row.class) (row.moment == row.moment) (eq-eqb row.class row.class refl) (eq-eqb row.moment row.moment refl)

-- where something holds of the row's own class and moment, it holds of those that are the same
at-rate : (P : ℕ → ℕ → Type 0) (row : RateRow) (class moment : ℕ) → is_rate_of class moment row ≡ true → P row.class row.moment → P class moment
at-rate P row class moment is own =
    let parts = and_parts (row.class == class) (row.moment == moment) is in
    let Q : ℕ → Type 0 = λ c. P c row.moment in
    subst (P class) (eqb-true row.moment moment parts.1) (subst Q (eqb-true row.class class parts.0) own)

pub rates-new : (row : RateRow) (rates : List RateRow) (class moment : ℕ) → rate_numbered (with_dividend rates row) class moment ≡ option_or (rate_numbered rates class moment) (cond (is_rate_of class moment row) (Some row) None)
rates-new row rates class moment = elim (cases_Bool (is_rate_of class moment row)) [
  | inl is ↦ at-rate Found row class moment is
      (new-own (rate_stands_before row.class row.moment) (is_rate_of row.class row.moment) row rates (own-rate row) (λ x. keys-apart x.class x.moment row.class row.moment)
      ∙ ap (λ b. option_or (rate_numbered rates row.class row.moment) (cond b (Some row) None)) (sym (own-rate row)))
  | inr other ↦
      new-other (rate_stands_before row.class row.moment) (is_rate_of row.class row.moment) (is_rate_of class moment) row rates other
      (λ x. rates-differ x.class x.moment row.class row.moment class moment other)
      ∙ ap (λ b. option_or (rate_numbered rates class moment) (cond b (Some row) None)) (sym other)
]
  where
    Found : ℕ → ℕ → Type 0
    Found c m = rate_numbered (with_dividend rates row) c m ≡ option_or (rate_numbered rates c m) (cond (is_rate_of c m row) (Some row) None)

pub rates-put : (row : RateRow) (rates : List RateRow) (class moment : ℕ) → rate_numbered (with_fixed_rate rates row) class moment ≡ cond (is_rate_of class moment row) (Some row) (rate_numbered rates class moment)
rates-put row rates class moment = elim (cases_Bool (is_rate_of class moment row)) [
  | inl is ↦ at-rate Found row class moment is
      (find-own (rate_stands_before row.class row.moment) (is_rate_of row.class row.moment) (is_rate_of row.class row.moment) row rates (own-rate row) (λ x. keys-apart x.class x.moment row.class row.moment)
      ∙ ap (λ b. cond b (Some row) (rate_numbered rates row.class row.moment)) (sym (own-rate row)))
  | inr other ↦
      find-other (rate_stands_before row.class row.moment) (is_rate_of row.class row.moment) (is_rate_of class moment) row rates other
      (λ x. rates-differ x.class x.moment row.class row.moment class moment other)
      ∙ ap (λ b. cond b (Some row) (rate_numbered rates class moment)) (sym other)
]
  where
    Found : ℕ → ℕ → Type 0
    Found c m = rate_numbered (with_fixed_rate rates row) c m ≡ cond (is_rate_of c m row) (Some row) (rate_numbered rates c m)

-- ---- how many

put-length : {R : Type 0} (before same : R → Bool) (row : R) (xs : List R) → length (put_row before same row xs) ≤ length xs + 1
put-length before same row [] = omega arith
put-length before same row (x ∷ xs) =
    elim (before x) as (λ b. length (cond b (x ∷ put_row before same row xs) (cond (same x) (row ∷ xs) (row ∷ x ∷ xs))) ≤ length (x ∷ xs) + 1) [
      | true ↦ (let rest = put-length before same row xs in omega (arith, rest))
      | false ↦
          elim (same x) as (λ b. length (cond b (row ∷ xs) (row ∷ x ∷ xs)) ≤ length (x ∷ xs) + 1) [
            | true ↦ omega arith
            | false ↦ omega arith
          ]
    ]

pub new-length : {R : Type 0} (before same : R → Bool) (row : R) (xs : List R) → length (put_new before same row xs) ≤ length xs + 1
new-length before same row xs =
    new-all (λ ys. length ys ≤ length xs + 1) before same row xs (omega arith) (put-length before same row xs)

count-first : {R : Type 0} (p : R → Bool) (x : R) (xs : List R) → count_by p (x ∷ xs) ≡ cond (p x) 1 0 + count_by p xs
count-first p x xs = sum_by-cons (λ y. cond (p y) 1 0) x xs

count-stead : {R : Type 0} (p : R → Bool) (row x : R) (xs : List R) → count_by p (row ∷ xs) ≤ count_by p (x ∷ xs) + cond (p row) 1 0
count-stead p row x xs =
    let own = count-first p row xs in
    let before = count-first p x xs in
    omega (arith, own, before)

count-ahead : {R : Type 0} (p : R → Bool) (row x : R) (xs : List R) → count_by p (row ∷ x ∷ xs) ≤ count_by p (x ∷ xs) + cond (p row) 1 0
count-ahead p row x xs = let own = count-first p row (x ∷ xs) in omega (arith, own)

count-behind : {R : Type 0} (p : R → Bool) (row x : R) (xs ys : List R) → count_by p ys ≤ count_by p xs + cond (p row) 1 0 → count_by p (x ∷ ys) ≤ count_by p (x ∷ xs) + cond (p row) 1 0
count-behind p row x xs ys rest =
    let after = count-first p x ys in
    let before = count-first p x xs in
    omega (arith, rest, after, before)

put-count : {R : Type 0} (p before same : R → Bool) (row : R) (xs : List R) → count_by p (put_row before same row xs) ≤ count_by p xs + cond (p row) 1 0
put-count p before same row [] = omega arith
put-count p before same row (x ∷ xs) =
    elim (before x) as (λ b. count_by p (cond b (x ∷ put_row before same row xs) (cond (same x) (row ∷ xs) (row ∷ x ∷ xs))) ≤ count_by p (x ∷ xs) + cond (p row) 1 0) [
      | true ↦ count-behind p row x xs (put_row before same row xs) (put-count p before same row xs)
      | false ↦
          elim (same x) as (λ b. count_by p (cond b (row ∷ xs) (row ∷ x ∷ xs)) ≤ count_by p (x ∷ xs) + cond (p row) 1 0) [
            | true ↦ count-stead p row x xs
            | false ↦ count-ahead p row x xs
          ]
    ]

pub new-count : {R : Type 0} (p before same : R → Bool) (row : R) (xs : List R) → count_by p (put_new before same row xs) ≤ count_by p xs + cond (p row) 1 0
new-count p before same row xs =
    new-all (λ ys. count_by p ys ≤ count_by p xs + cond (p row) 1 0) before same row xs (omega arith) (put-count p before same row xs)

-- Gains over two rising lists of classes are the same where the lists differ only in classes that don't change.
use Rattle.std.proofs.Common.{Bool, List, None, Option, [], ap, arith, cond, false, inl, inr, length, nat_eq, refl, sym, ltb, true, ℕ, ◌+◌, ◌<◌, ◌==◌, ◌||◌, ◌∙◌, ◌∷◌, ◌≡◌, ◌≤◌, ◌⊎◌, suc, zero}
use Rattle.std.specs.List.{AllByRecursion, cons_option, filter_map, list_any}
use Rattle.std.specs.List.Sorted.{IsStrictlySortedBy}
use Rattle.std.specs.Ordering.{nat_cmp}
use Rattle.std.specs.declared.cmp.Ordering.TheVariants.{Equal, Greater, Less}
use Rattle.std.proofs.lemmas.Bool.{ltb-false, ltb-true, true≢false}
use Rattle.std.proofs.lemmas.Bool.Decides.{eqb_tells}
use Rattle.std.proofs.lemmas.Map.Keys.{sorted_head, sorted_tail}

less-below : (a b : ℕ) → nat_cmp a b ≡ Less → a < b
less-below a b less =
    elim (ltb a b) as (λ v. ltb a b ≡ v → cond v Less (cond (a == b) Equal Greater) ≡ Less → a < b) [
      | true ↦ λ is e. ltb-true a b is
      | false ↦ λ is e. absurd (neither (a == b) e)
    ] refl less
  where
    neither : (v : Bool) → cond v Equal Greater ≡ Less → ⊥
    neither true e = cc
    neither false e = cc

-- no number up to n is among those above n
pub none-up_to : (n q : ℕ) → q ≤ n → (ns : List ℕ) → AllByRecursion (λ m. nat_cmp n m ≡ Less) ns → list_any (nat_eq q) ns ≡ false
none-up_to n q low [] above = refl
none-up_to n q low (m ∷ ns) above =
    elim (eqb_tells q m) [
      | inl (is, same) ↦ absurd (omega (arith, same, less-below n m above.0))
      | inr (is, apart) ↦ ap (λ b. b || list_any (nat_eq q) ns) is ∙ none-up_to n q low ns above.1
    ]

-- the two lists have the classes that f has
abbrev pub Agree : {X : Type 0} → (ℕ → Option X) → List ℕ → List ℕ → Type 0
Agree f ns ms = (q : ℕ) → (f q ≡ None) ⊎ (list_any (nat_eq q) ns ≡ list_any (nat_eq q) ms)

without-first : {X : Type 0} (f : ℕ → Option X) (n : ℕ) (ns : List ℕ) → f n ≡ None → filter_map f (n ∷ ns) ≡ filter_map f ns
without-first f n ns none = ap (λ o. cons_option o (filter_map f ns)) none

-- a first number that isn't in the other list has nothing, and it may go
first-alone : {X : Type 0} (f : ℕ → Option X) (n : ℕ) (ns ms : List ℕ) → list_any (nat_eq n) ms ≡ false → Agree f (n ∷ ns) ms → f n ≡ None
first-alone f n ns ms alone agree =
    elim (agree n) [
      | inl none ↦ none
      | inr same ↦ absurd (true≢false (sym (ap (λ b. b || list_any (nat_eq n) ns) (same_number n)) ∙ (same ∙ alone)))
    ]
  where
    same_number : (k : ℕ) → nat_eq k k ≡ true
    same_number k = elim (eqb_tells k k) [ inl (is, same) ↦ is | inr (is, apart) ↦ absurd (apart refl) ]

agree-without : {X : Type 0} (f : ℕ → Option X) (n : ℕ) (ns ms : List ℕ) → f n ≡ None → Agree f (n ∷ ns) ms → Agree f ns ms
agree-without f n ns ms none agree q =
    elim (eqb_tells q n) [
      | inl (is, same) ↦ inl (ap f same ∙ none)
      | inr (is, apart) ↦ elim (agree q) [
        | inl nothing ↦ inl nothing
        | inr same ↦ inr (sym (ap (λ b. b || list_any (nat_eq q) ns) is) ∙ same)
      ]
    ]

agree-turned : {X : Type 0} (f : ℕ → Option X) (ns ms : List ℕ) → Agree f ns ms → Agree f ms ns
agree-turned f ns ms agree q = elim (agree q) [ inl none ↦ inl none | inr same ↦ inr (sym same) ]

agree-both : {X : Type 0} (f : ℕ → Option X) (n m : ℕ) (ns ms : List ℕ) → n ≡ m → AllByRecursion (λ k. nat_cmp n k ≡ Less) ns → AllByRecursion (λ k. nat_cmp m k ≡ Less) ms → Agree f (n ∷ ns) (m ∷ ms) → Agree f ns ms
agree-both f n m ns ms one above over agree q =
    elim (eqb_tells q n) [
      | inl (is, same) ↦ inr (none-up_to n q (omega arith) ns above ∙ sym (none-up_to m q (omega arith) ms over))
      | inr (is, apart) ↦ elim (agree q) [
        | inl none ↦ inl none
        | inr same ↦ inr (sym (ap (λ b. b || list_any (nat_eq q) ns) is) ∙ (same ∙ ap (λ b. b || list_any (nat_eq q) ms) (ap (nat_eq q) (sym one) ∙ is)))
      ]
    ]

none-left : {X : Type 0} (f : ℕ → Option X) (ns : List ℕ) → Agree f ns [] → filter_map f ns ≡ []
none-left f [] agree = refl
none-left f (n ∷ ns) agree =
    let none = first-alone f n ns [] refl agree in
    without-first f n ns none ∙ none-left f ns (agree-without f n ns [] none agree)

below_cases : (a b : ℕ) → (a < b) ⊎ ((a ≡ b) ⊎ (b < a))
below_cases a b = elim (eqb_tells a b) [
  | inl (is, same) ↦ inr (inl same)
  | inr (is, apart) ↦ elim (ltb a b) as (λ v. ltb a b ≡ v → (a < b) ⊎ ((a ≡ b) ⊎ (b < a))) [
    | true ↦ λ e. inl (ltb-true a b e)
    | false ↦ λ e. inr (inr (omega (arith, ltb-false a b e)))
  ] refl
]

same-within : {X : Type 0} (f : ℕ → Option X) (k : ℕ) (ns ms : List ℕ) → length ns + length ms ≤ k → IsStrictlySortedBy nat_cmp ns → IsStrictlySortedBy nat_cmp ms → Agree f ns ms → filter_map f ns ≡ filter_map f ms
same-within f k [] ms fits up over agree = sym (none-left f ms (agree-turned f [] ms agree))
same-within f k (n ∷ ns) [] fits up over agree = none-left f (n ∷ ns) agree
same-within f zero (n ∷ ns) (m ∷ ms) fits up over agree = absurd (omega arith)
same-within f (suc k) (n ∷ ns) (m ∷ ms) fits up over agree =
    elim (below_cases n m) [
      | inl low ↦
          (let alone : list_any (nat_eq n) (m ∷ ms) ≡ false = not-first n m ms low (none-up_to m n (omega arith) ms (sorted_head nat_cmp m ms over)) in
          let none = first-alone f n ns (m ∷ ms) alone agree in
          without-first f n ns none
          ∙ same-within f k ns (m ∷ ms) (omega arith) (sorted_tail nat_cmp n ns up) over (agree-without f n ns (m ∷ ms) none agree))
      | inr (inl one) ↦
          (ap (λ q. cons_option (f q) (filter_map f ns)) one
          ∙ ap (cons_option (f m)) (same-within f k ns ms (omega arith) (sorted_tail nat_cmp n ns up) (sorted_tail nat_cmp m ms over) (agree-both f n m ns ms one (sorted_head nat_cmp n ns up) (sorted_head nat_cmp m ms over) agree)))
      | inr (inr high) ↦
          (let alone : list_any (nat_eq m) (n ∷ ns) ≡ false = not-first m n ns high (none-up_to n m (omega arith) ns (sorted_head nat_cmp n ns up)) in
          let turned = agree-turned f (n ∷ ns) (m ∷ ms) agree in
          let none = first-alone f m ms (n ∷ ns) alone turned in
          same-within f k (n ∷ ns) ms (omega arith) up (sorted_tail nat_cmp m ms over) (agree-turned f ms (n ∷ ns) (agree-without f m ms (n ∷ ns) none turned))
          ∙ sym (without-first f m ms none))
    ]
  where
    not-first : (a b : ℕ) (bs : List ℕ) → a < b → list_any (nat_eq a) bs ≡ false → list_any (nat_eq a) (b ∷ bs) ≡ false
    not-first a b bs low none = elim (eqb_tells a b) [
      | inl (is, same) ↦ absurd (omega (arith, same))
      | inr (is, apart) ↦ ap (λ v. v || list_any (nat_eq a) bs) is ∙ none
    ]

pub rising-same : {X : Type 0} (f : ℕ → Option X) (ns ms : List ℕ) → IsStrictlySortedBy nat_cmp ns → IsStrictlySortedBy nat_cmp ms → Agree f ns ms → filter_map f ns ≡ filter_map f ms
rising-same f ns ms up over agree = same-within f (length ns + length ms) ns ms (omega arith) up over agree

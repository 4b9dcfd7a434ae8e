-- The rows at rising places are those that pass, where each that passes is among them.
use Rattle.std.proofs.Common.{Bool, List, Option, Some, [], ap, append-nil, append_assoc, arith, cond, false, filter, inl, inr, length, length-append, refl, subst, suc, sym, true, ℕ, ◌++◌, ◌+◌, ◌∙◌, ◌∷◌, ◌≡◌, ◌≤◌, ◌||◌}
use Rattle.std.proofs.lemmas.Bool.{cases_lt, true≢false}
use Rattle.std.proofs.lemmas.Option.{slice_get_past}
use Rattle.std.specs.List.{cons_option, filter_map, slice_get}
use Rattle.std.specs.Prelude.{option_and_then}
use Rattle.order_book.proofs.Places.{got-behind}
use Rattle.register_laws.proofs.Comparisons.{eq-no}
use Rattle.register_machine.specs.journal.Choices.{when}
use Rattle.standing_orders.specs.Places.{RisesWithin, is_among}

-- the row at a place, where it passes
abbrev pub chosen_at : {X : Type 0} → (X → Bool) → List X → ℕ → Option X
chosen_at test rows place = option_and_then (λ row. when (test row) row) (slice_get rows place)

-- each that passes is among the places, which are counted from a place on
abbrev EachFrom : {X : Type 0} → (X → Bool) → ℕ → List X → List ℕ → Type 0
EachFrom {X} test from rows places = (k : ℕ) (row : X) → slice_get rows k ≡ Some row → test row ≡ true → is_among places (from + k) ≡ true

none-past : {X : Type 0} (test : X → Bool) (rows : List X) (to : ℕ) (places : List ℕ) (from : ℕ) → length rows ≤ from → RisesWithin from to places → filter_map (chosen_at test rows) places ≡ []
none-past test rows to [] from past rises = refl
none-past test rows to (p ∷ places) from past rises =
    ap (λ found. cons_option (option_and_then (λ row. when (test row) row) found) (filter_map (chosen_at test rows) places)) (slice_get_past rows p (omega (arith, past, rises.0)))
    ∙ none-past test rows to places (suc p) (omega (arith, past, rises.0)) rises.2

none-below : (from to : ℕ) (places : List ℕ) → RisesWithin (suc from) to places → is_among places from ≡ false
none-below from to [] rises = refl
none-below from to (p ∷ places) rises =
    ap (λ is. is || is_among places from) (eq-no from p (λ e. let high = rises.0 in omega (arith, e, high)))
    ∙ none-below-all from to p places rises.0 rises.2
  where
    none-below-all : (from to p : ℕ) (places : List ℕ) → suc from ≤ p → RisesWithin (suc p) to places → is_among places from ≡ false
    none-below-all from to p [] high rises = refl
    none-below-all from to p (q ∷ places) high rises =
        ap (λ is. is || is_among places from) (eq-no from q (λ e. let higher = rises.0 in omega (arith, e, high, higher)))
        ∙ none-below-all from to q places (let higher = rises.0 in omega (arith, high, higher)) rises.2

pub picked : {X : Type 0} (test : X → Bool) (before rows : List X) (to : ℕ) (places : List ℕ) → RisesWithin (length before) to places → EachFrom test (length before) rows places → filter_map (chosen_at test (before ++ rows)) places ≡ filter test rows
picked test before [] to places rises each =
    ap (λ all. filter_map (chosen_at test all) places) (append-nil before)
    ∙ none-past test before to places (length before) (omega arith) rises
picked {X} test before (row ∷ rows) to places rises each = by_places (λ later up all. picked test (before ++ row ∷ []) rows to later up all) places rises each
  where
    here : ℕ
    here = length before

    Again : Type 0
    Again = (later : List ℕ) → RisesWithin (length (before ++ row ∷ [])) to later → EachFrom test (length (before ++ row ∷ [])) rows later → filter_map (chosen_at test ((before ++ row ∷ []) ++ rows)) later ≡ filter test rows

    one-more : length (before ++ row ∷ []) ≡ suc here
    one-more = omega (arith, length-append before (row ∷ []))

    -- the rest, once the place of this row is behind
    rest : Again → (later : List ℕ) → RisesWithin (suc here) to later → ((k : ℕ) (r : X) → slice_get rows k ≡ Some r → test r ≡ true → is_among later (suc here + k) ≡ true) → filter_map (chosen_at test (before ++ row ∷ rows)) later ≡ filter test rows
    rest again later above all =
        ap (λ whole. filter_map (chosen_at test whole) later) (sym (append_assoc before (row ∷ []) rows))
        ∙ again later (subst (λ n. RisesWithin n to later) (sym one-more) above)
        (λ k r there passes. subst (λ n. is_among later (n + k) ≡ true) (sym one-more) (all k r there passes))

    shift : (k : ℕ) → here + suc k ≡ suc here + k
    shift k = omega arith

    -- the row isn't among the places, so it doesn't pass
    skips : Again → (later : List ℕ) → RisesWithin (suc here) to later → EachFrom test here (row ∷ rows) later → filter_map (chosen_at test (before ++ row ∷ rows)) later ≡ filter test (row ∷ rows)
    skips again later above all =
        rest again later above (λ k r there passes. subst (λ n. is_among later n ≡ true) (shift k) (all (suc k) r there passes))
        ∙ sym (ap (λ is. cond is (row ∷ filter test rows) (filter test rows)) (fails (test row) refl))
      where
        zeroth : here + 0 ≡ here
        zeroth = omega arith

        fails : (is : Bool) → test row ≡ is → is ≡ false
        fails false e = refl
        fails true e = absurd (true≢false (sym (all 0 row refl e) ∙ (ap (is_among later) zeroth ∙ none-below here to later above)))

    takes : Again → (later : List ℕ) → RisesWithin (suc here) to later → EachFrom test here (row ∷ rows) (here ∷ later) → filter_map (chosen_at test (before ++ row ∷ rows)) (here ∷ later) ≡ filter test (row ∷ rows)
    takes again later above all =
        ap (λ found. cons_option (option_and_then (λ r. when (test r) r) found) (filter_map (chosen_at test (before ++ row ∷ rows)) later)) (got-behind before row rows)
        ∙ (ap (λ back. cons_option (when (test row) row) back) (rest again later above behind)
        ∙ by_test (test row))
      where
        behind : (k : ℕ) (r : X) → slice_get rows k ≡ Some r → test r ≡ true → is_among later (suc here + k) ≡ true
        behind k r there passes =
            subst (λ n. is_among later n ≡ true) (shift k)
            (sym (ap (λ is. is || is_among later (here + suc k)) (eq-no (here + suc k) here (λ e. omega (arith, e)))) ∙ all (suc k) r there passes)

        by_test : (is : Bool) → cons_option (when is row) (filter test rows) ≡ cond is (row ∷ filter test rows) (filter test rows)
        by_test true = refl
        by_test false = refl

    by_places : Again → (places : List ℕ) → RisesWithin here to places → EachFrom test here (row ∷ rows) places → filter_map (chosen_at test (before ++ row ∷ rows)) places ≡ filter test (row ∷ rows)
    by_places again [] up all = skips again [] tt all
    by_places again (p ∷ later) up all = elim (cases_lt here p) [
      | inl low ↦ skips again (p ∷ later) (low, up.1, up.2) all
      | inr ge ↦
          let same : p ≡ here = let high = up.0 in omega (arith, ge, high) in
          subst (λ n. RisesWithin (suc n) to later → EachFrom test here (row ∷ rows) (n ∷ later) → filter_map (chosen_at test (before ++ row ∷ rows)) (n ∷ later) ≡ filter test (row ∷ rows)) (sym same) (takes again later) up.2 all
    ]

-- over a whole list
pub picked-all : {X : Type 0} (test : X → Bool) (rows : List X) (to : ℕ) (places : List ℕ) → RisesWithin 0 to places → ((k : ℕ) (row : X) → slice_get rows k ≡ Some row → test row ≡ true → is_among places k ≡ true) → filter_map (chosen_at test rows) places ≡ filter test rows
picked-all test rows to places rises each = picked test [] rows to places rises (λ k row there passes. subst (λ n. is_among places n ≡ true) (from-start k) (each k row there passes))
  where
    from-start : (k : ℕ) → k ≡ 0 + k
    from-start k = omega arith

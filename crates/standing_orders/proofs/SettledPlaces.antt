-- One place of some that rise is taken out, or stays.
use Rattle.std.proofs.Common.{Bool, Err, List, Ok, Result, [], ap, arith, cond, false, get_or, length, nat_lt, not, refl, subst, suc, sym, true, zero, ℕ, ◌<◌, ◌==◌, ◌||◌, ◌∙◌, ◌∷◌, ◌≡◌, ◌≢◌, ◌≤◌}
use Rattle.std.proofs.lemmas.Bool.{eqb-true, ltb-false, ltb-true}
use Rattle.std.proofs.lemmas.List.Sorted.{searched}
use Rattle.std.specs.List.{remove}
use Rattle.std.specs.List.Sorted.{IsBinarySearchResult}
use Rattle.std.specs.Ordering.{nat_cmp}
use Rattle.agent_events.specs.declared.order.OrderRow.{OrderRow}
use Rattle.register_laws.proofs.Comparisons.{eq-no, eq-yes}
use Rattle.standing_orders.proofs.PricedOrders.{or-first, or-second}
use Rattle.standing_orders.proofs.RisingPlaces.{ascends, least-first}
use Rattle.standing_orders.specs.Places.{RisesWithin, is_other_or_passes, passes_at, with_settled, without_place}

-- nothing is taken out where it isn't among them
none-taken : (place : ℕ) (xs : List ℕ) → ((k : ℕ) → k < length xs → get_or xs k 0 ≢ place) → without_place place xs ≡ xs
none-taken place [] apart = refl
none-taken place (x ∷ xs) apart =
    ap (λ is. cond (not is) (x ∷ without_place place xs) (without_place place xs)) (eq-no x place (apart 0 (omega arith)))
    ∙ ap (λ later. x ∷ later) (none-taken place xs (λ k short. apart (suc k) (omega (arith, short))))

-- one that stands there is all that goes
taken-at : (place at from to : ℕ) (xs : List ℕ) → RisesWithin from to xs → at < length xs → get_or xs at 0 ≡ place → remove xs at ≡ without_place place xs
taken-at place at from to [] rises short there = absurd (omega (arith, short))
taken-at place zero from to (x ∷ xs) rises short there =
    sym (ap (λ is. cond (not is) (x ∷ without_place place xs) (without_place place xs)) (eq-yes x place there)
    ∙ none-taken place xs (λ k within same. let low = least-first (suc x) to xs k rises.2 within in omega (arith, low, same, there)))
taken-at place (suc at) from to (x ∷ xs) rises short there =
    let low = least-first (suc x) to xs at rises.2 (omega (arith, short)) in
    ap (λ later. x ∷ later) (taken-at place at (suc x) to xs rises.2 (omega (arith, short)) there)
    ∙ sym (ap (λ is. cond (not is) (x ∷ without_place place xs) (without_place place xs)) (eq-no x place (λ same. omega (arith, low, same, there))))

-- ---- what a search finds

pub taken-found : (place to : ℕ) (xs shown : List ℕ) (at : ℕ) (found : Result ℕ ℕ) → shown ≡ xs → RisesWithin 0 to xs → IsBinarySearchResult (λ y. nat_cmp y place) shown found → found ≡ Ok at → (at < length xs) × (remove xs at ≡ without_place place xs)
taken-found place to xs shown at found shown_is rises result is =
    let facts = searched xs place (Ok at) (subst (λ (r : Result ℕ ℕ). IsBinarySearchResult (λ y. nat_cmp y place) xs r) is (subst (λ ys. IsBinarySearchResult (λ y. nat_cmp y place) ys found) shown_is result)) (ascends 0 to xs rises) in
    (facts.0, taken-at place at 0 to xs rises facts.0 facts.1)

pub none-found : (place to : ℕ) (xs shown : List ℕ) (at : ℕ) (found : Result ℕ ℕ) → shown ≡ xs → RisesWithin 0 to xs → IsBinarySearchResult (λ y. nat_cmp y place) shown found → found ≡ Err at → without_place place xs ≡ xs
none-found place to xs shown at found shown_is rises result is =
    let facts = searched xs place (Err at) (subst (λ (r : Result ℕ ℕ). IsBinarySearchResult (λ y. nat_cmp y place) xs r) is (subst (λ ys. IsBinarySearchResult (λ y. nat_cmp y place) ys found) shown_is result)) (ascends 0 to xs rises) in
    none-taken place xs (λ k short same. by k short same (facts.1 k) (facts.2 k))
  where
    by : (k : ℕ) → k < length xs → get_or xs k 0 ≡ place → (k < at → get_or xs k 0 < place) → (at ≤ k → k < length xs → place < get_or xs k 0) → ⊥
    by k short same less more = by_side (nat_lt k at) refl
      where
        by_side : (is : Bool) → nat_lt k at ≡ is → ⊥
        by_side true e = let low = less (ltb-true k at e) in omega (arith, low, same)
        by_side false e = let high = more (ltb-false k at e) short in omega (arith, high, same)

-- ---- one is settled

module _ (test : OrderRow → Bool) (rows : List OrderRow) (place : ℕ) where
  -- where it passes all stay
  pub settled-stays : passes_at test rows place ≡ true → (xs : List ℕ) → with_settled test rows place xs ≡ xs
  settled-stays on [] = refl
  settled-stays on (x ∷ xs) =
      ap (λ is. cond is (x ∷ with_settled test rows place xs) (with_settled test rows place xs)) (by (x == place) refl)
      ∙ ap (λ later. x ∷ later) (settled-stays on xs)
    where
      by : (b : Bool) → (x == place) ≡ b → is_other_or_passes test rows place x ≡ true
      by true e = or-second (not (x == place)) (passes_at test rows x) (ap (passes_at test rows) (eqb-true x place e) ∙ on)
      by false e = or-first (not (x == place)) (passes_at test rows x) (ap not e)

  -- and else it alone leaves
  pub settled-leaves : passes_at test rows place ≡ false → (xs : List ℕ) → with_settled test rows place xs ≡ without_place place xs
  settled-leaves off [] = refl
  settled-leaves off (x ∷ xs) =
      ap (λ is. cond is (x ∷ with_settled test rows place xs) (with_settled test rows place xs)) (by (x == place) refl)
      ∙ ap (λ later. cond (not (x == place)) (x ∷ later) later) (settled-leaves off xs)
    where
      by : (b : Bool) → (x == place) ≡ b → is_other_or_passes test rows place x ≡ not (x == place)
      by true e =
          ap (λ is. not is || passes_at test rows x) e
          ∙ (ap (passes_at test rows) (eqb-true x place e) ∙ (off ∙ sym (ap not e)))
      by false e = ap (λ is. not is || passes_at test rows x) e ∙ sym (ap not e)

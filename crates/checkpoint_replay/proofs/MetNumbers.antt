-- The numbers of orders, each once: they differ, and no order has another number.
use Rattle.checkpoint_replay.specs.NumberedRows.{numbers_met}
use Rattle.checkpoint_replay.specs.Replays.{NumberedOrder, orders_under}
use Rattle.std.proofs.Common.{Bool, List, [], ap, cond, eqb-true, false, filter, map, nat_eq, not, refl, sym, true, true≢false, ℕ, ◌==◌, ◌∙◌, ◌∷◌, ◌≡◌, ◌||◌}
use Rattle.std.proofs.lemmas.Map.Keys.{IsDistinct-cons, IsDistinct-head, IsDistinct-tail}
use Rattle.std.specs.Cmp.{nat_eq_equiv}
use Rattle.std.specs.List.{AllByRecursion, IsDistinct, list_any}

flipped : (a b : ℕ) → nat_eq a b ≡ nat_eq b a
flipped a b = nat_eq_equiv.symm a b

filtered-apart : (number : ℕ) (xs : List ℕ) → AllByRecursion (λ other. nat_eq number other ≡ false) (filter (λ other. not (other == number)) xs)
filtered-apart number [] = tt
filtered-apart number (x ∷ xs) = by_same (x == number) refl (filtered-apart number xs)
  where
    by_same : (b : Bool) → (x == number) ≡ b → AllByRecursion (λ other. nat_eq number other ≡ false) (filter (λ other. not (other == number)) xs) → AllByRecursion (λ other. nat_eq number other ≡ false) (cond (not b) (x ∷ filter (λ other. not (other == number)) xs) (filter (λ other. not (other == number)) xs))
    by_same true is rest = rest
    by_same false is rest = (flipped number x ∙ is, rest)

all-filtered : (P : ℕ → Type 0) (p : ℕ → Bool) (xs : List ℕ) → AllByRecursion P xs → AllByRecursion P (filter p xs)
all-filtered P p [] all = tt
all-filtered P p (x ∷ xs) all = by_pass (p x) (all-filtered P p xs all.1)
  where
    by_pass : (b : Bool) → AllByRecursion P (filter p xs) → AllByRecursion P (cond b (x ∷ filter p xs) (filter p xs))
    by_pass true rest = (all.0, rest)
    by_pass false rest = rest

distinct-filtered : (p : ℕ → Bool) (xs : List ℕ) → IsDistinct nat_eq xs → IsDistinct nat_eq (filter p xs)
distinct-filtered p [] distinct = distinct
distinct-filtered p (x ∷ xs) distinct = by_pass (p x) (distinct-filtered p xs (IsDistinct-tail nat_eq x xs distinct))
  where
    by_pass : (b : Bool) → IsDistinct nat_eq (filter p xs) → IsDistinct nat_eq (cond b (x ∷ filter p xs) (filter p xs))
    by_pass true rest = IsDistinct-cons nat_eq x (filter p xs) (all-filtered (λ other. nat_eq x other ≡ false) p xs (IsDistinct-head nat_eq x xs distinct)) rest
    by_pass false rest = rest

no-number : IsDistinct nat_eq []
unfolding IsDistinct
no-number = tt

pub met-distinct : (rows : List NumberedOrder) → IsDistinct nat_eq (numbers_met rows)
met-distinct [] = no-number
met-distinct (row ∷ rows) =
    IsDistinct-cons nat_eq row.number (filter (λ number. not (number == row.number)) (numbers_met rows))
    (filtered-apart row.number (numbers_met rows)) (distinct-filtered (λ number. not (number == row.number)) (numbers_met rows) (met-distinct rows))

any-filtered : (household number : ℕ) (xs : List ℕ) → nat_eq household number ≡ false → list_any (nat_eq household) (filter (λ other. not (other == number)) xs) ≡ list_any (nat_eq household) xs
any-filtered household number [] apart = refl
any-filtered household number (x ∷ xs) apart = by_same (x == number) refl (any-filtered household number xs apart)
  where
    by_same : (b : Bool) → (x == number) ≡ b → list_any (nat_eq household) (filter (λ other. not (other == number)) xs) ≡ list_any (nat_eq household) xs → list_any (nat_eq household) (cond (not b) (x ∷ filter (λ other. not (other == number)) xs) (filter (λ other. not (other == number)) xs)) ≡ (nat_eq household x || list_any (nat_eq household) xs)
    by_same true is rest =
        rest
        ∙ sym (ap (λ b. b || list_any (nat_eq household) xs) (ap (nat_eq household) (eqb-true x number is) ∙ apart))
    by_same false is rest = ap (λ b. nat_eq household x || b) rest

pub met-covers : (rows : List NumberedOrder) (household : ℕ) → list_any (nat_eq household) (numbers_met rows) ≡ false → orders_under household rows ≡ []
met-covers [] household missing = refl
met-covers (row ∷ rows) household missing = by_number (nat_eq household row.number) refl (λ none. met-covers rows household none) missing
  where
    by_number : (b : Bool) → nat_eq household row.number ≡ b → (list_any (nat_eq household) (numbers_met rows) ≡ false → orders_under household rows ≡ []) → (b || list_any (nat_eq household) (filter (λ number. not (number == row.number)) (numbers_met rows))) ≡ false → orders_under household (row ∷ rows) ≡ []
    by_number true is rest none = absurd (true≢false none)
    by_number false is rest none =
        ap (λ b. map (λ (r : NumberedOrder). r.order) (cond b (row ∷ filter (λ (r : NumberedOrder). r.number == household) rows) (filter (λ (r : NumberedOrder). r.number == household) rows))) (flipped row.number household ∙ is)
        ∙ rest (sym (any-filtered household row.number (numbers_met rows) is) ∙ none)

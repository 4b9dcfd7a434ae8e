-- The first place at which one test passes is the first at which a wider one does, where that passes once at most.
use Rattle.std.proofs.Common.{Bool, List, None, Option, Some, [], ap, arith, cond, false, filter, length, nat_lt, not, option_map, position, refl, slice_get, suc, sym, true, ℕ, ◌+◌, ◌∙◌, ◌∷◌, ◌≡◌, ◌≤◌}
use Rattle.std.proofs.lemmas.Bool.{true≢false}
use Rattle.std.proofs.lemmas.Bool.Decides.{nat_tests}
use Rattle.std.specs.List.{prefix_len}
use Rattle.std.specs.Option.{option_map_or}
use Rattle.std.specs.Prelude.{option_and_then}
use Rattle.register_machine.specs.journal.Choices.{when}
use Rattle.request_rules.proofs.LookUps.{below-next}

below-first : (m : ℕ) → nat_lt 0 (suc m) ≡ true
below-first m = grind (arith, nat_tests)

one-more : (n : ℕ) → 1 + n ≡ suc n
one-more n = omega arith

pub place-cons : {X : Type 0} (test : X → Bool) (x : X) (xs : List X) → position test (x ∷ xs) ≡ cond (test x) (Some 0) (option_map suc (position test xs))
place-cons {X = X} test x xs = by_test (test x)
  where
    later : (b : Bool) → cond b (Some (1 + prefix_len (λ (y : X). not (test y)) xs)) None ≡ option_map suc (cond b (Some (prefix_len (λ (y : X). not (test y)) xs)) None)
    later true = ap Some (one-more (prefix_len (λ (y : X). not (test y)) xs))
    later false = refl

    by_test : (b : Bool) → cond (nat_lt (cond (not b) (1 + prefix_len (λ (y : X). not (test y)) xs) 0) (suc (length xs))) (Some (cond (not b) (1 + prefix_len (λ (y : X). not (test y)) xs) 0)) None ≡ cond b (Some 0) (option_map suc (cond (nat_lt (prefix_len (λ (y : X). not (test y)) xs) (length xs)) (Some (prefix_len (λ (y : X). not (test y)) xs)) None))
    by_test true = ap (λ (b : Bool). cond b (Some 0) None) (below-first (length xs))
    by_test false =
        ap (λ (b : Bool). cond b (Some (1 + prefix_len (λ (y : X). not (test y)) xs)) None) (below-next (prefix_len (λ (y : X). not (test y)) xs) (length xs))
        ∙ later (nat_lt (prefix_len (λ (y : X). not (test y)) xs) (length xs))

-- the place, where what stands there passes
abbrev pub passing : {X : Type 0} → (X → Bool) → List X → ℕ → Option ℕ
passing test xs place = when (option_map_or test (slice_get xs place) false) place

abbrev pub first_passing : {X : Type 0} → (X → Bool) → (X → Bool) → List X → Option ℕ
first_passing narrow wide xs = option_and_then (passing narrow xs) (position wide xs)

-- where the wider test passes nowhere, neither does the narrower
none-left : {X : Type 0} (narrow wide : X → Bool) (xs : List X) → ((x : X) → narrow x ≡ true → wide x ≡ true) → length (filter wide xs) ≡ 0 → position narrow xs ≡ None
none-left narrow wide [] within none = refl
none-left {X = X} narrow wide (x ∷ xs) within none =
    place-cons narrow x xs ∙ by_test (narrow x) (wide x) refl refl none (none-left narrow wide xs within)
  where
    by_test : (n w : Bool) → narrow x ≡ n → wide x ≡ w → length (cond w (x ∷ filter wide xs) (filter wide xs)) ≡ 0 → (length (filter wide xs) ≡ 0 → position narrow xs ≡ None) → cond n (Some 0) (option_map suc (position narrow xs)) ≡ None
    by_test n true e h some later = absurd (omega arith)
    by_test true false e h none later = absurd (true≢false (sym (within x e) ∙ h))
    by_test false false e h none later = ap (option_map suc) (later none)

pub first_narrow : {X : Type 0} (narrow wide : X → Bool) (xs : List X) → ((x : X) → narrow x ≡ true → wide x ≡ true) → length (filter wide xs) ≤ 1 → position narrow xs ≡ first_passing narrow wide xs
first_narrow narrow wide [] within few = refl
first_narrow {X = X} narrow wide (x ∷ xs) within few =
    place-cons narrow x xs
    ∙ (by_test (narrow x) (wide x) refl refl few (none-left narrow wide xs within) (first_narrow narrow wide xs within)
    ∙ sym (ap (option_and_then (passing narrow (x ∷ xs))) (place-cons wide x xs)))
  where
    moved : (b : Bool) (place : ℕ) → option_map suc (when b place) ≡ when b (suc place)
    moved true place = refl
    moved false place = refl

    behind : (found : Option ℕ) → option_map suc (option_and_then (passing narrow xs) found) ≡ option_and_then (passing narrow (x ∷ xs)) (option_map suc found)
    behind None = refl
    behind (Some place) = moved (option_map_or narrow (slice_get xs place) false) place

    by_test : (n w : Bool) → narrow x ≡ n → wide x ≡ w → length (cond w (x ∷ filter wide xs) (filter wide xs)) ≤ 1 → (length (filter wide xs) ≡ 0 → position narrow xs ≡ None) → (length (filter wide xs) ≤ 1 → position narrow xs ≡ first_passing narrow wide xs) → cond n (Some 0) (option_map suc (position narrow xs)) ≡ option_and_then (passing narrow (x ∷ xs)) (cond w (Some 0) (option_map suc (position wide xs)))
    by_test true true e h few none later = sym (ap (λ (b : Bool). when b 0) e)
    by_test true false e h few none later = absurd (true≢false (sym (within x e) ∙ h))
    by_test false true e h few none later =
        ap (option_map suc) (none (omega arith)) ∙ sym (ap (λ (b : Bool). when b 0) e)
    by_test false false e h few none later = ap (option_map suc) (later few) ∙ behind (position wide xs)

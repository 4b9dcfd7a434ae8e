-- A test of each item, as a loop over the items goes.
use Rattle.std.proofs.Common.{◌≡◌, ℕ, zero, suc, ◌<◌, Bool, true, false, List, [], ◌∷◌, length, get_or, take, refl, arith}
use Rattle.std.specs.Prelude.{◌&&◌}
use Rattle.std.specs.List.{list_all}

and_false : (b : Bool) → (b && false) ≡ false
and_false true = refl
and_false false = refl

both_pass : (a b more : Bool) → (a && b) ≡ true → (b ≡ true → more ≡ true) → (a && more) ≡ true
both_pass true b more before next = next before
both_pass false b more before next = absurd cc

-- one that fails makes all fail
pub one_fails : {A : Type 0} (test : A → Bool) (xs : List A) (i : ℕ) (x : A) → i < length xs → x ≡ get_or xs i x → test x ≡ false → list_all test xs ≡ false
one_fails test [] i x lt is fails = absurd (omega arith)
one_fails test (y ∷ xs) zero x lt is fails = rw (← is, fails) refl
one_fails test (y ∷ xs) (suc i) x lt is fails = rw (one_fails test xs i x (omega arith) is fails) (and_false (test y))

-- one more that passes
pub one_more : {A : Type 0} (test : A → Bool) (xs : List A) (i : ℕ) (x : A) → i < length xs → x ≡ get_or xs i x → list_all test (take i xs) ≡ true → test x ≡ true → list_all test (take (suc i) xs) ≡ true
one_more test [] i x lt is before passes = absurd (omega arith)
one_more test (y ∷ xs) zero x lt is before passes = rw (← is, passes) refl
one_more test (y ∷ xs) (suc i) x lt is before passes = both_pass (test y) (list_all test (take i xs)) (list_all test (take (suc i) xs)) before (λ rest. one_more test xs i x (omega arith) is rest passes)

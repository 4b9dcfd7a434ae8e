-- The first place at which something passes, in a list that goes on by one.
use Rattle.std.proofs.Common.{Bool, List, None, Option, Some, [], ap, append_assoc, arith, cond, false, find, length, length-append, refl, sym, true, zero-add, ℕ, ◌++◌, ◌+◌, ◌∙◌, ◌∷◌, ◌≡◌, ◌||◌}
use Rattle.std.proofs.lemmas.Iterator.Adapters.{position_from-zero}
use Rattle.std.specs.List.{position, position_from, slice_get}
use Rattle.std.specs.Option.{option_or, unwrap_or}
use Rattle.std.specs.Prelude.{option_and_then}
use Rattle.register_machine.proofs.FoundFacts.{option_or-none}

from-more : {X : Type 0} (test : X → Bool) (place : ℕ) (xs : List X) (x : X) → position_from test place (xs ++ x ∷ []) ≡ option_or (position_from test place xs) (cond (test x) (Some (place + length xs)) None)
from-more {X} test place [] x = ap (λ at. cond (test x) (Some at) None) at
  where
    at : place ≡ place + length {A = X} []
    at = omega arith
from-more {X} test place (y ∷ xs) x = by_test (test y) (from-more test (place + 1) xs x)
  where
    at : place + 1 + length xs ≡ place + length (y ∷ xs)
    at = omega arith

    by_test : (is : Bool) → position_from test (place + 1) (xs ++ x ∷ []) ≡ option_or (position_from test (place + 1) xs) (cond (test x) (Some (place + 1 + length xs)) None) → cond is (Some place) (position_from test (place + 1) (xs ++ x ∷ [])) ≡ option_or (cond is (Some place) (position_from test (place + 1) xs)) (cond (test x) (Some (place + length (y ∷ xs))) None)
    by_test true rest = refl
    by_test false rest = rest ∙ ap (λ n. option_or (position_from test (place + 1) xs) (cond (test x) (Some n) None)) at

-- one more: the first place stays, or else it is the new one
pub position-more : {X : Type 0} (test : X → Bool) (xs : List X) (x : X) → position test (xs ++ x ∷ []) ≡ option_or (position test xs) (cond (test x) (Some (length xs)) None)
position-more {X} test xs x =
    position_from-zero test (xs ++ x ∷ [])
    ∙ (from-more test 0 xs x
    ∙ (ap (λ n. option_or (position_from test 0 xs) (cond (test x) (Some n) None)) (zero-add (length xs))
    ∙ ap (λ (found : Option ℕ). option_or found (cond (test x) (Some (length xs)) None)) (sym (position_from-zero test xs))))

-- one of two, put one after the other
pub or-twice : {X : Type 0} (found : Option X) (a b : Bool) (x : X) → option_or (option_or found (cond a (Some x) None)) (cond b (Some x) None) ≡ option_or found (cond (a || b) (Some x) None)
or-twice (Some y) a b x = refl
or-twice None true b x = refl
or-twice None false b x = refl

-- behind what stands before, the first of the rest is at the length of what stands before
pub got-behind : {X : Type 0} (before : List X) (x : X) (later : List X) → slice_get (before ++ x ∷ later) (length before) ≡ Some x
got-behind [] x later = refl
got-behind (y ∷ before) x later = got-behind before x later

find-from : {X : Type 0} (test : X → Bool) (before later : List X) → find test later ≡ option_and_then (slice_get (before ++ later)) (position_from test (length before) later)
find-from test before [] = refl
find-from {X} test before (x ∷ later) = by_test (test x) (find-from test (before ++ x ∷ []) later)
  where
    at : length (before ++ x ∷ []) ≡ length before + 1
    at = omega (arith, length-append before (x ∷ []))

    by_test : (is : Bool) → find test later ≡ option_and_then (slice_get ((before ++ x ∷ []) ++ later)) (position_from test (length (before ++ x ∷ [])) later) → cond is (Some x) (find test later) ≡ option_and_then (slice_get (before ++ x ∷ later)) (cond is (Some (length before)) (position_from test (length before + 1) later))
    by_test true rest = sym (got-behind before x later)
    by_test false rest =
        rest
        ∙ (ap (λ all. option_and_then (slice_get all) (position_from test (length (before ++ x ∷ [])) later)) (append_assoc before (x ∷ []) later)
        ∙ ap (λ n. option_and_then (slice_get (before ++ x ∷ later)) (position_from test n later)) at)

-- the first that passes stands at the first place
pub find-at-position : {X : Type 0} (test : X → Bool) (xs : List X) → find test xs ≡ option_and_then (slice_get xs) (position test xs)
find-at-position test xs = find-from test [] xs ∙ ap (λ found. option_and_then (slice_get xs) found) (sym (position_from-zero test xs))

some-or : {X : Type 0} (found : Option X) (x kept : X) → kept ≡ unwrap_or found x
    → Some kept ≡ option_or found (Some x)
some-or None x kept is = ap Some is
some-or (Some y) x kept is = ap Some is

-- what stands at a key once it keeps what stood there, or else has what is put
pub put-or-kept : {K X : Type 0} (same : K → K → Bool) → ((a b : K) → same a b ≡ true → a ≡ b)
    → (old new : K → Option X) (key : K) (x kept : X) → kept ≡ unwrap_or (old key) x
    → ((q : K) → new q ≡ cond (same key q) (Some kept) (old q))
    → (q : K) → new q ≡ option_or (old q) (cond (same key q) (Some x) None)
put-or-kept {K} {X} same one old new key x kept is put q = put q ∙ by_test (same key q) refl
  where
    by_test : (test : Bool) → same key q ≡ test
        → cond test (Some kept) (old q) ≡ option_or (old q) (cond test (Some x) None)
    by_test true e =
        some-or (old key) x kept is
        ∙ ap (λ (found : Option X). option_or found (Some x)) (ap old (one key q e))
    by_test false e = sym (option_or-none (old q))

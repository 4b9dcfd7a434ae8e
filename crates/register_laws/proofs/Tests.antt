-- Tests over lists: what some item passes, what all pass, and the last that passes.
use Rattle.std.proofs.Common.{Bool, List, None, Some, [], ap, arith, cond, false, filter, find, fold, is_some, length, length-append, map, not, refl, sym, true, ◌&&◌, ◌++◌, ◌+◌, ◌||◌, ◌∙◌, ◌∷◌, ◌≡◌, ◌≤◌}
use Rattle.std.proofs.lemmas.Bool.{and_parts, or_parts, true≢false}
use Rattle.std.proofs.lemmas.List.Elements.{filter-append}
use Rattle.std.proofs.lemmas.List.Folds.{list_any-append}
use Rattle.std.proofs.lemmas.List.Sums.{fold-append}
use Rattle.std.specs.List.{list_all, list_any}
use Rattle.agent_events.specs.Fields.{within}
use Rattle.forward_price.proofs.TurnFacts.{never}
use Rattle.register_machine.specs.journal.Choices.{last_of}

pub not-true : (b : Bool) → not b ≡ true → b ≡ false
not-true true e = sym e
not-true false e = refl

pub late-true : (b : Bool) → (b || true) ≡ true
late-true true = refl
late-true false = refl

pub find-any : {X : Type 0} (test : X → Bool) (xs : List X) → is_some (find test xs) ≡ list_any test xs
find-any test [] = refl
find-any test (x ∷ xs) = by_test (test x) (find-any test xs)
  where
    by_test : (b : Bool) → is_some (find test xs) ≡ list_any test xs → is_some (cond b (Some x) (find test xs)) ≡ (b || list_any test xs)
    by_test true later = refl
    by_test false later = later

pub any-of-map : {X Y : Type 0} (test : Y → Bool) (f : X → Y) (xs : List X) → list_any test (map f xs) ≡ list_any (λ x. test (f x)) xs
any-of-map test f [] = refl
any-of-map test f (x ∷ xs) = ap (λ b. test (f x) || b) (any-of-map test f xs)

pub any-front : {X : Type 0} (test : X → Bool) (xs ys : List X) → list_any test (xs ++ ys) ≡ false → (list_any test xs ≡ false) × (list_any test ys ≡ false)
any-front test xs ys e = or_parts (list_any test xs) (list_any test ys) (sym (list_any-append test xs ys) ∙ e)

pub is-false : (b : Bool) → (b ≡ true → ⊥) → b ≡ false
is-false true never = absurd (never refl)
is-false false never = refl

-- an item that passes, which every test that it passes finds
pub any-with : {X : Type 0} (test : X → Bool) (xs : List X) → list_any test xs ≡ true → (x : X) × (test x ≡ true) × ((other : X → Bool) → other x ≡ true → list_any other xs ≡ true)
any-with test [] e = absurd (true≢false (sym e))
any-with {X = X} test (x ∷ xs) e = by_test (test x) refl (any-with test xs) e
  where
    by_test : (here : Bool) → test x ≡ here → (list_any test xs ≡ true → (y : X) × (test y ≡ true) × ((other : X → Bool) → other y ≡ true → list_any other xs ≡ true)) → (here || list_any test xs) ≡ true → (y : X) × (test y ≡ true) × ((other : X → Bool) → other y ≡ true → list_any other (x ∷ xs) ≡ true)
    by_test true is later h = (x, is, λ other passes. ap (λ b. b || list_any other xs) passes)
    by_test false is later h =
        let found = later h in
        (found.0, found.1, λ other passes. ap (λ b. other x || b) (found.2 other passes) ∙ late-true (other x))

pub any-after : {X : Type 0} (test : X → Bool) (xs ys : List X) → list_any test xs ≡ true → list_any test (xs ++ ys) ≡ true
any-after test xs ys e = list_any-append test xs ys ∙ ap (λ b. b || list_any test ys) e

-- of two that are at most one, an earlier one isn't there
pub at-most-before : {X : Type 0} (test : X → Bool) (xs : List X) (x : X) → length (filter test (xs ++ x ∷ [])) ≤ 1 → test x ≡ true → list_any test xs ≡ false
at-most-before test [] x few passes = refl
at-most-before {X = X} test (y ∷ ys) x few passes = by_test (test y) few (at-most-before test ys x)
  where
    some : (zs : List X) → 1 ≤ length (filter test (zs ++ x ∷ []))
    some zs =
        let both = ap length (filter-append test zs (x ∷ [])) ∙ (length-append (filter test zs) (filter test (x ∷ [])) ∙ ap (λ b. length (filter test zs) + length (cond b (x ∷ []) [])) passes) in
        omega (arith, both)

    by_test : (here : Bool) → length (cond here (y ∷ filter test (ys ++ x ∷ [])) (filter test (ys ++ x ∷ []))) ≤ 1 → (length (filter test (ys ++ x ∷ [])) ≤ 1 → test x ≡ true → list_any test ys ≡ false) → (here || list_any test ys) ≡ false
    by_test true two later = absurd (many (some ys) two)
      where
        many : 1 ≤ length (filter test (ys ++ x ∷ [])) → length (y ∷ filter test (ys ++ x ∷ [])) ≤ 1 → ⊥
        many one all = omega (arith, one, all)
    by_test false one later = later one passes

pub last-of-more : {X : Type 0} (test : X → Bool) (xs : List X) (x : X) → last_of test (xs ++ x ∷ []) ≡ cond (test x) (Some x) (last_of test xs)
last-of-more test xs x = fold-append (λ found y. cond (test y) (Some y) found) None xs (x ∷ [])

pub last-of-none : {X : Type 0} (test : X → Bool) (xs : List X) → list_any test xs ≡ false → last_of test xs ≡ None
last-of-none test [] e = refl
last-of-none test (x ∷ xs) e =
    let both = or_parts (test x) (list_any test xs) e in
    ap (λ b. fold (λ found y. cond (test y) (Some y) found) (cond b (Some x) None) xs) both.0 ∙ last-of-none test xs both.1

pub any-split : {X : Type 0} (f g h : X → Bool) (xs : List X) → ((x : X) → f x ≡ (g x || h x)) → list_any f xs ≡ false → (list_any g xs ≡ false) × (list_any h xs ≡ false)
any-split f g h [] split e = (refl, refl)
any-split f g h (x ∷ xs) split e =
    let first = or_parts (f x) (list_any f xs) e in
    let here = or_parts (g x) (h x) (sym (split x) ∙ first.0) in
    let later = any-split f g h xs split first.1 in
    (ap (λ b. b || list_any g xs) here.0 ∙ later.0, ap (λ b. b || list_any h xs) here.1 ∙ later.1)

pub any-within : {X : Type 0} (f g : X → Bool) (xs : List X) → ((x : X) → f x ≡ true → g x ≡ true) → list_any g xs ≡ false → list_any f xs ≡ false
any-within f g [] within e = refl
any-within f g (x ∷ xs) within e =
    let first = or_parts (g x) (list_any g xs) e in
    ap (λ b. b || list_any f xs) (by_test (f x) refl first.0) ∙ any-within f g xs within first.1
  where
    by_test : (b : Bool) → f x ≡ b → g x ≡ false → b ≡ false
    by_test false here none = refl
    by_test true here none = absurd (true≢false (sym (within x here) ∙ none))

pub all-kept : {X : Type 0} (old new : X → Bool) (xs : List X) → ((x : X) → old x ≡ true → new x ≡ true) → list_all old xs ≡ true → list_all new xs ≡ true
all-kept old new [] keeps all = refl
all-kept old new (x ∷ xs) keeps all =
    let both = and_parts (old x) (list_all old xs) all in
    ap (λ b. b && list_all new xs) (keeps x both.0) ∙ all-kept old new xs keeps both.1

pub all-mapped : {X : Type 0} (test : X → Bool) (change : X → X) (xs : List X) → ((x : X) → test x ≡ true → test (change x) ≡ true) → list_all test xs ≡ true → list_all test (map change xs) ≡ true
all-mapped test change [] keeps all = refl
all-mapped test change (x ∷ xs) keeps all =
    let both = and_parts (test x) (list_all test xs) all in
    ap (λ b. b && list_all test (map change xs)) (keeps x both.0) ∙ all-mapped test change xs keeps both.1

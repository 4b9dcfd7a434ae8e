-- What is chosen step by step is the best of all.
use Rattle.std.proofs.Common.{◌≡◌, Bool, true, false, List, [], ◌∷◌, ◌++◌, ◌||◌, fold, Contains, All, Option, Some, None, IfSome, ◌⊎◌, inl, inr, refl, sym, subst, ◌∙◌, ap, append-nil, append_assoc}
use Rattle.std.proofs.lemmas.Bool.{true≢false}
use Rattle.std.proofs.lemmas.List.Sums.{fold-append}
use Rattle.std.proofs.lemmas.List.Elements.{All-nil, All-weaker, All-contains, All-push, All-append, Contains-push, Contains-append_left, Contains-append_right}
use Rattle.forward_price.specs.Choices.{IsChoice, found_or_better, best_so_far, best, better_of}

-- where neither is better they are the same
abbrev pub IsTotal : {X : Type 0} → (X → X → Bool) → Type 0
IsTotal {X} better = (a b : X) → better a b ≡ false → better b a ≡ false → a ≡ b

not_true : (b : Bool) → b ≡ true → b ≡ false → ⊥
not_true b t f = true≢false (sym t ∙ f)

tested : (b : Bool) → (b ≡ true) ⊎ (b ≡ false)
tested true = inl refl
tested false = inr refl

-- an order of places that may tie: never better both ways, and what isn't better than one that isn't better isn't better
pub record IsOrder {X : Type 0} (better : X → X → Bool) : Type 0 where
  pub apart : (a b : X) → better a b ≡ true → better b a ≡ false
  pub behind : (a b c : X) → better a b ≡ false → better b c ≡ false → better a c ≡ false

itself : {X : Type 0} (better : X → X → Bool) → IsOrder better → (x : X) → better x x ≡ false
itself better order x = elim (tested (better x x)) [ inl pass ↦ order.apart x x pass | inr fail ↦ fail ]

-- what isn't better than one isn't better than a better one
still_worse : {X : Type 0} (better : X → X → Bool) → IsOrder better → (o x t : X) → better x t ≡ true → better o t ≡ false → better o x ≡ false
still_worse better order o x t over worse = order.behind o t x worse (order.apart x t over)

pub preferred-choice : {X : Type 0} (passes : X → Bool) (better : X → X → Bool) → IsOrder better → (xs : List X) (found : Option X) (x : X) → passes x ≡ true → IsChoice passes better xs found → IsChoice passes better (xs ++ x ∷ []) (found_or_better better found x)
preferred-choice passes better order xs None x pass none = record {
  among = Contains-push xs x;
  here = pass;
  best = All-push (λ o. passes o ≡ true → better o x ≡ false) xs x (All-weaker (λ o. passes o ≡ false) (λ o. passes o ≡ true → better o x ≡ false) (λ o fail passed. absurd (not_true (passes o) passed fail)) xs none) (λ _. itself better order x);
}
preferred-choice {X} passes better order xs (Some t) x pass is =
    elim (tested (better x t)) [
      | inl over ↦ rw over (record {
        among = Contains-push xs x;
        here = pass;
        best = All-push (λ o. passes o ≡ true → better o x ≡ false) xs x (All-weaker (λ o. passes o ≡ true → better o t ≡ false) (λ o. passes o ≡ true → better o x ≡ false) (λ o worse passed. still_worse better order o x t over (worse passed)) xs is.best) (λ _. itself better order x);
      })
      | inr under ↦ rw under (record {
        among = Contains-append_left xs (x ∷ []) t is.among;
        here = is.here;
        best = All-push (λ o. passes o ≡ true → better o t ≡ false) xs x is.best (λ _. under);
      })
    ]

pub passed_over : {X : Type 0} (passes : X → Bool) (better : X → X → Bool) (xs : List X) (found : Option X) (x : X) → passes x ≡ false → IsChoice passes better xs found → IsChoice passes better (xs ++ x ∷ []) found
passed_over passes better xs None x fail none = All-push (λ o. passes o ≡ false) xs x none fail
passed_over passes better xs (Some t) x fail is = record {
  among = Contains-append_left xs (x ∷ []) t is.among;
  here = is.here;
  best = All-push (λ o. passes o ≡ true → better o t ≡ false) xs x is.best (λ pass. absurd (not_true (passes x) pass fail));
}

pub considered-choice : {X : Type 0} (passes : X → Bool) (better : X → X → Bool) → IsOrder better → (xs : List X) (found : Option X) (x : X) → IsChoice passes better xs found → IsChoice passes better (xs ++ x ∷ []) (best_so_far passes better found x)
considered-choice passes better order xs found x is = elim (tested (passes x)) [
  | inl pass ↦ rw pass (preferred-choice passes better order xs found x pass is)
  | inr fail ↦ rw fail (passed_over passes better xs found x fail is)
]

fold-choice : {X : Type 0} (passes : X → Bool) (better : X → X → Bool) → IsOrder better → (xs ys : List X) (found : Option X) → IsChoice passes better xs found → IsChoice passes better (xs ++ ys) (fold (best_so_far passes better) found ys)
fold-choice passes better order xs [] found is = subst (λ l. IsChoice passes better l found) (sym (append-nil xs)) is
fold-choice passes better order xs (y ∷ ys) found is =
    subst (λ l. IsChoice passes better l (fold (best_so_far passes better) (best_so_far passes better found y) ys)) (append_assoc xs (y ∷ []) ys)
    (fold-choice passes better order (xs ++ y ∷ []) ys (best_so_far passes better found y) (considered-choice passes better order xs found y is))

-- what is computed is the choice
pub best-choice : {X : Type 0} (passes : X → Bool) (better : X → X → Bool) → IsOrder better → (xs : List X) → IsChoice passes better xs (best passes better xs)
best-choice passes better order xs = fold-choice passes better order [] xs None (All-nil (λ x. passes x ≡ false))

-- the choice of two lists together
pub better_of-choice : {X : Type 0} (passes : X → Bool) (better : X → X → Bool) → IsOrder better → (xs ys : List X) (found other : Option X) → IsChoice passes better xs found → IsChoice passes better ys other → IsChoice passes better (xs ++ ys) (better_of better found other)
better_of-choice passes better order xs ys None None none none' = All-append (λ o. passes o ≡ false) xs ys none none'
better_of-choice passes better order xs ys (Some t) None is none = record {
  among = Contains-append_left xs ys t is.among;
  here = is.here;
  best = All-append (λ o. passes o ≡ true → better o t ≡ false) xs ys is.best (All-weaker (λ o. passes o ≡ false) (λ o. passes o ≡ true → better o t ≡ false) (λ o fail passed. absurd (not_true (passes o) passed fail)) ys none);
}
better_of-choice passes better order xs ys None (Some y) none is = record {
  among = Contains-append_right xs ys y is.among;
  here = is.here;
  best = All-append (λ o. passes o ≡ true → better o y ≡ false) xs ys (All-weaker (λ o. passes o ≡ false) (λ o. passes o ≡ true → better o y ≡ false) (λ o fail passed. absurd (not_true (passes o) passed fail)) xs none) is.best;
}
better_of-choice passes better order xs ys (Some t) (Some y) first second =
    elim (tested (better y t)) [
      | inl over ↦ rw over (record {
        among = Contains-append_right xs ys y second.among;
        here = second.here;
        best = All-append (λ o. passes o ≡ true → better o y ≡ false) xs ys (All-weaker (λ o. passes o ≡ true → better o t ≡ false) (λ o. passes o ≡ true → better o y ≡ false) (λ o worse passed. still_worse better order o y t over (worse passed)) xs first.best) second.best;
      })
      | inr under ↦ rw under (record {
        among = Contains-append_left xs ys t first.among;
        here = first.here;
        best = All-append (λ o. passes o ≡ true → better o t ≡ false) xs ys first.best (All-weaker (λ o. passes o ≡ true → better o y ≡ false) (λ o. passes o ≡ true → better o t ≡ false) (λ o worse passed. order.behind o y t (worse passed) under) ys second.best);
      })
    ]

-- what holds of both holds of the better one
pub better_of-holds : {X : Type 0} (P : X → Type 0) (better : X → X → Bool) (found other : Option X) → IfSome found P → IfSome other P → IfSome (better_of better found other) P
better_of-holds P better found None h k = h
better_of-holds P better None (Some x) h k = k
better_of-holds P better (Some y) (Some x) h k = elim (tested (better x y)) [ inl over ↦ rw over k | inr under ↦ rw under h ]

-- there is one choice
pub same_choice : {X : Type 0} (passes : X → Bool) (better : X → X → Bool) → IsTotal better → (xs : List X) (a b : Option X) → IsChoice passes better xs a → IsChoice passes better xs b → a ≡ b
same_choice passes better total xs None None p q = refl
same_choice passes better total xs None (Some y) p q = absurd (not_true (passes y) q.here (All-contains (λ o. passes o ≡ false) xs y p q.among))
same_choice passes better total xs (Some x) None p q = absurd (not_true (passes x) p.here (All-contains (λ o. passes o ≡ false) xs x q p.among))
same_choice passes better total xs (Some x) (Some y) p q =
    ap Some (total x y (All-contains (λ o. passes o ≡ true → better o y ≡ false) xs x q.best p.among p.here) (All-contains (λ o. passes o ≡ true → better o x ≡ false) xs y p.best q.among q.here))

better_none : {X : Type 0} (better : X → X → Bool) (b : Option X) → better_of better None b ≡ b
better_none better None = refl
better_none better (Some x) = refl

-- the better of three is the better of the first and of the better of the others
associate : {X : Type 0} (better : X → X → Bool) → IsOrder better → (found : Option X) (y : X) (b : Option X) → better_of better (found_or_better better found y) b ≡ better_of better found (better_of better (Some y) b)
associate better order None y None = refl
associate better order None y (Some z) = sym (better_none better (found_or_better better (Some y) z))
associate better order (Some t) y None = refl
associate better order (Some t) y (Some z) = elim (tested (better y t)) [
  | inl over ↦ elim (tested (better z y)) [
    | inl more ↦ elim (tested (better z t)) [
      | inl most ↦ rw (over, more, most) refl
      | inr less ↦ absurd (not_true (better z y) more (order.behind z t y less (order.apart y t over)))
    ]
    | inr less ↦ rw (over, less, over) refl
  ]
  | inr under ↦ elim (tested (better z y)) [
    | inl more ↦ rw (under, more) refl
    | inr less ↦ rw (under, less, under, order.behind z y t less under) refl
  ]
]

considered_pass : {X : Type 0} (passes : X → Bool) (better : X → X → Bool) (found : Option X) (y : X) → passes y ≡ true → best_so_far passes better found y ≡ found_or_better better found y
considered_pass passes better found y pass = rw pass refl

considered_fail : {X : Type 0} (passes : X → Bool) (better : X → X → Bool) (found : Option X) (y : X) → passes y ≡ false → best_so_far passes better found y ≡ found
considered_fail passes better found y fail = rw fail refl

fold_from : {X : Type 0} (passes : X → Bool) (better : X → X → Bool) → IsOrder better → (ys : List X) (found : Option X) → fold (best_so_far passes better) found ys ≡ better_of better found (best passes better ys)
fold_from passes better order [] found = refl
fold_from {X} passes better order (y ∷ ys) found = elim (tested (passes y)) [
  | inl pass ↦
      ap (λ a. fold (best_so_far passes better) a ys) (considered_pass passes better found y pass)
      ∙ fold_from passes better order ys (found_or_better better found y)
      ∙ associate better order found y (best passes better ys)
      ∙ ap (better_of better found) (sym (fold_from passes better order ys (Some y)) ∙ ap (λ a. fold (best_so_far passes better) a ys) (sym (considered_pass passes better None y pass)))
  | inr fail ↦
      ap (λ a. fold (best_so_far passes better) a ys) (considered_fail passes better found y fail)
      ∙ fold_from passes better order ys found
      ∙ ap (better_of better found) (ap (λ a. fold (best_so_far passes better) a ys) (sym (considered_fail passes better None y fail)))
]

-- the best of two lists together is the better of their best
best-append : {X : Type 0} (passes : X → Bool) (better : X → X → Bool) → IsOrder better → (xs ys : List X) → best passes better (xs ++ ys) ≡ better_of better (best passes better xs) (best passes better ys)
best-append passes better order xs ys =
    fold-append (best_so_far passes better) None xs ys ∙ fold_from passes better order ys (best passes better xs)

-- where none passes none is the best
pub best_of_none : {X : Type 0} (passes : X → Bool) (better : X → X → Bool) → IsOrder better → (xs : List X) → All (λ x. passes x ≡ false) xs → best passes better xs ≡ None
best_of_none {X} passes better order xs none = go (best passes better xs) (best-choice passes better order xs)
  where
    go : (b : Option X) → IsChoice passes better xs b → b ≡ None
    go None is = refl
    go (Some t) is = absurd (not_true (passes t) is.here (All-contains (λ x. passes x ≡ false) xs t none is.among))

-- those in front that fail are passed over
pub best_behind : {X : Type 0} (passes : X → Bool) (better : X → X → Bool) → IsOrder better → (xs ys : List X) → All (λ x. passes x ≡ false) xs → best passes better (xs ++ ys) ≡ best passes better ys
best_behind passes better order xs ys none =
    best-append passes better order xs ys
    ∙ ap (λ a. better_of better a (best passes better ys)) (best_of_none passes better order xs none)
    ∙ better_none better (best passes better ys)

-- and so are those behind
pub best_in_front : {X : Type 0} (passes : X → Bool) (better : X → X → Bool) → IsOrder better → (xs ys : List X) → All (λ x. passes x ≡ false) ys → best passes better (xs ++ ys) ≡ best passes better xs
best_in_front passes better order xs ys none =
    best-append passes better order xs ys
    ∙ ap (better_of better (best passes better xs)) (best_of_none passes better order ys none)

-- the best of the front is the best where none behind is better
pub best_stays : {X : Type 0} (passes : X → Bool) (better : X → X → Bool) → IsOrder better → (xs ys : List X) (s : X) → best passes better xs ≡ Some s → All (λ u. passes u ≡ true → better u s ≡ false) ys → best passes better (xs ++ ys) ≡ Some s
best_stays {X} passes better order xs ys s e worse =
    best-append passes better order xs ys
    ∙ ap (λ a. better_of better a (best passes better ys)) e
    ∙ go (best passes better ys) (best-choice passes better order ys)
  where
    go : (b : Option X) → IsChoice passes better ys b → better_of better (Some s) b ≡ Some s
    go None is = refl
    go (Some v) is = rw (All-contains (λ u. passes u ≡ true → better u s ≡ false) ys v worse is.among is.here) refl

-- the best of the back is the best where it is better than all in front
pub best_wins : {X : Type 0} (passes : X → Bool) (better : X → X → Bool) → IsOrder better → (xs ys : List X) (s : X) → best passes better ys ≡ Some s → All (λ u. passes u ≡ true → better s u ≡ true) xs → best passes better (xs ++ ys) ≡ Some s
best_wins {X} passes better order xs ys s e over =
    best-append passes better order xs ys
    ∙ ap (better_of better (best passes better xs)) e
    ∙ go (best passes better xs) (best-choice passes better order xs)
  where
    go : (b : Option X) → IsChoice passes better xs b → better_of better b (Some s) ≡ Some s
    go None is = refl
    go (Some v) is = rw (All-contains (λ u. passes u ≡ true → better s u ≡ true) xs v over is.among is.here) refl

-- where one passes there is a best one
pub some_best : {X : Type 0} (passes : X → Bool) (better : X → X → Bool) → IsOrder better → (xs : List X) (x : X) → Contains xs x → passes x ≡ true → (s : X) × (best passes better xs ≡ Some s) × IsChoice passes better xs (Some s)
some_best {X} passes better order xs x at pass = go (best passes better xs) refl (best-choice passes better order xs)
  where
    go : (b : Option X) → best passes better xs ≡ b → IsChoice passes better xs b → (s : X) × (best passes better xs ≡ Some s) × IsChoice passes better xs (Some s)
    go None e is = absurd (not_true (passes x) pass (All-contains (λ y. passes y ≡ false) xs x is at))
    go (Some s) e is = (s, e, is)

-- one test more
pub or_false : (b : Bool) → (b || false) ≡ b
or_false true = refl
or_false false = refl

pub or_true : (b : Bool) → (b || true) ≡ true
or_true true = refl
or_true false = refl

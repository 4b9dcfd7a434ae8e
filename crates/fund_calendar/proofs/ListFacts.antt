-- A change of each element of a list in its place, and what holds of all elements, or of all pairs, of lists.
use Rattle.std.proofs.Common.{All, List, [], append-nil, arith, drop, get_or, length, map, set, suc, take, ◌+◌, ◌++◌, ◌<◌, ◌∙◌, ◌∷◌, ◌≡◌, ◌≤◌, ℕ}
use Rattle.std.proofs.lemmas.List.{at_drop_more, drop-set-lt, drop_all, take_all}
use Rattle.std.proofs.lemmas.List.Edits.{map_over_more}
use Rattle.std.proofs.lemmas.List.Elements.{All-cons, All-head, All-nil, All-tail}
use Rattle.std.specs.Prelude.{AllPairs}

-- ---- changed one by one: what is mapped so far, and lists with the same rest

pub mapped-more : {X : Type 0} (f : X → X) (xs ys : List X) (i : ℕ) (x y : X) → i < length xs → ys ≡ map f (take i xs) ++ drop i xs → x ≡ get_or ys i x → y ≡ f x → set ys i y ≡ map f (take (i + 1) xs) ++ drop (i + 1) xs
mapped-more f xs ys i x y h done is new = rw new (map_over_more f xs ys i x h done is)

pub mapped-all : {X : Type 0} (f : X → X) (xs ys : List X) (i : ℕ) → length xs ≤ i → ys ≡ map f (take i xs) ++ drop i xs → ys ≡ map f xs
mapped-all f xs ys i h done = rw (take_all i xs h, drop_all i xs h, append-nil) at done

pub same_rest : {X : Type 0} (xs ys : List X) (i : ℕ) (d : X) → i < length xs → i < length ys → drop i xs ≡ drop i ys → (get_or xs i d ≡ get_or ys i d) × (drop (i + 1) xs ≡ drop (i + 1) ys)
same_rest xs ys i d short long e =
    let left = at_drop_more (λ zs. zs) xs i d short in
    let right = at_drop_more (λ zs. zs) ys i d long in
    (cc, cc)

pub rest-set : {X : Type 0} (xs ys : List X) (i : ℕ) (y d : X) → i < length xs → i < length ys → drop i xs ≡ drop i ys → drop (i + 1) (set xs i y) ≡ drop (i + 1) ys
rest-set xs ys i y d short long e = drop-set-lt (i + 1) xs i y (omega arith) ∙ (same_rest xs ys i d short long e).1

-- ---- what holds of all

pub All-unmap : {X Y : Type 0} (P : Y → Type 0) (f : X → Y) (xs : List X) → All P (map f xs) → All (λ x. P (f x)) xs
All-unmap P f [] h = All-nil (λ x. P (f x))
All-unmap P f (x ∷ xs) h = All-cons (λ x. P (f x)) x xs (All-head P (f x) (map f xs) h) (All-unmap P f xs (All-tail P (f x) (map f xs) h))

pub All-left : {X : Type 0} (P : X → Type 0) (xs ys : List X) → All P (xs ++ ys) → All P xs
All-left P [] ys h = All-nil P
All-left P (x ∷ xs) ys h = All-cons P x xs (All-head P x (xs ++ ys) h) (All-left P xs ys (All-tail P x (xs ++ ys) h))

pub All-right : {X : Type 0} (P : X → Type 0) (xs ys : List X) → All P (xs ++ ys) → All P ys
All-right P [] ys h = h
All-right P (x ∷ xs) ys h = All-right P xs ys (All-tail P x (xs ++ ys) h)

-- ---- what holds of all pairs

pub AllPairs-tail : {X : Type 0} (R : X → X → Type 0) (x : X) (xs : List X) → AllPairs R (x ∷ xs) → AllPairs R xs
AllPairs-tail R x xs h i j d lt short = h (suc i) (suc j) d (omega arith) (omega arith)

pub AllPairs-head : {X : Type 0} (R : X → X → Type 0) (x : X) (xs : List X) → AllPairs R (x ∷ xs) → All (R x) xs
AllPairs-head R x xs h k d short = h 0 (suc k) d (omega arith) (omega arith)

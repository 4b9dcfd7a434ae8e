-- What a row put in its place leaves.
use Rattle.std.proofs.Common.{All, AllPairs, Bool, List, None, Some, [], ap, arith, cond, drop, false, find, get_or, is_some, refl, slice_get, suc, sym, take, true, zero, ℕ, ◌++◌, ◌∙◌, ◌∷◌, ◌≡◌}
use Rattle.std.proofs.lemmas.Bool.{true≢false}
use Rattle.std.proofs.lemmas.List.{drop_all, take_all}
use Rattle.std.proofs.lemmas.List.Elements.{All-cons, All-head, All-nil, All-tail}
use Rattle.std.proofs.lemmas.List.Kept.{AllPairs-cons}
use Rattle.std.specs.List.{slice_set}
use Rattle.std.specs.List.Sorted.{IsPartitionPoint}
use Rattle.share_lots.proofs.LotLemmas.{AllPairs-head, AllPairs-tail}
use Rattle.household_fold.specs.Searches.{if_passes}
use Rattle.reference_tables.specs.Places.{put_new, put_row}

-- ---- where a search puts it

-- the place that a search finds
abbrev pub IsPlace : {R : Type 0} → (R → Bool) → List R → ℕ → Type 0
IsPlace before xs i = IsPartitionPoint (λ y. before y ≡ true) (λ y. before y ≡ false) xs i

place-rest : {R : Type 0} (before : R → Bool) (x : R) (xs : List R) (i : ℕ) → IsPlace before (x ∷ xs) (suc i) → IsPlace before xs i
place-rest before x xs i point = (
  λ k d lo lt. point.0 (suc k) d (omega arith) (omega arith),
  λ k d lo lt. point.1 (suc k) d (omega arith) (omega arith),
)

some-if : {R : Type 0} (b : Bool) (x : R) → is_some (cond b (Some x) None) ≡ b
some-if true x = refl
some-if false x = refl

pub insert-put : {R : Type 0} (before same : R → Bool) (row : R) (xs : List R) (i : ℕ) → IsPlace before xs i → is_some (if_passes same (slice_get xs i)) ≡ false → take i xs ++ row ∷ drop i xs ≡ put_row before same row xs
insert-put {R} before same row [] i point none =
    ap (λ ys. ys ++ row ∷ drop i []) (take_all {A = R} i [] (omega arith))
    ∙ ap (λ ys. row ∷ ys) (drop_all {X = R} i [] (omega arith))
insert-put before same row (x ∷ xs) zero point none =
    sym (ap (λ b. cond b (x ∷ put_row before same row xs) (cond (same x) (row ∷ xs) (row ∷ x ∷ xs))) (point.1 0 x (omega arith) (omega arith))
    ∙ ap (λ b. cond b (row ∷ xs) (row ∷ x ∷ xs)) (sym (some-if (same x) x) ∙ none))
insert-put before same row (x ∷ xs) (suc i) point none =
    ap (λ ys. x ∷ ys) (insert-put before same row xs i (place-rest before x xs i point) none)
    ∙ sym (ap (λ b. cond b (x ∷ put_row before same row xs) (cond (same x) (row ∷ xs) (row ∷ x ∷ xs))) (point.0 0 x (omega arith) (omega arith)))

pub write-put : {R : Type 0} (before same : R → Bool) (row : R) (xs : List R) (i : ℕ) → IsPlace before xs i → is_some (if_passes same (slice_get xs i)) ≡ true → slice_set xs i row ≡ put_row before same row xs
write-put before same row [] i point there = absurd (true≢false (sym there))
write-put before same row (x ∷ xs) zero point there =
    sym (ap (λ b. cond b (x ∷ put_row before same row xs) (cond (same x) (row ∷ xs) (row ∷ x ∷ xs))) (point.1 0 x (omega arith) (omega arith))
    ∙ ap (λ b. cond b (row ∷ xs) (row ∷ x ∷ xs)) (sym (some-if (same x) x) ∙ there))
write-put before same row (x ∷ xs) (suc i) point there =
    ap (λ ys. x ∷ ys) (write-put before same row xs i (place-rest before x xs i point) there)
    ∙ sym (ap (λ b. cond b (x ∷ put_row before same row xs) (cond (same x) (row ∷ xs) (row ∷ x ∷ xs))) (point.0 0 x (omega arith) (omega arith)))

pub insert-new : {R : Type 0} (before same : R → Bool) (row : R) (xs : List R) (i : ℕ) → IsPlace before xs i → if_passes same (slice_get xs i) ≡ find same xs → is_some (if_passes same (slice_get xs i)) ≡ false → take i xs ++ row ∷ drop i xs ≡ put_new before same row xs
insert-new before same row xs i point found none =
    insert-put before same row xs i point none
    ∙ sym (ap (λ b. cond b xs (put_row before same row xs)) (ap is_some (sym found) ∙ none))

pub there-new : {R : Type 0} (before same : R → Bool) (row : R) (xs : List R) (i : ℕ) → if_passes same (slice_get xs i) ≡ find same xs → is_some (if_passes same (slice_get xs i)) ≡ true → xs ≡ put_new before same row xs
there-new before same row xs i found there =
    sym (ap (λ b. cond b xs (put_row before same row xs)) (ap is_some (sym found) ∙ there))

-- ---- what holds of all rows

pub put-all : {R : Type 0} (P : R → Type 0) (before same : R → Bool) (row : R) (xs : List R) → P row → All P xs → All P (put_row before same row xs)
put-all P before same row [] own all = All-cons P row [] own all
put-all P before same row (x ∷ xs) own all =
    elim (before x) as (λ b. All P (cond b (x ∷ put_row before same row xs) (cond (same x) (row ∷ xs) (row ∷ x ∷ xs)))) [
      | true ↦ All-cons P x (put_row before same row xs) (All-head P x xs all) (put-all P before same row xs own (All-tail P x xs all))
      | false ↦
          elim (same x) as (λ b. All P (cond b (row ∷ xs) (row ∷ x ∷ xs))) [
            | true ↦ All-cons P row xs own (All-tail P x xs all)
            | false ↦ All-cons P row (x ∷ xs) own all
          ]
    ]

-- the order of a list, and a row put in it
pub record Ranks {R : Type 0} (before same : R → Bool) (row : R) (O : R → R → Type 0) : Type 0 where
  pub ahead : (x : R) → before x ≡ true → O x row
  pub behind : (x : R) → before x ≡ false → same x ≡ false → O row x
  pub stead : (x y : R) → same x ≡ true → O x y → O row y
  pub through : (x y : R) → O row x → O x y → O row y

pub put-pairs : {R : Type 0} (before same : R → Bool) (row : R) (O : R → R → Type 0) → Ranks before same row O → (xs : List R) → AllPairs O xs → AllPairs O (put_row before same row xs)
put-pairs before same row O ranks [] pairs = AllPairs-cons O row [] (All-nil (O row)) pairs
put-pairs before same row O ranks (x ∷ xs) pairs =
    let head = AllPairs-head O x xs pairs in
    let tail = AllPairs-tail O x xs pairs in
    elim (before x) as (λ b. before x ≡ b → AllPairs O (cond b (x ∷ put_row before same row xs) (cond (same x) (row ∷ xs) (row ∷ x ∷ xs)))) [
      | true ↦ λ e.
          AllPairs-cons O x (put_row before same row xs) (put-all (O x) before same row xs (ranks.ahead x e) head)
          (put-pairs before same row O ranks xs tail)
      | false ↦ λ e.
          elim (same x) as (λ b. same x ≡ b → AllPairs O (cond b (row ∷ xs) (row ∷ x ∷ xs))) [
            | true ↦ λ is. AllPairs-cons O row xs (λ k d short. ranks.stead x (get_or xs k d) is (head k d short)) tail
            | false ↦ λ is.
                let next = ranks.behind x e is in
                AllPairs-cons O row (x ∷ xs)
                (All-cons (O row) x xs next (λ k d short. ranks.through x (get_or xs k d) next (head k d short))) pairs
          ] refl
    ] refl

pub new-all : {R : Type 0} (P : List R → Type 0) (before same : R → Bool) (row : R) (xs : List R) → P xs → P (put_row before same row xs) → P (put_new before same row xs)
new-all P before same row xs old new =
    elim (is_some (find same xs)) as (λ b. P (cond b xs (put_row before same row xs))) [ true ↦ old | false ↦ new ]

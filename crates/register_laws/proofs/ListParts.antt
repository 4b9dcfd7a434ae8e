-- Parts of lists: what a filter leaves of another filter, of a map and of a list cut in two, and folds over a part.
use Rattle.std.proofs.Common.{Bool, List, None, Option, Some, [], ap, cond, false, filter, fold, is_some, map, refl, sym, true, ◌++◌, ◌||◌, ◌∙◌, ◌∷◌, ◌≡◌}
use Rattle.std.proofs.lemmas.Bool.{true≢false}
use Rattle.std.proofs.lemmas.List.Elements.{All-head, All-tail}
use Rattle.std.specs.List.{list_any}
use Rattle.std.specs.Prelude.{All, AllPairs}
use Rattle.register_laws.proofs.Tests.{find-any}
use Rattle.register_machine.specs.journal.Choices.{last_of}
use Rattle.share_lots.proofs.LotLemmas.{AllPairs-head, AllPairs-tail}
pub use Rattle.register_machine.proofs.ListItems.{pairs-append}
pub use Rattle.register_machine.proofs.FilterFacts.{filter-all, filter-none, filter-within, found-within}

-- ---- two states in a relation, of which the second takes no step but the own ones

pub fold-part : {X D E : Type 0} (R : D → E → Type 0) (own : X → Bool) (f : D → X → D) (g : E → X → E) → ((d : D) (e : E) (x : X) → own x ≡ true → R d e → R (f d x) (g e x)) → ((d : D) (e : E) (x : X) → own x ≡ false → R d e → R (f d x) e) → (d : D) (e : E) (xs : List X) → R d e → R (fold f d xs) (fold g e (filter own xs))
fold-part R own f g steps skips d e [] is = is
fold-part R own f g steps skips d e (x ∷ xs) is =
    elim (own x) as (λ b. own x ≡ b → R (fold f (f d x) xs) (fold g e (cond b (x ∷ filter own xs) (filter own xs)))) [
      | true ↦ λ t. fold-part R own f g steps skips (f d x) (g e x) xs (steps d e x t is)
      | false ↦ λ t. fold-part R own f g steps skips (f d x) e xs (skips d e x t is)
    ] refl

-- and two of which each takes the steps of its list, where what holds of the items makes a step keep the relation
pub fold-known : {X D E : Type 0} (P : X → Type 0) (R : D → E → Type 0) (f : D → X → D) (g : E → X → E) → ((d : D) (e : E) (x : X) → P x → R d e → R (f d x) (g e x)) → (d : D) (e : E) (xs : List X) → All P xs → R d e → R (fold f d xs) (fold g e xs)
fold-known P R f g steps d e [] all is = is
fold-known P R f g steps d e (x ∷ xs) all is =
    fold-known P R f g steps (f d x) (g e x) xs (All-tail P x xs all) (steps d e x (All-head P x xs all) is)

-- ---- filters of filters

pub filter-swap : {X : Type 0} (p q : X → Bool) (xs : List X) → filter p (filter q xs) ≡ filter q (filter p xs)
filter-swap p q [] = refl
filter-swap p q (x ∷ xs) = by (p x) (q x) refl refl (filter-swap p q xs)
  where
    by : (a b : Bool) → p x ≡ a → q x ≡ b → filter p (filter q xs) ≡ filter q (filter p xs) → filter p (cond b (x ∷ filter q xs) (filter q xs)) ≡ filter q (cond a (x ∷ filter p xs) (filter p xs))
    by true true first second rest =
        ap (λ c. cond c (x ∷ filter p (filter q xs)) (filter p (filter q xs))) first
        ∙ (ap (λ ys. x ∷ ys) rest ∙ sym (ap (λ c. cond c (x ∷ filter q (filter p xs)) (filter q (filter p xs))) second))
    by true false first second rest =
        rest ∙ sym (ap (λ c. cond c (x ∷ filter q (filter p xs)) (filter q (filter p xs))) second)
    by false true first second rest =
        ap (λ c. cond c (x ∷ filter p (filter q xs)) (filter p (filter q xs))) first ∙ rest
    by false false first second rest = rest

pub filter-map : {X Y : Type 0} (p : Y → Bool) (f : X → Y) (xs : List X) → filter p (map f xs) ≡ map f (filter (λ x. p (f x)) xs)
filter-map p f [] = refl
filter-map p f (x ∷ xs) =
    elim (p (f x)) as (λ b. cond b (f x ∷ filter p (map f xs)) (filter p (map f xs)) ≡ map f (cond b (x ∷ filter (λ y. p (f y)) xs) (filter (λ y. p (f y)) xs))) [
      | true ↦ ap (λ ys. f x ∷ ys) (filter-map p f xs)
      | false ↦ filter-map p f xs
    ]

-- two tests that agree on what passes a third
pub filters-agree : {X : Type 0} (p q r : X → Bool) → ((x : X) → p x ≡ true → q x ≡ r x) → (xs : List X) → filter q (filter p xs) ≡ filter r (filter p xs)
filters-agree p q r agree [] = refl
filters-agree p q r agree (x ∷ xs) =
    elim (p x) as (λ b. p x ≡ b → filter q (cond b (x ∷ filter p xs) (filter p xs)) ≡ filter r (cond b (x ∷ filter p xs) (filter p xs))) [
      | true ↦ λ t.
          ap (λ c. cond c (x ∷ filter q (filter p xs)) (filter q (filter p xs))) (agree x t)
          ∙ ap (λ ys. cond (r x) (x ∷ ys) ys) (filters-agree p q r agree xs)
      | false ↦ λ t. filters-agree p q r agree xs
    ] refl

-- tests that agree on what is there keep the same
pub filter-known : {X : Type 0} (p q : X → Bool) (xs : List X) → All (λ x. p x ≡ q x) xs → filter p xs ≡ filter q xs
filter-known p q [] all = refl
filter-known p q (x ∷ xs) all =
    ap (λ b. cond b (x ∷ filter p xs) (filter p xs)) (All-head (λ x. p x ≡ q x) x xs all)
    ∙ ap (λ rest. cond (q x) (x ∷ rest) rest) (filter-known p q xs (All-tail (λ x. p x ≡ q x) x xs all))

pub map-agree : {X Y : Type 0} (f g : X → Y) → ((x : X) → f x ≡ g x) → (xs : List X) → map f xs ≡ map g xs
map-agree f g agree [] = refl
map-agree f g agree (x ∷ xs) = ap (λ y. y ∷ map f xs) (agree x) ∙ ap (λ ys. g x ∷ ys) (map-agree f g agree xs)

pub any-agree : {X : Type 0} (p q : X → Bool) → ((x : X) → p x ≡ q x) → (xs : List X) → list_any p xs ≡ list_any q xs
any-agree p q agree [] = refl
any-agree p q agree (x ∷ xs) =
    ap (λ b. b || list_any p xs) (agree x) ∙ ap (λ b. q x || b) (any-agree p q agree xs)

pub map-swap : {X Y : Type 0} (f : Y → Y) (g : X → Y) (h : X → X) → ((x : X) → f (g x) ≡ g (h x)) → (xs : List X) → map f (map g xs) ≡ map g (map h xs)
map-swap f g h agree [] = refl
map-swap f g h agree (x ∷ xs) =
    ap (λ y. y ∷ map f (map g xs)) (agree x) ∙ ap (λ ys. g (h x) ∷ ys) (map-swap f g h agree xs)

-- two maps that agree on what passes
pub maps-agree : {X Y : Type 0} (p : X → Bool) (f g : X → Y) → ((x : X) → p x ≡ true → f x ≡ g x) → (xs : List X) → map f (filter p xs) ≡ map g (filter p xs)
maps-agree p f g agree [] = refl
maps-agree p f g agree (x ∷ xs) =
    elim (p x) as (λ b. p x ≡ b → map f (cond b (x ∷ filter p xs) (filter p xs)) ≡ map g (cond b (x ∷ filter p xs) (filter p xs))) [
      | true ↦ λ t. ap (λ y. y ∷ map f (filter p xs)) (agree x t) ∙ ap (λ ys. g x ∷ ys) (maps-agree p f g agree xs)
      | false ↦ λ t. maps-agree p f g agree xs
    ] refl

-- whether some item passes, and the last that does, among those that may
pub any-within-part : {X : Type 0} (p q : X → Bool) → ((x : X) → q x ≡ true → p x ≡ true) → (xs : List X) → list_any q (filter p xs) ≡ list_any q xs
any-within-part p q within xs =
    sym (find-any q (filter p xs)) ∙ (ap is_some (found-within p q within xs) ∙ find-any q xs)

pub last-within : {X : Type 0} (p q : X → Bool) → ((x : X) → q x ≡ true → p x ≡ true) → (xs : List X) → last_of q (filter p xs) ≡ last_of q xs
last-within {X = X} p q within xs =
    sym
    (fold-part (λ found other. found ≡ other) p (λ found x. cond (q x) (Some x) found) (λ found x. cond (q x) (Some x) found)
    (λ d e x here is. ap (λ found. cond (q x) (Some x) found) is) (λ d e x off is. skipped d x off (q x) refl ∙ is) None None xs refl)
  where
    skipped : (d : Option X) (x : X) → p x ≡ false → (b : Bool) → q x ≡ b → cond b (Some x) d ≡ d
    skipped d x off false e = refl
    skipped d x off true e = absurd (true≢false (sym (within x e) ∙ off))

-- ---- a list cut in two by its order: once an item isn't less, none behind it is

pub filter-sides : {X : Type 0} (own less more : X → Bool) (R : X → X → Type 0) → ((x : X) → own x ≡ true → less x ≡ true → more x ≡ false) → ((x : X) → own x ≡ true → less x ≡ false → more x ≡ true) → ((x y : X) → R x y → less x ≡ false → less y ≡ false) → (xs : List X) → AllPairs R xs → filter own (filter less xs) ++ filter own (filter more xs) ≡ filter own xs
filter-sides own less more R apart other past [] ordered = refl
filter-sides {X = X} own less more R apart other past (x ∷ xs) ordered =
    by (own x) (less x) refl refl (filter-sides own less more R apart other past xs (AllPairs-tail R x xs ordered))
  where
    none-less : less x ≡ false → filter less xs ≡ []
    none-less is =
        filter-none less xs (λ k d short. past x _ (AllPairs-head R x xs ordered k d short) is)

    drop : (ys : List X) → own x ≡ false → (b : Bool) → filter own (cond b (x ∷ ys) ys) ≡ filter own ys
    drop ys no_own true = ap (λ c. cond c (x ∷ filter own ys) (filter own ys)) no_own
    drop ys no_own false = refl

    by : (a b : Bool) → own x ≡ a → less x ≡ b → filter own (filter less xs) ++ filter own (filter more xs) ≡ filter own xs → filter own (cond (less x) (x ∷ filter less xs) (filter less xs)) ++ filter own (cond (more x) (x ∷ filter more xs) (filter more xs)) ≡ cond (own x) (x ∷ filter own xs) (filter own xs)
    by false b mine early rest =
        ap (λ ys. ys ++ filter own (cond (more x) (x ∷ filter more xs) (filter more xs))) (drop (filter less xs) mine (less x))
        ∙ (ap (λ ys. filter own (filter less xs) ++ ys) (drop (filter more xs) mine (more x))
        ∙ (rest ∙ sym (ap (λ c. cond c (x ∷ filter own xs) (filter own xs)) mine)))
    by true true mine early rest =
        ap (λ c. filter own (cond c (x ∷ filter less xs) (filter less xs)) ++ filter own (cond (more x) (x ∷ filter more xs) (filter more xs))) early
        ∙ (ap (λ c. filter own (x ∷ filter less xs) ++ filter own (cond c (x ∷ filter more xs) (filter more xs))) (apart x mine early)
        ∙ (ap (λ c. cond c (x ∷ filter own (filter less xs)) (filter own (filter less xs)) ++ filter own (filter more xs)) mine
        ∙ (ap (λ ys. x ∷ ys) rest ∙ sym (ap (λ c. cond c (x ∷ filter own xs) (filter own xs)) mine))))
    by true false mine early rest =
        let none = none-less early in
        ap (λ c. filter own (cond c (x ∷ filter less xs) (filter less xs)) ++ filter own (cond (more x) (x ∷ filter more xs) (filter more xs))) early
        ∙ (ap (λ c. filter own (filter less xs) ++ filter own (cond c (x ∷ filter more xs) (filter more xs))) (other x mine early)
        ∙ (ap (λ ys. filter own ys ++ filter own (x ∷ filter more xs)) none
        ∙ (ap (λ c. cond c (x ∷ filter own (filter more xs)) (filter own (filter more xs))) mine
        ∙ (ap (λ ys. x ∷ ys) (sym (ap (λ ys. filter own ys ++ filter own (filter more xs)) none) ∙ rest)
        ∙ sym (ap (λ c. cond c (x ∷ filter own xs) (filter own xs)) mine)))))

-- ---- pairs in order

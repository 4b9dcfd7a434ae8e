-- What a walk over places gathers, and writes, one more.
use Rattle.std.proofs.Common.{List, None, Option, Some, [], ap, arith, filter_map, get_or, length, length-take, map, option_to_list, refl, subst, suc, sym, take, zero, ℕ, ◌++◌, ◌+◌, ◌<◌, ◌∙◌, ◌∷◌, ◌≡◌, ◌≤◌}
use Rattle.std.proofs.lemmas.List.{map-append, take_more}
use Rattle.std.proofs.lemmas.List.Elements.{All-map, filter_map-append}
use Rattle.std.specs.List.{cons_option}
use Rattle.std.specs.List.Sorted.{IsNonDecreasingBy}
use Rattle.standing_orders.specs.Entries.{order_of}
use Rattle.checkpoint_replay.specs.NumberedRows.{AreUpTo}
use Rattle.checkpoint_replay.specs.Replays.{NumberedOrder}
use Rattle.standing_orders.specs.declared.entries.NumberedRow.{NumberedRow}

-- one place more of those that are walked over
pub gathered-more : {X Y : Type 0} (f : X → Option Y) (xs : List X) (i : ℕ) (x : X) (before after : List Y) (found : Option Y) → i < length xs → x ≡ get_or xs i x → before ≡ filter_map f (take i xs) → after ≡ before ++ option_to_list found → found ≡ f x → after ≡ filter_map f (take (i + 1) xs)
gathered-more {X} {Y} f xs i x before after found short is before_is after_is found_is =
    after_is
    ∙ (ap (λ front. front ++ option_to_list found) before_is
    ∙ (ap (λ one. filter_map f (take i xs) ++ option_to_list one) found_is
    ∙ (ap (λ back. filter_map f (take i xs) ++ back) (as-list (f x))
    ∙ (sym (filter_map-append f (take i xs) (x ∷ []))
    ∙ ap (filter_map f) (ap (λ y. take i xs ++ y ∷ []) is ∙ sym (take_more xs i x short))))))
  where
    as-list : (one : Option Y) → option_to_list one ≡ cons_option one []
    as-list None = refl
    as-list (Some y) = refl

-- one order more of those that are written
pub written-more : {X Y : Type 0} (f : X → Y) (xs : List X) (i : ℕ) (x : X) (before after : List Y) → i < length xs → x ≡ get_or xs i x → before ≡ map f (take i xs) → after ≡ before ++ f x ∷ [] → after ≡ map f (take (i + 1) xs)
written-more f xs i x before after short is before_is after_is =
    after_is
    ∙ (ap (λ front. front ++ f x ∷ []) before_is
    ∙ (sym (map-append f (take i xs) (x ∷ []))
    ∙ ap (map f) (ap (λ y. take i xs ++ y ∷ []) is ∙ sym (take_more xs i x short))))

default-same : {X : Type 0} (xs : List X) (n : ℕ) (d e : X) → n < length xs → get_or xs n d ≡ get_or xs n e
default-same [] n d e short = absurd (omega (arith, short))
default-same (x ∷ xs) zero d e short = refl
default-same (x ∷ xs) (suc n) d e short = default-same xs n d e (omega (arith, short))

-- the same where the places are numbers
pub gathered-at : {Y : Type 0} (f : ℕ → Option Y) (xs : List ℕ) (i : ℕ) (before after : List Y) (found : Option Y) → i < length xs → before ≡ filter_map f (take i xs) → after ≡ before ++ option_to_list found → found ≡ f (get_or xs i 0) → after ≡ filter_map f (take (i + 1) xs)
gathered-at f xs i before after found short before_is after_is found_is =
    gathered-more f xs i (get_or xs i 0) before after found short (default-same xs i 0 (get_or xs i 0) short) before_is after_is found_is

-- the numbers so far are at most the next one
pub up-to-next : (entries : List NumberedRow) (i : ℕ) (x : NumberedRow) (orders : List NumberedOrder) → i < length entries → x ≡ get_or entries i x → IsNonDecreasingBy (λ (entry : NumberedRow). entry.number) entries → orders ≡ map order_of (take i entries) → AreUpTo x.number orders
up-to-next entries i x orders short is rises orders_are =
    subst (AreUpTo x.number) (sym orders_are)
    (All-map (λ (o : NumberedOrder). o.number ≤ x.number) order_of (take i entries)
    (λ k d within.
    let low : k < i = first-of k i entries within in
    subst (λ (entry : NumberedRow). entry.number ≤ x.number) (sym (got-first k i d entries low))
    (subst (λ (entry : NumberedRow). (get_or entries k d).number ≤ entry.number) (sym (is ∙ default-same entries i x d short)) (rises k i d (omega (arith, low)) short))))
  where
    first-of : {X : Type 0} (k n : ℕ) (xs : List X) → k < length (take n xs) → k < n
    first-of k n xs within = omega (arith, within, length-take n xs)

    got-first : {X : Type 0} (k n : ℕ) (d : X) (xs : List X) → k < n → get_or (take n xs) k d ≡ get_or xs k d
    got-first k zero d xs low = absurd (omega (arith, low))
    got-first k (suc n) d [] low = refl
    got-first zero (suc n) d (x ∷ xs) low = refl
    got-first (suc k) (suc n) d (x ∷ xs) low = got-first k n d xs (omega (arith, low))

-- Which letters and lot numbers are found in a register after a position was put.
use Rattle.std.proofs.Common.{All, Bool, List, None, Option, Some, [], ap, cond, false, filter, find, is_none, length, not, refl, true, unwrap_or, ℕ, ◌&&◌, ◌++◌, ◌==◌, ◌∙◌, ◌∷◌, ◌≡◌, ◌≤◌}
use Rattle.std.proofs.lemmas.Bool.{both_ways}
use Rattle.std.proofs.lemmas.List.Elements.{All-append, All-cons, All-head, All-nil, All-tail, All-weaker}
use Rattle.register_machine.proofs.FoundFacts.{before-apart, behind-apart, find-own, own-place, put-all}
use Rattle.register_machine.specs.replay.Positions.{Position, Register, fresh_position, is_fresh, is_position, position_of, put, stands_before, unless_fresh}
use Rattle.household_fold.specs.Limits.{AreLettersWithin, AreLotsWithin, IsLetterWithin}

-- what is found has what all have
pub find-all : {X : Type 0} (P : X → Type 0) (p : X → Bool) (xs : List X) → All P xs → (x : X) → find p xs ≡ Some x → P x
find-all P p [] all x e = cc
find-all P p (y ∷ ys) all x e =
    elim (p y) as (λ b. cond b (Some y) (find p ys) ≡ Some x → P x) [
      | true ↦ λ found. (let same : y ≡ x = cc in rw (← same) (All-head P y ys all))
      | false ↦ λ found. find-all P p ys (All-tail P y ys all) x found
    ] e

-- a position that is kept is found where it was put
found-put : (p : Position) (register : Register) → is_fresh p ≡ false → find (is_position p.account p.class) (put p register) ≡ Some p
found-put p register kept =
    find-own p register
    ∙ ap (λ b. find (is_position p.account p.class) (cond b [] (p ∷ []))) kept
    ∙ ap (λ b. cond b (Some p) None) (own-place p)

-- the letters of a register
pub letter-found : (register : Register) (account class : ℕ) → AreLettersWithin register → IsLetterWithin (position_of register account class).letter
letter-found register account class all = by (find (is_position account class) register) refl
  where
    by : (o : Option Position) → find (is_position account class) register ≡ o → IsLetterWithin (unwrap_or o (fresh_position account class)).letter
    by None e = tt
    by (Some p) e = find-all (λ position. IsLetterWithin position.letter) (is_position account class) register all p e

one-kept : (P : Position → Type 0) (p : Position) → P p → (b : Bool) → All P (cond b [] (p ∷ []))
one-kept P p at true = All-nil P
one-kept P p at false = All-cons P p [] at (All-nil P)

pub letters-put : (p : Position) (register : Register) → AreLettersWithin register → IsLetterWithin p.letter → AreLettersWithin (put p register)
letters-put p register all at = put-all (λ position. IsLetterWithin position.letter) p register at all

-- and after another was put in the stead of one
all-passing : {X : Type 0} (t : X → Bool) (P Q : X → Type 0) → ((x : X) → t x ≡ true → P x → Q x) → (xs : List X) → All P xs → All Q (filter t xs)
all-passing t P Q step [] all = All-nil Q
all-passing t P Q step (x ∷ xs) all =
    elim (t x) as (λ b. t x ≡ b → All Q (cond b (x ∷ filter t xs) (filter t xs))) [
      | true ↦ λ e. All-cons Q x (filter t xs) (step x e (All-head P x xs all)) (all-passing t P Q step xs (All-tail P x xs all))
      | false ↦ λ e. all-passing t P Q step xs (All-tail P x xs all)
    ] refl

all-put-over : (P : Position → Type 0) (p q : Position) (register : Register) → p.account ≡ q.account → p.class ≡ q.class → All P register → P p → All P (put p (put q register))
all-put-over P p q register account class all at =
    let Q : Position → Type 0 = λ x. is_position p.account p.class x ≡ false → P x in
    let same : is_position p.account p.class q ≡ true =
    (ap (λ a. is_position a p.class q) account ∙ ap (λ c. is_position q.account c q) class ∙ own-place q) in
    let first : All Q (put q register) = put-all Q q register (λ apart. absurd (both_ways (is_position p.account p.class q) apart same)) (All-weaker P Q (λ x h apart. h) register all) in
    All-append P (filter (λ other. stands_before other p) (put q register) ++ unless_fresh p) (filter (λ other. stands_before p other) (put q register))
    (All-append P (filter (λ other. stands_before other p) (put q register)) (unless_fresh p)
    (all-passing (λ other. stands_before other p) Q P (λ x before h. h (before-apart p x before)) (put q register) first) (one-kept P p at (is_fresh p)))
    (all-passing (λ other. stands_before p other) Q P (λ x after h. h (behind-apart p x after)) (put q register) first)

pub letters-put-over : (p q : Position) (register : Register) → p.account ≡ q.account → p.class ≡ q.class → AreLettersWithin register → IsLetterWithin p.letter → AreLettersWithin (put p (put q register))
letters-put-over p q register account class all at = all-put-over (λ position. IsLetterWithin position.letter) p q register account class all at

-- the next lot number of a position that was put with a lot
pub lots-kept : (p : Position) → (length p.holding.lots == 0) ≡ false → is_fresh p ≡ false
lots-kept p some = ap (λ b. b && (p.holding.next_lot == 1 && (not p.in_cash && is_none p.letter))) some

pub next-within : (p : Position) (register : Register) → (length p.holding.lots == 0) ≡ false → AreLotsWithin (put p register) → p.holding.next_lot ≤ 4294967295
next-within p register some all =
    find-all (λ position. position.holding.next_lot ≤ 4294967295) (is_position p.account p.class) (put p register) all p (found-put p register (lots-kept p some))

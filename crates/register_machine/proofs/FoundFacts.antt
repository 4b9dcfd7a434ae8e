-- What is found in a register after a position was put: in its own place, in every other, and in all of them.
use Rattle.std.proofs.Common.{All, Bool, List, None, Option, Some, [], ap, arith, cond, false, filter, find, is_none, length, nat_lt, not, refl, sym, true, unwrap_or, ℕ, ◌&&◌, ◌++◌, ◌==◌, ◌||◌, ◌∙◌, ◌∷◌, ◌≡◌}
use Rattle.std.proofs.lemmas.Bool.{and_parts, eqb-true, true≢false}
use Rattle.std.proofs.lemmas.Bool.Decides.{nat_tests}
use Rattle.std.proofs.lemmas.List.Elements.{All-append, All-cons, All-filter, All-nil}
use Rattle.std.proofs.lemmas.List.Folds.{find-append}
use Rattle.std.specs.Option.{option_or}
use Rattle.letter_of_intent.specs.declared.letter.Letter.{Letter}
use Rattle.register_machine.proofs.FilterFacts.{found-apart, found-within}
use Rattle.register_machine.proofs.KeyOrder.{keys-apart, keys-apart-later, keys-same}
use Rattle.register_machine.proofs.ListItems.{found-is}
use Rattle.register_machine.specs.replay.Positions.{Position, Register, fresh_position, is_fresh, is_position, position_of, put, stands_before, unless_fresh}
use Rattle.share_lots.specs.declared.lot.Lot.{Lot}

-- a key stands before a place, behind it or in it
before-place : (a c p q x y : ℕ) → (nat_lt a p || (a == p && nat_lt c q)) ≡ true → (x == a && y == c) ≡ true → (nat_lt x p || (x == p && nat_lt y q)) ≡ true
before-place a c p q x y = grind (arith, nat_tests)

before-behind : (a c p q x y : ℕ) → (nat_lt a p || (a == p && nat_lt c q)) ≡ true → (nat_lt p x || (p == x && nat_lt q y)) ≡ true → (x == a && y == c) ≡ false
before-behind a c p q x y = grind (arith, nat_tests)

behind-place : (a c p q x y : ℕ) → (nat_lt p a || (p == a && nat_lt q c)) ≡ true → (x == a && y == c) ≡ true → (nat_lt p x || (p == x && nat_lt q y)) ≡ true
behind-place a c p q x y = grind (arith, nat_tests)

behind-before : (a c p q x y : ℕ) → (nat_lt p a || (p == a && nat_lt q c)) ≡ true → (nat_lt x p || (x == p && nat_lt y q)) ≡ true → (x == a && y == c) ≡ false
behind-before a c p q x y = grind (arith, nat_tests)

apart-behind : (a c p q : ℕ) → (p == a && q == c) ≡ false → (nat_lt a p || (a == p && nat_lt c q)) ≡ false → (nat_lt p a || (p == a && nat_lt q c)) ≡ true
apart-behind a c p q = grind (arith, nat_tests)

-- what comes before a position or behind it has another place
pub before-apart : (p x : Position) → stands_before x p ≡ true → is_position p.account p.class x ≡ false
before-apart p x = keys-apart x.account x.class p.account p.class

pub behind-apart : (p x : Position) → stands_before p x ≡ true → is_position p.account p.class x ≡ false
behind-apart p x = keys-apart-later p.account p.class x.account x.class

pub own-place : (p : Position) → is_position p.account p.class p ≡ true
own-place p = keys-same p.account p.class

none-fresh : (t : Position → Bool) (p : Position) → t p ≡ false → find t (unless_fresh p) ≡ None
none-fresh t p fails =
    elim (is_fresh p) as (λ b. find t (cond b [] (p ∷ [])) ≡ None) [
      | true ↦ refl
      | false ↦ ap (λ b. cond b (Some p) None) fails
    ]

pub option_or-none : {X : Type 0} (o : Option X) → option_or o None ≡ o
option_or-none None = refl
option_or-none (Some x) = refl

-- a look-up in a put position's register, by its three parts
parts : (t : Position → Bool) (p : Position) (register : Register) → find t (put p register) ≡ option_or (option_or (find t (filter (λ other. stands_before other p) register)) (find t (unless_fresh p))) (find t (filter (λ other. stands_before p other) register))
parts t p register =
    let before = filter (λ (other : Position). stands_before other p) register in
    let behind = filter (λ (other : Position). stands_before p other) register in
    find-append t (before ++ unless_fresh p) behind
    ∙ ap (λ o. option_or o (find t behind)) (find-append t before (unless_fresh p))

find-elsewhere : (p : Position) (register : Register) (a c : ℕ) → is_position a c p ≡ false → find (is_position a c) (put p register) ≡ find (is_position a c) register
find-elsewhere p register a c away =
    parts (is_position a c) p register ∙ by (nat_lt a p.account || (a == p.account && nat_lt c p.class)) refl
  where
    by : (b : Bool) → (nat_lt a p.account || (a == p.account && nat_lt c p.class)) ≡ b → option_or (option_or (find (is_position a c) (filter (λ other. stands_before other p) register)) (find (is_position a c) (unless_fresh p))) (find (is_position a c) (filter (λ other. stands_before p other) register)) ≡ find (is_position a c) register
    by true e =
        let first = found-within (λ (x : Position). stands_before x p) (is_position a c) (λ x is. before-place a c p.account p.class x.account x.class e is) register in
        let last = found-apart (λ (x : Position). stands_before p x) (is_position a c) (λ x is. before-behind a c p.account p.class x.account x.class e is) register in
        let own = none-fresh (is_position a c) p away in
        rw (first, last, own) (option_or-none (option_or (find (is_position a c) register) None) ∙ option_or-none (find (is_position a c) register))
    by false e =
        let later = apart-behind a c p.account p.class away e in
        let first = found-apart (λ (x : Position). stands_before x p) (is_position a c) (λ x is. behind-before a c p.account p.class x.account x.class later is) register in
        let last = found-within (λ (x : Position). stands_before p x) (is_position a c) (λ x is. behind-place a c p.account p.class x.account x.class later is) register in
        let own = none-fresh (is_position a c) p away in
        rw (first, last, own) refl

-- in every other place the same is found as before
pub found-elsewhere : (p : Position) (register : Register) (a c : ℕ) → is_position a c p ≡ false → position_of (put p register) a c ≡ position_of register a c
found-elsewhere p register a c away = ap (λ o. unwrap_or o (fresh_position a c)) (find-elsewhere p register a c away)

pub find-own : (p : Position) (register : Register) → find (is_position p.account p.class) (put p register) ≡ find (is_position p.account p.class) (unless_fresh p)
find-own p register =
    let first = found-apart (λ (x : Position). stands_before x p) (is_position p.account p.class) (before-apart p) register in
    let last = found-apart (λ (x : Position). stands_before p x) (is_position p.account p.class) (behind-apart p) register in
    parts (is_position p.account p.class) p register
    ∙ (rw (first, last) (option_or-none (find (is_position p.account p.class) (unless_fresh p))))

-- a fresh position is what is found where there is none
fresh-is : (p : Position) → is_fresh p ≡ true → fresh_position p.account p.class ≡ p
fresh-is p e =
    let first = and_parts (length p.holding.lots == 0) (p.holding.next_lot == 1 && (not p.in_cash && is_none p.letter)) e in
    let second = and_parts (p.holding.next_lot == 1) (not p.in_cash && is_none p.letter) first.1 in
    let third = and_parts (not p.in_cash) (is_none p.letter) second.1 in
    by p.account p.class p.holding.lots p.holding.next_lot p.in_cash p.letter (eqb-true (length p.holding.lots) 0 first.0) (eqb-true p.holding.next_lot 1 second.0) third.0 third.1
  where
    by : (account class : ℕ) (lots : List Lot) (next : ℕ) (in_cash : Bool) (letter : Option Letter) → length lots ≡ 0 → next ≡ 1 → not in_cash ≡ true → is_none letter ≡ true → fresh_position account class ≡ record { account = account; class = class; holding = record { lots = lots; next_lot = next }; in_cash = in_cash; letter = letter }
    by account class [] next false None empty one cash open_letter =
        ap (λ n. record { account = account; class = class; holding = record { lots = []; next_lot = n }; in_cash = false; letter = None }) (sym one)
    by account class (x ∷ xs) next in_cash letter empty one cash open_letter = absurd (omega (arith, empty))
    by account class [] next true letter empty one cash open_letter = absurd (true≢false (sym cash))
    by account class [] next false (Some letter) empty one cash open_letter = absurd (true≢false (sym open_letter))

-- and in its own place the position that was put
pub found-own : (p : Position) (register : Register) → position_of (put p register) p.account p.class ≡ p
found-own p register =
    ap (λ o. unwrap_or o (fresh_position p.account p.class)) (find-own p register) ∙ own
  where
    own : unwrap_or (find (is_position p.account p.class) (unless_fresh p)) (fresh_position p.account p.class) ≡ p
    own =
        elim (is_fresh p) as (λ b. is_fresh p ≡ b → unwrap_or (find (is_position p.account p.class) (cond b [] (p ∷ []))) (fresh_position p.account p.class) ≡ p) [
          | true ↦ λ e. fresh-is p e
          | false ↦ λ e. ap (λ b. unwrap_or (cond b (Some p) None) (fresh_position p.account p.class)) (own-place p)
        ] refl

-- what all positions have and the one that is put
pub put-all : (P : Position → Type 0) (p : Position) (register : Register) → P p → All P register → All P (put p register)
put-all P p register here all =
    let before = filter (λ other. stands_before other p) register in
    let behind = filter (λ other. stands_before p other) register in
    All-append P (before ++ unless_fresh p) behind
    (All-append P before (unless_fresh p) (All-filter (λ other. stands_before other p) P register all) own)
    (All-filter (λ other. stands_before p other) P register all)
  where
    own : All P (unless_fresh p)
    own = elim (is_fresh p) as (λ b. All P (cond b [] (p ∷ []))) [
      | true ↦ All-nil P
      | false ↦ All-cons P p [] here (All-nil P)
    ]

-- of what stands in a place the key is known
pub same-place : (a c : ℕ) (p : Position) → is_position a c p ≡ true → (p.account ≡ a) × (p.class ≡ c)
same-place a c p e =
    let parts = and_parts (p.account == a) (p.class == c) e in
    (eqb-true p.account a parts.0, eqb-true p.class c parts.1)

-- a position looked up has the account and the class that it was looked up by
pub own-account : (register : Register) (a c : ℕ) → (position_of register a c).account ≡ a
own-account register a c =
    found-is (λ x. x.account ≡ a) (is_position a c) (fresh_position a c) (λ x e. (same-place a c x e).0) refl register

pub own-class : (register : Register) (a c : ℕ) → (position_of register a c).class ≡ c
own-class register a c =
    found-is (λ x. x.class ≡ c) (is_position a c) (fresh_position a c) (λ x e. (same-place a c x e).1) refl register

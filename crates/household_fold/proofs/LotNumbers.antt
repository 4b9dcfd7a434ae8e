-- The numbers of next lots never fall within a step: so a bound on them at its end holds all the way.
use Rattle.std.proofs.Common.{All, List, None, Option, Some, [], ap, arith, cond, find, fold, get_or, refl, suc, true, unwrap_or, ℕ, ◌∙◌, ◌∷◌, ◌≡◌, ◌≤◌}
use Rattle.std.proofs.lemmas.Bool.{cases_Bool}
use Rattle.std.proofs.Common.{inl, inr}
use Rattle.std.proofs.lemmas.List.Elements.{All-cons, All-nil}
use Rattle.household_positions.specs.Register.{AreInOrder, IsRegister}
use Rattle.register_machine.proofs.FoundFacts.{found-elsewhere, found-own, same-place}
use Rattle.register_machine.proofs.KeyOrder.{keys-apart, keys-same}
use Rattle.register_machine.specs.replay.Positions.{Position, Register, fresh_position, is_position, position_of, put, stands_before}
use Rattle.household_fold.specs.Limits.{AreLotsWithin}
use Rattle.household_fold.specs.Numbers.{AreNumbersWithin}
use Rattle.household_fold.proofs.PutFacts.{find-all}

-- the number of the next lot of an account and class
abbrev pub next_of : Register → ℕ → ℕ → ℕ
next_of register account class = (position_of register account class).holding.next_lot

-- no next number is lower than before
abbrev pub Grows : Register → Register → Type 0
Grows register later = (a c : ℕ) → next_of register a c ≤ next_of later a c

pub grows-same : (register : Register) → Grows register register
grows-same register a c = omega arith

pub grows-on : (first second third : Register) → Grows first second → Grows second third → Grows first third
grows-on first second third one two a c = omega (arith, one a c, two a c)

-- the next number of a position where it was put
pub next-put : (p : Position) (register : Register) → next_of (put p register) p.account p.class ≡ p.holding.next_lot
next-put p register = ap (λ (x : Position). x.holding.next_lot) (found-own p register)

-- a position put with no lower number
pub grows-put : (p : Position) (register : Register) → next_of register p.account p.class ≤ p.holding.next_lot → Grows register (put p register)
grows-put p register more a c = elim (cases_Bool (is_position a c p)) [
  | inl here ↦
      let at = same-place a c p here in
      rw (← at.0, ← at.1) (omega (arith, next-put p register, more))
  | inr away ↦ omega (arith, ap (λ (x : Position). x.holding.next_lot) (found-elsewhere p register a c away))
]

-- steps that never lower a number, one after another
pub grows-over : {D E : Type 0} (read : D → Register) (step : D → E → D) → ((d : D) (e : E) → Grows (read d) (read (step d e))) → (d : D) (es : List E) → Grows (read d) (read (fold step d es))
grows-over read step grows d [] = grows-same (read d)
grows-over read step grows d (e ∷ es) = grows-on (read d) (read (step d e)) (read (fold step (step d e) es)) (grows d e) (grows-over read step grows (step d e) es)

-- what is found has a number within the bound
pub next-found : (register : Register) (a c : ℕ) → AreLotsWithin register → next_of register a c ≤ 4294967295
next-found register a c within = by (find (is_position a c) register) refl
  where
    by : (o : Option Position) → find (is_position a c) register ≡ o → (unwrap_or o (fresh_position a c)).holding.next_lot ≤ 4294967295
    by None e = omega arith
    by (Some p) e = find-all (λ position. position.holding.next_lot ≤ 4294967295) (is_position a c) register within p e

-- so are those that all have
pub numbers-within : (register : Register) → AreLotsWithin register → AreNumbersWithin register
numbers-within register within a c = next-found register a c within

-- a position that was put has a number within the bound of all
pub put-number : (p : Position) (register : Register) → AreNumbersWithin (put p register) → p.holding.next_lot ≤ 4294967295
put-number p register within = omega (arith, next-put p register, within p.account p.class)

pub put_within : (p : Position) (register : Register) → AreLotsWithin (put p register) → p.holding.next_lot ≤ 4294967295
put_within p register within = put-number p register (numbers-within (put p register) within)

-- a bound at the end is one at the beginning
pub numbers-before : (register later : Register) → Grows register later → AreNumbersWithin later → AreNumbersWithin register
numbers-before register later grows within a c = omega (arith, grows a c, within a c)

-- in a register each position is found by its key
found-each : (register : Register) → AreInOrder register → All (λ p. find (is_position p.account p.class) register ≡ Some p) register
found-each [] ordered = All-nil (λ p. find (is_position p.account p.class) [] ≡ Some p)
found-each (x ∷ xs) ordered =
    All-cons (λ p. find (is_position p.account p.class) (x ∷ xs) ≡ Some p) x xs
    (ap (λ b. cond b (Some x) (find (is_position x.account x.class) xs)) (keys-same x.account x.class))
    (λ k d short.
    let y = get_or xs k d in
    let first : stands_before x y ≡ true = ordered 0 (suc k) d (omega arith) (omega arith) in
    ap (λ b. cond b (Some x) (find (is_position y.account y.class) xs)) (keys-apart x.account x.class y.account y.class first)
    ∙ found-each xs (λ i j e less end. ordered (suc i) (suc j) e (omega arith) (omega arith)) k d short)

-- so the same holds of a bound on all positions of a register
pub within-before : (register later : Register) → IsRegister register → Grows register later → AreLotsWithin later → AreLotsWithin register
within-before register later is grows within k d short =
    let p = get_or register k d in
    let here : next_of register p.account p.class ≡ p.holding.next_lot =
    ap (λ o. (unwrap_or o (fresh_position p.account p.class)).holding.next_lot) (found-each register is.ordered k d short) in
    omega (arith, here, grows p.account p.class, next-found later p.account p.class within)

-- and a bound on what is found is one on all positions of a register
pub numbers-lots : (register : Register) → IsRegister register → AreNumbersWithin register → AreLotsWithin register
numbers-lots register is within k d short =
    let p = get_or register k d in
    let here : next_of register p.account p.class ≡ p.holding.next_lot =
    ap (λ o. (unwrap_or o (fresh_position p.account p.class)).holding.next_lot) (found-each register is.ordered k d short) in
    omega (arith, here, within p.account p.class)

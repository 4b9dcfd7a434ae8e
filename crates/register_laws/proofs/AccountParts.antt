-- What the lots of a register come to by the number n of orders that each account has had: its positions have 2 n parts
-- together, so an exchange brings 2 n + 1 lots at most, and a position has had n * n lots and its one free lot at most.
use Rattle.std.proofs.Common.{All, Bool, List, Option, [], ap, arith, cond, false, is_none, is_some, length, not, refl, subst, sum_by, sym, true, ℕ, ◌&&◌, ◌*◌, ◌+◌, ◌==◌, ◌∙◌, ◌∷◌, ◌≡◌, ◌≤◌}
use Rattle.std.proofs.Math.Nat.{mul-le-mul}
use Rattle.std.proofs.lemmas.Bool.{and_parts, eqb-true}
use Rattle.std.proofs.lemmas.List.Elements.{All-weaker}
use Rattle.letter_of_intent.specs.declared.letter.Letter.{Letter}
use Rattle.register_laws.proofs.Comparisons.{eq-yes}
use Rattle.register_laws.proofs.LotParts.{parts}
use Rattle.register_laws.proofs.LotTotals.{frees}
use Rattle.register_laws.proofs.PositionsInOrder.{mass, once, own-mass, put-elsewhere, put-sum}
use Rattle.register_laws.proofs.Sums.{found-of, sum-filtered}
use Rattle.register_laws.specs.ReplayKeeps.{AreInOrder}
use Rattle.register_machine.proofs.FoundFacts.{put-all}
use Rattle.register_machine.specs.replay.Positions.{Position, Register, fresh_position, is_fresh, is_position, position_of, put}
use Rattle.share_lots.proofs.LotLemmas.{sum_by-filter-le}
use Rattle.share_lots.specs.declared.lot.Lot.{Lot}

abbrev pub lettered : Option Letter → ℕ
lettered letter = cond (is_some letter) 1 0

-- the parts of a position, where it is one of an account
abbrev pub parts_in : ℕ → Position → ℕ
parts_in account x = cond (x.account == account) (parts x.holding.lots) 0

abbrev pub account_parts : ℕ → Register → ℕ
account_parts account register = sum_by (parts_in account) register

-- by the number of orders that its account has had, a position has had so many lots
pub record Within (n : ℕ → ℕ) (x : Position) : Type 0 where
  pub numbers : x.holding.next_lot + lettered x.letter ≤ 1 + (frees x.holding.lots + n x.account * n x.account)

-- and the positions of an account together two parts an order
pub record Counted (n : ℕ → ℕ) (register : Register) : Type 0 where
  pub within : All (Within n) register
  pub few : (account : ℕ) → account_parts account register ≤ 2 * n account

-- an account has had an order more
pub record Rises (n m : ℕ → ℕ) (account : ℕ) : Type 0 where
  pub all : (other : ℕ) → n other ≤ m other
  pub own : n account + 1 ≤ m account

pub square-more : (k l : ℕ) → k + 1 ≤ l → k * k + (2 * k + 1) ≤ l * l
square-more k l more =
    let whole : (k + 1) * (k + 1) ≤ l * l = mul-le-mul {n₁ = k + 1} {m₁ = k + 1} {n₂ = l} {m₂ = l} more more in
    omega (arith, whole)

within-more : (n m : ℕ → ℕ) → ((account : ℕ) → n account ≤ m account) → (x : Position) → Within n x → Within m x
within-more n m more x is =
    let squares : n x.account * n x.account ≤ m x.account * m x.account = mul-le-mul {n₁ = n x.account} {m₁ = n x.account} {n₂ = m x.account} {m₂ = m x.account} (more x.account) (more x.account) in
    record { numbers = omega (arith, is.numbers, squares) }

pub counted-more : (n m : ℕ → ℕ) (register : Register) → ((account : ℕ) → n account ≤ m account) → Counted n register → Counted m register
counted-more n m register more counted = record {
  within = All-weaker (Within n) (Within m) (within-more n m more) register counted.within;
  few = λ account. omega (arith, counted.few account, more account);
}

-- ---- a position in its place

-- the position is the one in its place
pub record Owns (register : Register) (x : Position) : Type 0 where
  pub own : (account : ℕ) → mass (parts_in account) x.account x.class register ≡ parts_in account x

nothing : (b : Bool) → ◌≡◌ {A = ℕ} (cond b 0 0) 0
nothing true = refl
nothing false = refl

fresh-parts : (account : ℕ) (p : Position) → is_fresh p ≡ true → parts_in account p ≡ 0
fresh-parts account p e =
    let empty = eqb-true (length p.holding.lots) 0 (and_parts (length p.holding.lots == 0) (p.holding.next_lot == 1 && (not p.in_cash && is_none p.letter)) e).0 in
    let zero_is = none p.holding.lots empty in
    rw zero_is (nothing (p.account == account))
  where
    none : (lots : List Lot) → length lots ≡ 0 → parts lots ≡ 0
    none [] h = refl
    none (x ∷ xs) h = absurd (omega (arith, h))

pub looked_up-owns : (register : Register) (a c : ℕ) → AreInOrder register → Owns register (position_of register a c)
looked_up-owns register a c ordered =
    record { own = λ account. own-mass (parts_in account) register a c (nothing (a == account)) (once register ordered) }

pub looked_up-within : (n : ℕ → ℕ) (register : Register) (a c : ℕ) → All (Within n) register → Within n (position_of register a c)
looked_up-within n register a c all = found-of (Within n) (is_position a c) (fresh_position a c) fresh register all
  where
    fresh : Within n (fresh_position a c)
    fresh = record { numbers = omega arith }

-- a position put in the stead of another
pub put-parts_in : (register : Register) (x p : Position) → Owns register x → p.account ≡ x.account → p.class ≡ x.class → (account : ℕ) → account_parts account (put p register) + parts_in account x ≡ account_parts account register + parts_in account p
put-parts_in register x p owns same_account same_class account =
    let moved = put-sum (parts_in account) p register (fresh-parts account p) in
    let there = sum-filtered (parts_in account) (is_position p.account p.class) register in
    let own : mass (parts_in account) p.account p.class register ≡ parts_in account x = rw (same_account, same_class) (owns.own account) in
    omega (arith, moved, there, own)

-- what a position comes to in the stead of another: so many numbers of lots more, and so many parts
pub record Costs (x p : Position) (numbers parts_more : ℕ) : Type 0 where
  pub account_is : p.account ≡ x.account
  pub class_is : p.class ≡ x.class
  pub numbers_le : p.holding.next_lot + lettered p.letter + frees x.holding.lots ≤ x.holding.next_lot + lettered x.letter + (frees p.holding.lots + numbers)
  pub parts_le : parts p.holding.lots ≤ parts x.holding.lots + parts_more

costs-within : (n m : ℕ → ℕ) (x p : Position) (numbers parts_more : ℕ) → Costs x p numbers parts_more → n x.account * n x.account + numbers ≤ m x.account * m x.account → Within n x → Within m p
costs-within n m x p numbers parts_more costs enough is =
    let same : m p.account * m p.account ≡ m x.account * m x.account = ap (λ a. m a * m a) costs.account_is in
    record { numbers = omega (arith, is.numbers, costs.numbers_le, enough, same) }

put-counted : (n m : ℕ → ℕ) (register : Register) (x p : Position) (numbers parts_more : ℕ) → Costs x p numbers parts_more → ((account : ℕ) → n account ≤ m account) → n x.account * n x.account + numbers ≤ m x.account * m x.account → 2 * n x.account + parts_more ≤ 2 * m x.account → Owns register x → Within n x → Counted n register → Counted m (put p register)
put-counted n m register x p numbers parts_more costs more enough parts_enough owns is counted = record {
  within = put-all (Within m) p register (costs-within n m x p numbers parts_more costs enough is)
      (All-weaker (Within n) (Within m) (within-more n m more) register counted.within);
  few = λ account. fits account;
}
  where
    fits : (account : ℕ) → account_parts account (put p register) ≤ 2 * m account
    fits account =
        let moved = put-parts_in register x p owns costs.account_is costs.class_is account in
        let own : parts_in account p ≡ cond (x.account == account) (parts p.holding.lots) 0 = ap (λ a. cond (a == account) (parts p.holding.lots) 0) costs.account_is in
        elim (x.account == account) as (λ b. (x.account == account) ≡ b → account_parts account (put p register) + cond b (parts x.holding.lots) 0 ≡ account_parts account register + parts_in account p → parts_in account p ≡ cond b (parts p.holding.lots) 0 → account_parts account (put p register) ≤ 2 * m account) [
          | true ↦ λ e s o.
              let same = eqb-true x.account account e in
              let few : account_parts account register ≤ 2 * n x.account = subst (λ a. account_parts account register ≤ 2 * n a) (sym same) (counted.few account) in
              let many : 2 * n x.account + parts_more ≤ 2 * m account = subst (λ a. 2 * n x.account + parts_more ≤ 2 * m a) same parts_enough in
              omega (arith, s, o, few, many, costs.parts_le)
          | false ↦ λ e s o. omega (arith, s, o, counted.few account, more account)
        ] refl moved own

-- without an order a position comes to nothing more
pub put-same : (n : ℕ → ℕ) (register : Register) (x p : Position) → Costs x p 0 0 → Owns register x → Within n x → Counted n register → Counted n (put p register)
put-same n register x p costs owns is counted =
    put-counted n n register x p 0 0 costs (λ account. omega arith) (omega arith) (omega arith) owns is counted

-- and with one to a number and two parts
pub put-more : (n m : ℕ → ℕ) (register : Register) (x p : Position) → Costs x p 1 2 → Rises n m x.account → Owns register x → Within n x → Counted n register → Counted m (put p register)
put-more n m register x p costs rises owns is counted =
    put-counted n m register x p 1 2 costs rises.all (omega (arith, square-more (n x.account) (m x.account) rises.own)) (omega (arith, rises.own)) owns is counted

-- a position has no more parts than its account
own-few : (register : Register) (x : Position) (account : ℕ) → Owns register x → x.account ≡ account → parts x.holding.lots ≤ account_parts account register
own-few register x account owns is =
    let here : parts_in account x ≡ parts x.holding.lots = rw (eq-yes x.account account is) refl in
    omega (arith, here, owns.own account, sum-filtered (parts_in account) (is_position x.account x.class) register, sum_by-filter-le (parts_in account) (is_position x.account x.class) register)

-- ---- two positions of an account, where the second gets what the first gives

away-owns : (register : Register) (x p : Position) → Owns register x → is_position x.account x.class p ≡ false → Owns (put p register) x
away-owns register x p owns away =
    record { own = λ account. put-elsewhere (parts_in account) x.account x.class p register away ∙ owns.own account }

pub record Passes (from less to more : Position) : Type 0 where
  pub costs_less : Costs from less 1 1
  pub costs_more : Costs to more (parts from.holding.lots + 1) (parts from.holding.lots + 1)
  pub one_account : to.account ≡ from.account
  pub parts_both : parts less.holding.lots + parts more.holding.lots ≤ parts from.holding.lots + parts to.holding.lots + 1
  pub elsewhere : is_position to.account to.class less ≡ false

pub put-both : (n m : ℕ → ℕ) (register : Register) (from less to more : Position) → Passes from less to more → Rises n m from.account → Owns register from → Owns register to → Within n from → Within n to → Counted n register → Counted m (put more (put less register))
put-both n m register from less to more passes rises owns owns_to is is_to counted = record {
  within = put-all (Within m) more (put less register)
      (costs-within n m to more (parts from.holding.lots + 1) (parts from.holding.lots + 1) passes.costs_more (subst (λ a. n a * n a + (parts from.holding.lots + 1) ≤ m a * m a) (sym passes.one_account) (omega (arith, squares, few))) is_to)
      (put-all (Within m) less register (costs-within n m from less 1 1 passes.costs_less (omega (arith, squares)) is)
      (All-weaker (Within n) (Within m) (within-more n m rises.all) register counted.within));
  few = λ account. fits account;
}
  where
    squares : n from.account * n from.account + (2 * n from.account + 1) ≤ m from.account * m from.account
    squares = square-more (n from.account) (m from.account) rises.own

    few : parts from.holding.lots ≤ 2 * n from.account
    few = omega (arith, own-few register from from.account owns refl, counted.few from.account)

    both : (account : ℕ) (b : Bool) → (from.account == account) ≡ b → account_parts account (put more (put less register)) + (cond b (parts to.holding.lots) 0 + cond b (parts from.holding.lots) 0) ≡ account_parts account register + (cond b (parts less.holding.lots) 0 + cond b (parts more.holding.lots) 0) → account_parts account (put more (put less register)) ≤ 2 * m account
    both account true e sums =
        let same = eqb-true from.account account e in
        let more_orders : 2 * n account + 1 ≤ 2 * m account = subst (λ a. 2 * n a + 1 ≤ 2 * m a) same (omega (arith, rises.own)) in
        omega (arith, sums, counted.few account, more_orders, passes.parts_both)
    both account false e sums = omega (arith, sums, counted.few account, rises.all account)

    fits : (account : ℕ) → account_parts account (put more (put less register)) ≤ 2 * m account
    fits account =
        let first = put-parts_in register from less owns passes.costs_less.account_is passes.costs_less.class_is account in
        let second = put-parts_in (put less register) to more (away-owns register to less owns_to passes.elsewhere) passes.costs_more.account_is passes.costs_more.class_is account in
        let of_less : parts_in account less ≡ cond (from.account == account) (parts less.holding.lots) 0 = ap (λ a. cond (a == account) (parts less.holding.lots) 0) passes.costs_less.account_is in
        let of_to : parts_in account to ≡ cond (from.account == account) (parts to.holding.lots) 0 = ap (λ a. cond (a == account) (parts to.holding.lots) 0) passes.one_account in
        let of_more : parts_in account more ≡ cond (from.account == account) (parts more.holding.lots) 0 = ap (λ a. cond (a == account) (parts more.holding.lots) 0) (passes.costs_more.account_is ∙ passes.one_account) in
        both account (from.account == account) refl (omega (arith, first, second, of_less, of_to, of_more))

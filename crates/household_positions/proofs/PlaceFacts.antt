-- The order of places by account and then class, and what a position taken out and put back leaves.
use Rattle.std.proofs.Common.{All, AllPairs, None, Some, [], ap, append_assoc, append-nil, arith, cond, drop, false, filter, find, get_or, inl, inr, not, refl, slice_get, suc, sym, take, true, zero, ℕ, ◌++◌, ◌∙◌, ◌∷◌, ◌≡◌}
use Rattle.std.proofs.lemmas.Bool.{cases_lt, true≢false}
use Rattle.std.proofs.lemmas.List.{drop_all, take-append-drop, take_all}
use Rattle.std.proofs.lemmas.List.Elements.{All-append, All-cons, All-filter, All-nil, All-tail, filter_passes}
use Rattle.std.proofs.lemmas.List.Kept.{AllPairs-filter}
use Rattle.std.specs.List.{remove}
use Rattle.std.specs.List.Sorted.{IsPartitionPoint, IsPartitionedBy}
use Rattle.std.specs.Option.{option_map_or}
use Rattle.register_machine.proofs.KeyOrder.{keys-apart, keys-apart-later, keys-back, keys-either, keys-in-stead, keys-next}
use Rattle.register_machine.proofs.ListItems.{pairs-append}
use Rattle.register_machine.specs.replay.Positions.{Position, Register, fresh_position, is_fresh, is_position, put, stands_before, unless_fresh}
use Rattle.share_lots.proofs.LotLemmas.{AllPairs-head, AllPairs-tail}
use Rattle.household_positions.specs.Register.{AreInOrder, IsRegister, without}
use Rattle.household_positions.proofs.ListParts.{filter-all, filter-none, filter-within, find-none}

pub parted : (a c : ℕ) (register : Register) → AreInOrder register → IsPartitionedBy (λ other. stands_before other (fresh_position a c)) register
parted a c register ordered i j d le short first = elim (cases_lt i j) [
  | inl lt ↦
      let x = get_or register i d in
      let y = get_or register j d in
      keys-next x.account x.class y.account y.class a c (ordered i j d lt short) first
  | inr ge ↦ let same : i ≡ j = omega arith in rw same first
]

-- the place of a key: what comes before it, and what doesn't
abbrev pub IsPlace : ℕ → ℕ → Register → ℕ → Type 0
IsPlace a c register k =
    IsPartitionPoint (λ other. stands_before other (fresh_position a c) ≡ true) (λ other. stands_before other (fresh_position a c) ≡ false) register k

place-rest : (a c : ℕ) (x : Position) (xs : Register) (i : ℕ) → IsPlace a c (x ∷ xs) (suc i) → IsPlace a c xs i
place-rest a c x xs i point = (
  λ k d lo lt. point.0 (suc k) d (omega arith) (omega arith),
  λ k d lo lt. point.1 (suc k) d (omega arith) (omega arith),
)

place-head : (a c : ℕ) (x : Position) (xs : Register) (i : ℕ) → IsPlace a c (x ∷ xs) (suc i) → stands_before x (fresh_position a c) ≡ true
place-head a c x xs i point = point.0 0 x (omega arith) (omega arith)

place-all : (a c : ℕ) (register : Register) → IsPlace a c register 0 → All (λ x. stands_before x (fresh_position a c) ≡ false) register
place-all a c register point k d short = point.1 k d (omega arith) short

-- where the position of the key stands in its place, it is found, and the others are left
pub record Holds (a c : ℕ) (register : Register) (k : ℕ) : Type 0 where
  pub found : find (is_position a c) register ≡ slice_get register k
  pub rest : without a c register ≡ remove register k

pub holds-at : (a c : ℕ) (register : Register) (k : ℕ) → AreInOrder register → IsPlace a c register k → option_map_or (is_position a c) (slice_get register k) false ≡ true → Holds a c register k
holds-at a c [] k ordered point stands = absurd (true≢false (sym stands))
holds-at a c (x ∷ xs) zero ordered point stands =
    let behind = AllPairs-head (λ p q. stands_before p q ≡ true) x xs ordered in
    record {
      found = ap (λ b. cond b (Some x) (find (is_position a c) xs)) stands;
      rest =
          ap (λ b. cond (not b) (x ∷ without a c xs) (without a c xs)) stands
          ∙ filter-all (λ other. not (is_position a c other)) xs
          (λ k d short. let y = get_or xs k d in ap not (keys-apart-later a c y.account y.class (keys-in-stead x.account x.class a c y.account y.class stands (behind k d short))));
    }
holds-at a c (x ∷ xs) (suc i) ordered point stands =
    let away = keys-apart x.account x.class a c (place-head a c x xs i point) in
    let rest = holds-at a c xs i (AllPairs-tail (λ p q. stands_before p q ≡ true) x xs ordered) (place-rest a c x xs i point) stands in
    record {
      found = ap (λ b. cond b (Some x) (find (is_position a c) xs)) away ∙ rest.found;
      rest =
          ap (λ b. cond (not b) (x ∷ without a c xs) (without a c xs)) away ∙ ap (λ ys. x ∷ ys) rest.rest;
    }

-- where it doesn't, it is nowhere
pub none-at : (a c : ℕ) (register : Register) (k : ℕ) → AreInOrder register → IsPlace a c register k → option_map_or (is_position a c) (slice_get register k) false ≡ false → All (λ x. is_position a c x ≡ false) register
none-at a c [] k ordered point stands = All-nil (λ x. is_position a c x ≡ false)
none-at a c (x ∷ xs) zero ordered point stands =
    let behind = AllPairs-head (λ p q. stands_before p q ≡ true) x xs ordered in
    let later = keys-either x.account x.class a c (place-all a c (x ∷ xs) point 0 x (omega arith)) stands in
    All-cons (λ x. is_position a c x ≡ false) x xs stands
    (λ k d short. let y = get_or xs k d in keys-apart-later a c y.account y.class (keys-next a c x.account x.class y.account y.class later (behind k d short)))
none-at a c (x ∷ xs) (suc i) ordered point stands =
    All-cons (λ x. is_position a c x ≡ false) x xs (keys-apart x.account x.class a c (place-head a c x xs i point))
    (none-at a c xs i (AllPairs-tail (λ p q. stands_before p q ≡ true) x xs ordered) (place-rest a c x xs i point) stands)

pub none-found : (a c : ℕ) (register : Register) → All (λ x. is_position a c x ≡ false) register → find (is_position a c) register ≡ None
none-found a c register none = find-none (is_position a c) register none

pub none-left : (a c : ℕ) (register : Register) → All (λ x. is_position a c x ≡ false) register → without a c register ≡ register
none-left a c register none =
    filter-all (λ other. not (is_position a c other)) register (λ k d short. ap not (none k d short))

found-nowhere : (a c : ℕ) (register : Register) → find (is_position a c) register ≡ None → All (λ x. is_position a c x ≡ false) register
found-nowhere a c [] none = All-nil (λ x. is_position a c x ≡ false)
found-nowhere a c (x ∷ xs) none =
    elim (is_position a c x) as (λ b. is_position a c x ≡ b → cond b (Some x) (find (is_position a c) xs) ≡ None → All (λ x. is_position a c x ≡ false) (x ∷ xs)) [
      | true ↦ λ e some. absurd (cc)
      | false ↦ λ e rest. All-cons (λ x. is_position a c x ≡ false) x xs e (found-nowhere a c xs rest)
    ] refl none

-- ---- a position put

-- a place divides a register that hasn't the key
record Divides (a c : ℕ) (register : Register) (k : ℕ) : Type 0 where
  before : filter (λ other. stands_before other (fresh_position a c)) register ≡ take k register
  behind : filter (λ other. stands_before (fresh_position a c) other) register ≡ drop k register

divides-at : (a c : ℕ) (register : Register) (k : ℕ) → IsPlace a c register k → All (λ x. is_position a c x ≡ false) register → Divides a c register k
divides-at a c [] k point none = record { before = sym (take_all {A = Position} k [] (omega arith)); behind = sym (drop_all {X = Position} k [] (omega arith)) }
divides-at a c (x ∷ xs) zero point none =
    let late = place-all a c (x ∷ xs) point in
    record {
      before = filter-none (λ other. stands_before other (fresh_position a c)) (x ∷ xs) late;
      behind =
          filter-all (λ other. stands_before (fresh_position a c) other) (x ∷ xs)
          (λ k d short. let y = get_or (x ∷ xs) k d in keys-either y.account y.class a c (late k d short) (none k d short));
    }
divides-at a c (x ∷ xs) (suc i) point none =
    let first = place-head a c x xs i point in
    let rest = divides-at a c xs i (place-rest a c x xs i point) (All-tail (λ x. is_position a c x ≡ false) x xs none) in
    record {
      before =
          ap (λ b. cond b (x ∷ filter (λ other. stands_before other (fresh_position a c)) xs) (filter (λ other. stands_before other (fresh_position a c)) xs)) first
          ∙ ap (λ ys. x ∷ ys) rest.before;
      behind =
          ap (λ b. cond b (x ∷ filter (λ other. stands_before (fresh_position a c) other) xs) (filter (λ other. stands_before (fresh_position a c) other) xs))
          (keys-back x.account x.class a c first)
          ∙ rest.behind;
    }

put-at : (p : Position) (register : Register) (k : ℕ) → IsPlace p.account p.class register k → find (is_position p.account p.class) register ≡ None → put p register ≡ take k register ++ unless_fresh p ++ drop k register
put-at p register k point none =
    let divided = divides-at p.account p.class register k point (found-nowhere p.account p.class register none) in
    ap (λ ys. ys ++ unless_fresh p ++ filter (λ other. stands_before p other) register) divided.before
    ∙ ap (λ ys. take k register ++ unless_fresh p ++ ys) divided.behind

pub fresh-put : (p : Position) (register : Register) (k : ℕ) → IsPlace p.account p.class register k → find (is_position p.account p.class) register ≡ None → is_fresh p ≡ true → register ≡ put p register
fresh-put p register k point none fresh =
    sym (put-at p register k point none
    ∙ (ap (λ b. take k register ++ cond b [] (p ∷ []) ++ drop k register) fresh
    ∙ (ap (λ ys. ys ++ drop k register) (append-nil (take k register)) ∙ take-append-drop k register)))

pub kept-put : (p : Position) (register : Register) (k : ℕ) → IsPlace p.account p.class register k → find (is_position p.account p.class) register ≡ None → is_fresh p ≡ false → take k register ++ p ∷ drop k register ≡ put p register
kept-put p register k point none kept =
    sym (put-at p register k point none
    ∙ (ap (λ b. take k register ++ cond b [] (p ∷ []) ++ drop k register) kept
    ∙ append_assoc (take k register) (p ∷ []) (drop k register)))

-- a position put over what is left without it
pub put-without : (p : Position) (register : Register) → put p (without p.account p.class register) ≡ put p register
put-without p register =
    let other = λ (x : Position). not (is_position p.account p.class x) in
    ap (λ ys. ys ++ unless_fresh p ++ filter (λ x. stands_before p x) (filter other register))
    (filter-within other (λ x. stands_before x p) (λ x e. ap not (keys-apart x.account x.class p.account p.class e)) register)
    ∙ ap (λ ys. filter (λ x. stands_before x p) register ++ unless_fresh p ++ ys)
    (filter-within other (λ x. stands_before p x) (λ x e. ap not (keys-apart-later p.account p.class x.account x.class e)) register)

-- ---- what holds of every register

pub without-register : (a c : ℕ) (register : Register) → IsRegister register → IsRegister (without a c register)
without-register a c register is = record {
  ordered = AllPairs-filter (λ x y. stands_before x y ≡ true) (λ other. not (is_position a c other)) register is.ordered;
  kept = All-filter (λ other. not (is_position a c other)) (λ x. is_fresh x ≡ false) register is.kept;
}

own-all : (P : Position → Type 0) (p : Position) → (is_fresh p ≡ false → P p) → All P (unless_fresh p)
own-all P p here = elim (is_fresh p) as (λ b. is_fresh p ≡ b → All P (cond b [] (p ∷ []))) [
  | true ↦ λ e. All-nil P
  | false ↦ λ e. All-cons P p [] (here e) (All-nil P)
] refl

own-pairs : (R : Position → Position → Type 0) (p : Position) → AllPairs R (unless_fresh p)
own-pairs R p = elim (is_fresh p) as (λ b. AllPairs R (cond b [] (p ∷ []))) [
  | true ↦ λ i j d lt within. absurd (omega (arith, within))
  | false ↦ λ i j d lt within. absurd (omega (arith, lt, within))
]

pub put-register : (p : Position) (register : Register) → IsRegister register → IsRegister (put p register)
put-register p register is =
    let R = λ (x : Position) (y : Position). stands_before x y ≡ true in
    let K = λ (x : Position). is_fresh x ≡ false in
    let less = λ (x : Position). stands_before x p in
    let more = λ (x : Position). stands_before p x in
    let before = filter less register in
    let behind = filter more register in
    let are_before = filter_passes less register in
    let are_behind = filter_passes more register in
    record {
      ordered =
          pairs-append R (before ++ unless_fresh p) behind
          (pairs-append R before (unless_fresh p) (AllPairs-filter R less register is.ordered) (own-pairs R p)
          (λ k d short. own-all (λ y. R (get_or before k d) y) p (λ e. are_before k d short)))
          (AllPairs-filter R more register is.ordered)
          (All-append (λ x. All (R x) behind) before (unless_fresh p)
          (λ k d short i e within.
          let x = get_or before k d in
          let y = get_or behind i e in
          keys-next x.account x.class p.account p.class y.account y.class (are_before k d short) (are_behind i e within))
          (own-all (λ x. All (R x) behind) p (λ e. are_behind)));
      kept =
          All-append K (before ++ unless_fresh p) behind
          (All-append K before (unless_fresh p) (All-filter less K register is.kept) (own-all K p (λ e. e)))
          (All-filter more K register is.kept);
    }

-- what is read in the place where the position of the key stands
pub read-at : (a c : ℕ) (register : Register) (k : ℕ) (x : Position) → option_map_or (is_position a c) (slice_get register k) false ≡ true → x ≡ get_or register k x → slice_get register k ≡ Some x
read-at a c [] k x stands is = absurd (true≢false (sym stands))
read-at a c (y ∷ ys) zero x stands is = ap Some (sym is)
read-at a c (y ∷ ys) (suc i) x stands is = read-at a c ys i x stands is

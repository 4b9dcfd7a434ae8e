-- Tests of numbers, where it is known how they come out.
use Rattle.std.proofs.Common.{Bool, arith, cond, false, inl, inr, nat_le, nat_lt, refl, suc, sym, true, ℕ, ◌&&◌, ◌+◌, ◌<◌, ◌==◌, ◌||◌, ◌∙◌, ◌≡◌, ◌≤◌}
use Rattle.std.proofs.lemmas.Bool.{cases_lt, true≢false}
use Rattle.std.proofs.lemmas.Bool.Decides.{eqb_tells, leb_tells}

pub lt-yes : (a b : ℕ) → a < b → nat_lt a b ≡ true
lt-yes a b h = elim (leb_tells (suc a) b) [
  | inl (t, _) ↦ t
  | inr (t, late) ↦ absurd (omega (arith, h, late))
]

pub lt-no : (a b : ℕ) → b ≤ a → nat_lt a b ≡ false
lt-no a b h = elim (leb_tells (suc a) b) [
  | inl (t, early) ↦ absurd (omega (arith, h, early))
  | inr (t, _) ↦ t
]

pub eq-yes : (a b : ℕ) → a ≡ b → (a == b) ≡ true
eq-yes a b h = elim (eqb_tells a b) [
  | inl (t, _) ↦ t
  | inr (t, apart) ↦ absurd (apart h)
]

pub eq-no : (a b : ℕ) → (a ≡ b → ⊥) → (a == b) ≡ false
eq-no a b h = elim (eqb_tells a b) [
  | inl (t, same) ↦ absurd (h same)
  | inr (t, _) ↦ t
]

pub not-zero : (n : ℕ) → (n == 0) ≡ false → 1 ≤ n
not-zero n t = elim (eqb_tells n 0) [
  | inl (yes_is, zero_is) ↦ absurd (true≢false (sym yes_is ∙ t))
  | inr (no_is, apart) ↦ elim (cases_lt 0 n) [ inl some ↦ some | inr le ↦ absurd (apart (omega (arith, le))) ]
]

-- of two numbers one is less, or they are the same
pub three : (a b n : ℕ) → cond (nat_lt a b) n 0 + (cond (a == b) n 0 + cond (nat_lt b a) n 0) ≡ n
three a b n = elim (cases_lt a b) [
  | inl low ↦ rw (lt-yes a b low, lt-no b a (omega (arith, low)), eq-no a b (λ e. omega (arith, e, low))) (omega arith)
  | inr high ↦ elim (cases_lt b a) [
    | inl low ↦ rw (lt-no a b high, lt-yes b a low, eq-no a b (λ e. omega (arith, e, low))) (omega arith)
    | inr same ↦ rw (lt-no a b high, lt-no b a same, eq-yes a b (omega (arith, high, same))) (omega arith)
  ]
]

pub three-two : (a b c d n : ℕ) → cond (nat_lt a c || (a == c && nat_lt b d)) n 0 + (cond (a == c && b == d) n 0 + cond (nat_lt c a || (c == a && nat_lt d b)) n 0) ≡ n
three-two a b c d n = elim (cases_lt a c) [
  | inl low ↦ rw (lt-yes a c low, lt-no c a (omega (arith, low)), eq-no a c (λ e. omega (arith, e, low)), eq-no c a (λ e. omega (arith, e, low))) (omega arith)
  | inr high ↦ elim (cases_lt c a) [
    | inl low ↦ rw (lt-no a c high, lt-yes c a low, eq-no a c (λ e. omega (arith, e, low))) (omega arith)
    | inr same ↦ rw (lt-no a c high, lt-no c a same, eq-yes a c (omega (arith, high, same)), eq-yes c a (omega (arith, high, same))) (three b d n)
  ]
]

-- a number is at most another, or past it
pub one-side : (a b n : ℕ) → cond (nat_le a b) n 0 + cond (nat_lt b a) n 0 ≡ n
one-side a b n = elim (leb_tells a b) [
  | inl (t, le) ↦ rw (t, lt-no b a le) (omega arith)
  | inr (t, gt) ↦ rw (t, lt-yes b a gt) (omega arith)
]

pub and-false : (b c : Bool) → c ≡ false → (b && c) ≡ false
and-false true c e = e
and-false false c e = refl

pub same-twice : (b : Bool) (n : ℕ) → cond b (cond b n 0) 0 ≡ cond b n 0
same-twice true n = refl
same-twice false n = refl

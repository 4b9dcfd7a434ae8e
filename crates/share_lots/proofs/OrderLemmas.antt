-- The order of lots by date and number, and by rank: no lot comes before itself, what comes before one comes before all
-- behind it, and of two lots of different numbers, not both free, one comes before the other.
use Rattle.std.proofs.Common.{◌≡◌, ◌≢◌, ℕ, ◌<◌, ◌≤◌, Bool, true, false, not, ◌&&◌, ◌||◌, ◌==◌, nat_lt, refl, sym, ap, ◌∙◌, inl, inr, arith}
use Rattle.std.specs.Prelude.{Decides, ◌⊎◌}
use Rattle.std.proofs.lemmas.Bool.Decides.{Decides-and, Decides-or, Decides-ltb, Decides-eqb}
use Rattle.std.proofs.lemmas.Bool.{cases_lt}
use Rattle.share_lots.specs.declared.lot.Lot.{Lot}
use Rattle.share_lots.specs.Lots.{before_by_date, ranks_before}

-- an earlier date, or the same date and a smaller number
abbrev Earlier : Lot → Lot → Type 0
Earlier a b = (a.day < b.day) ⊎ ((a.day ≡ b.day) × (a.number < b.number))

before-tells : (a b : Lot) → Decides (before_by_date a b) (Earlier a b)
before-tells a b =
    Decides-or (nat_lt a.day b.day) (a.day == b.day && nat_lt a.number b.number) (Decides-ltb a.day b.day)
    (Decides-and (a.day == b.day) (nat_lt a.number b.number) (Decides-eqb a.day b.day) (Decides-ltb a.number b.number))

Earlier-next : (a b c : Lot) → Earlier a b → Earlier b c → Earlier a c
Earlier-next a b c (inl h) (inl k) = inl (omega arith)
Earlier-next a b c (inl h) (inr k) = inl (omega (arith, k.0))
Earlier-next a b c (inr h) (inl k) = inl (omega (arith, h.0))
Earlier-next a b c (inr h) (inr k) = inr (omega (arith, h.0, k.0), omega (arith, h.1, k.1))

Earlier-itself : (a b : Lot) → a ≡ b → ¬ Earlier a b
Earlier-itself a b same (inl h) = let e : a.day ≡ b.day = ap (λ (l : Lot). l.day) same in absurd (omega arith)
Earlier-itself a b same (inr h) = let e : a.number ≡ b.number = ap (λ (l : Lot). l.number) same in absurd (omega (arith, h.1))

Earlier-either : (a b : Lot) → a.number ≢ b.number → ¬ Earlier a b → Earlier b a
Earlier-either a b apart none = elim (cases_lt b.day a.day) [
  | inl lt ↦ inl lt
  | inr le ↦ elim (cases_lt a.day b.day) [
    | inl lt ↦ absurd (none (inl lt))
    | inr ge ↦ elim (cases_lt b.number a.number) [
      | inl lt ↦ inr (omega arith, lt)
      | inr low ↦ absurd (none (inr (omega arith, number-lt a.number b.number apart low)))
    ]
  ]
]
  where
    number-lt : (m n : ℕ) → m ≢ n → m ≤ n → m < n
    number-lt m n apart low = elim (cases_lt m n) [ inl lt ↦ lt | inr ge ↦ absurd (apart (omega arith)) ]

not_true : (b : Bool) → ¬ (b ≡ true) → b ≡ false
not_true true none = absurd (none refl)
not_true false none = refl

pub before-next : (a b c : Lot) → before_by_date a b ≡ true → before_by_date b c ≡ true → before_by_date a c ≡ true
before-next a b c h k = (before-tells a c).1 (Earlier-next a b c ((before-tells a b).0 h) ((before-tells b c).0 k))

pub before-itself : (a b : Lot) → a ≡ b → before_by_date a b ≡ false
before-itself a b same = not_true (before_by_date a b) (λ h. Earlier-itself a b same ((before-tells a b).0 h))

pub before-back : (a b : Lot) → before_by_date a b ≡ true → before_by_date b a ≡ false
before-back a b h = not_true (before_by_date b a) (λ k. Earlier-itself a a refl (Earlier-next a b a ((before-tells a b).0 h) ((before-tells b a).0 k)))

pub before-either : (a b : Lot) → a.number ≢ b.number → before_by_date a b ≡ false → before_by_date b a ≡ true
before-either a b apart none = (before-tells b a).1 (Earlier-either a b apart (λ h. (let clash : true ≡ false = sym ((before-tells a b).1 h) ∙ none in cc)))

-- nothing comes before the free lot
pub ranks-owned : (a b : Lot) → ranks_before a b ≡ true → b.free ≡ false
ranks-owned a b h = by b.free h
  where
    by : (f : Bool) → (not f && (a.free || before_by_date a b)) ≡ true → f ≡ false
    by true h = cc
    by false h = refl

-- two lots that aren't free go by date and number
pub ranks-dated : (a b : Lot) → a.free ≡ false → b.free ≡ false → ranks_before a b ≡ before_by_date a b
ranks-dated a b f g = ap (λ t. not t && (a.free || before_by_date a b)) g ∙ ap (λ t. t || before_by_date a b) f

ranks-free : (a b : Lot) → a.free ≡ true → b.free ≡ false → ranks_before a b ≡ true
ranks-free a b f g = ap (λ t. not t && (a.free || before_by_date a b)) g ∙ ap (λ t. t || before_by_date a b) f

not_before : (a b : Lot) → b.free ≡ true → ranks_before a b ≡ false
not_before a b g = ap (λ t. not t && (a.free || before_by_date a b)) g

pub ranks-next : (a b c : Lot) → ranks_before a b ≡ true → ranks_before b c ≡ true → ranks_before a c ≡ true
ranks-next a b c h k = by a.free refl
  where
    by : (f : Bool) → a.free ≡ f → ranks_before a c ≡ true
    by true e = ranks-free a c e (ranks-owned b c k)
    by false e =
        let first = sym (ranks-dated a b e (ranks-owned a b h)) ∙ h in
        let second = sym (ranks-dated b c (ranks-owned a b h) (ranks-owned b c k)) ∙ k in
        ranks-dated a c e (ranks-owned b c k) ∙ before-next a b c first second

pub ranks-itself : (a b : Lot) → a ≡ b → ranks_before a b ≡ false
ranks-itself a b same = by b.free refl
  where
    by : (f : Bool) → b.free ≡ f → ranks_before a b ≡ false
    by true e = not_before a b e
    by false e = ranks-dated a b (ap (λ (l : Lot). l.free) same ∙ e) e ∙ before-itself a b same

pub ranks-back : (a b : Lot) → ranks_before a b ≡ true → ranks_before b a ≡ false
ranks-back a b h = not_true (ranks_before b a) (λ k. (let both = ranks-next a b a h k in let none = ranks-itself a a refl in let clash : true ≡ false = sym both ∙ none in cc))

-- of two lots of different numbers, not both free, one comes first
pub ranks-either : (a b : Lot) → a.number ≢ b.number → (b.free ≡ true → a.free ≡ false) → ranks_before a b ≡ false → ranks_before b a ≡ true
ranks-either a b apart one none = by a.free b.free refl refl
  where
    by : (f g : Bool) → a.free ≡ f → b.free ≡ g → ranks_before b a ≡ true
    by true true e k = (let owned = one k in let clash : true ≡ false = sym e ∙ owned in cc)
    by true false e k = (let first = ranks-free a b e k in let clash : true ≡ false = sym first ∙ none in cc)
    by false true e k = ranks-free b a k e
    by false false e k = ranks-dated b a k e ∙ before-either a b apart (sym (ranks-dated a b e k) ∙ none)

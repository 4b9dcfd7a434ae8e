-- The register: one position in each place, by account and then class, and what a position put into it changes.
use Rattle.std.proofs.Common.{All, Bool, [], ap, arith, cond, count_by, false, filter, get_or, inl, inr, nat_lt, refl, sum_by, sym, true, ℕ, ◌&&◌, ◌++◌, ◌+◌, ◌<◌, ◌==◌, ◌∙◌, ◌∷◌, ◌≡◌, ◌≤◌, ◌⊎◌}
use Rattle.std.proofs.lemmas.Bool.{cases_lt, or_from, true≢false}
use Rattle.std.proofs.lemmas.Bool.Decides.{Decides-and, Decides-eqb, Decides-ltb, Decides-or}
use Rattle.std.proofs.lemmas.List.Elements.{All-append, All-cons, All-head, All-nil, All-tail, filter_passes}
use Rattle.std.proofs.lemmas.List.Kept.{AllPairs-filter}
use Rattle.std.proofs.lemmas.List.Sums.{sum_by-append, sum_by-cons}
use Rattle.std.specs.Prelude.{AllPairs, Decides}
use Rattle.register_laws.proofs.Comparisons.{and-false, lt-no, same-twice, three-two}
use Rattle.register_laws.proofs.ListParts.{pairs-append}
use Rattle.register_laws.proofs.Sums.{sum-filtered, sum-found, sum-same, sum-three}
use Rattle.register_laws.specs.ReplayKeeps.{AreInOrder}
use Rattle.register_machine.proofs.FoundFacts.{own-account, own-class, own-place, same-place}
use Rattle.register_machine.specs.replay.Positions.{Position, Register, fresh_position, is_fresh, is_position, position_of, put, stands_before, unless_fresh}
use Rattle.share_lots.proofs.LotLemmas.{AllPairs-head, AllPairs-tail}

-- ---- what a position is put for

-- a register falls into what stands before a position, in its place and behind it
pub thirds : (f : Position → ℕ) (p : Position) (register : Register) → sum_by f (filter (λ other. stands_before other p) register) + (sum_by f (filter (is_position p.account p.class) register) + sum_by f (filter (λ other. stands_before p other) register)) ≡ sum_by f register
thirds f p register =
    rw (sum-filtered f (λ other. stands_before other p) register, sum-filtered f (is_position p.account p.class) register, sum-filtered f (λ other. stands_before p other) register)
    (sum-three (λ x. cond (stands_before x p) (f x) 0) (λ x. cond (is_position p.account p.class x) (f x) 0) (λ x. cond (stands_before p x) (f x) 0) f (λ x. three-two x.account x.class p.account p.class (f x)) register)

pub put-parts : (f : Position → ℕ) (p : Position) (register : Register) → sum_by f (put p register) ≡ sum_by f (filter (λ other. stands_before other p) register) + (sum_by f (unless_fresh p) + sum_by f (filter (λ other. stands_before p other) register))
put-parts f p register =
    let before = filter (λ other. stands_before other p) register in
    let behind = filter (λ other. stands_before p other) register in
    let first = sum_by-append f (before ++ unless_fresh p) behind in
    let second = sum_by-append f before (unless_fresh p) in
    first ∙ (ap (λ n. n + sum_by f behind) second ∙ omega arith)

pub unless_fresh-sum : (f : Position → ℕ) (p : Position) → (is_fresh p ≡ true → f p ≡ 0) → sum_by f (unless_fresh p) ≡ f p
unless_fresh-sum f p none =
    elim (is_fresh p) as (λ b. is_fresh p ≡ b → sum_by f (cond b [] (p ∷ [])) ≡ f p) [
      | true ↦ λ e. sym (none e)
      | false ↦ λ e. omega (arith, sum_by-cons f p [])
    ] refl

pub unless_fresh-le : (f : Position → ℕ) (p : Position) → sum_by f (unless_fresh p) ≤ f p
unless_fresh-le f p =
    elim (is_fresh p) as (λ b. sum_by f (cond b [] (p ∷ [])) ≤ f p) [
      | true ↦ omega arith
      | false ↦ omega (arith, sum_by-cons f p [])
    ]

-- a position comes in the stead of those in its place
pub put-sum : (f : Position → ℕ) (p : Position) (register : Register) → (is_fresh p ≡ true → f p ≡ 0) → sum_by f (put p register) + sum_by f (filter (is_position p.account p.class) register) ≡ sum_by f register + f p
put-sum f p register none =
    omega (arith, put-parts f p register, thirds f p register, unless_fresh-sum f p none)

-- ---- what stands in a place

abbrev pub f_at : (Position → ℕ) → ℕ → ℕ → Position → ℕ
f_at f a c x = cond (is_position a c x) (f x) 0

abbrev pub mass : (Position → ℕ) → ℕ → ℕ → Register → ℕ
mass f a c register = sum_by (f_at f a c) register

-- no place is taken twice
abbrev pub at_place : ℕ → ℕ → Position → ℕ
at_place a c x = cond (is_position a c x) 1 0

unfoldable pub Once : Register → Type 0
Once register = (a c : ℕ) → count_by (is_position a c) register ≤ 1

-- what a place has is that of its position
pub mass-own : (f : Position → ℕ) (register : Register) (a c : ℕ) → f (fresh_position a c) ≡ 0 → Once register → mass f a c register ≡ f (position_of register a c)
unfolding Once
mass-own f register a c void once = sum-found f (is_position a c) (fresh_position a c) void register (once a c)

-- what the place of a position looked up has
pub own-mass : (f : Position → ℕ) (register : Register) (a c : ℕ) → f (fresh_position a c) ≡ 0 → Once register → mass f (position_of register a c).account (position_of register a c).class register ≡ f (position_of register a c)
own-mass f register a c void once =
    ap (λ x. mass f x (position_of register a c).class register) (own-account register a c)
    ∙ (ap (λ x. mass f a x register) (own-class register a c) ∙ mass-own f register a c void once)

-- a position put elsewhere leaves a place as it is
pub put-elsewhere : (f : Position → ℕ) (a c : ℕ) (p : Position) (register : Register) → is_position a c p ≡ false → mass f a c (put p register) ≡ mass f a c register
put-elsewhere f a c p register away =
    let moved = put-sum (f_at f a c) p register (λ e. rw away refl) in
    let none : f_at f a c p ≡ 0 = rw away refl in
    let off : sum_by (f_at f a c) (filter (is_position p.account p.class) register) ≡ 0 =
    sum-filtered (f_at f a c) (is_position p.account p.class) register
    ∙ (sum-same (λ x. cond (is_position p.account p.class x) (f_at f a c x) 0) (λ x. 0) apart register ∙ zeros register) in
    omega (arith, moved, none, off)
  where
    apart : (x : Position) → cond (is_position p.account p.class x) (f_at f a c x) 0 ≡ 0
    apart x =
        elim (is_position p.account p.class x) as (λ b. is_position p.account p.class x ≡ b → cond b (f_at f a c x) 0 ≡ 0) [
          | true ↦ λ e.
              let is = same-place p.account p.class x e in
              let other : is_position a c x ≡ false = rw (is.0, is.1) away in
              rw other refl
          | false ↦ λ e. refl
        ] refl

    zeros : (xs : Register) → sum_by (λ (x : Position). 0) xs ≡ 0
    zeros [] = refl
    zeros (x ∷ xs) = omega (arith, sum_by-cons (λ (y : Position). 0) x xs, zeros xs)

-- and its own place has it
pub put-own : (f : Position → ℕ) (p : Position) (register : Register) → (is_fresh p ≡ true → f p ≡ 0) → mass f p.account p.class (put p register) ≡ f p
put-own f p register none =
    let here : f_at f p.account p.class p ≡ f p = rw (own-place p) refl in
    let moved = put-sum (f_at f p.account p.class) p register (λ e. here ∙ none e) in
    let own : sum_by (f_at f p.account p.class) (filter (is_position p.account p.class) register) ≡ sum_by (f_at f p.account p.class) register =
    sum-filtered (f_at f p.account p.class) (is_position p.account p.class) register
    ∙ sum-same (λ x. cond (is_position p.account p.class x) (f_at f p.account p.class x) 0) (f_at f p.account p.class) (λ x. same-twice (is_position p.account p.class x) (f x)) register in
    omega (arith, moved, own, here)

-- ---- the order by account and then class

abbrev pub Before : Position → Position → Type 0
Before p q = (p.account < q.account) ⊎ ((p.account ≡ q.account) × (p.class < q.class))

before-tells : (p q : Position) → Decides (stands_before p q) (Before p q)
before-tells p q =
    Decides-or (nat_lt p.account q.account) (p.account == q.account && nat_lt p.class q.class) (Decides-ltb p.account q.account)
    (Decides-and (p.account == q.account) (nat_lt p.class q.class) (Decides-eqb p.account q.account) (Decides-ltb p.class q.class))

Before-next : (p q r : Position) → Before p q → Before q r → Before p r
Before-next p q r (inl h) (inl k) = inl (omega arith)
Before-next p q r (inl h) (inr k) = inl (omega (arith, k.0))
Before-next p q r (inr h) (inl k) = inl (omega (arith, h.0))
Before-next p q r (inr h) (inr k) = inr (omega (arith, h.0, k.0), omega (arith, h.1, k.1))

pub before-next : (p q r : Position) → stands_before p q ≡ true → stands_before q r ≡ true → stands_before p r ≡ true
before-next p q r h k =
    (before-tells p r).1 (Before-next p q r ((before-tells p q).0 h) ((before-tells q r).0 k))

-- a position isn't before one in its own place
pub not-before : (p q : Position) → p.account ≡ q.account → p.class ≡ q.class → stands_before p q ≡ false
not-before p q account class =
    or_from (nat_lt p.account q.account) (p.account == q.account && nat_lt p.class q.class)
    (lt-no p.account q.account (omega (arith, account)))
    (and-false (p.account == q.account) (nat_lt p.class q.class) (lt-no p.class q.class (omega (arith, class))))

-- of two places one is before the other, or they are the same
pub data Order (p q : Position) : Type 0 where
  First : stands_before p q ≡ true → stands_before q p ≡ false → Order p q
  Same : p.account ≡ q.account → p.class ≡ q.class → Order p q
  Later : stands_before p q ≡ false → stands_before q p ≡ true → Order p q

pub not-both : (p q : Position) → stands_before p q ≡ true → stands_before q p ≡ false
not-both p q h =
    elim (stands_before q p) as (λ b. stands_before q p ≡ b → b ≡ false) [
      | true ↦ λ k. absurd (true≢false (sym (before-next p q p h k) ∙ not-before p p refl refl))
      | false ↦ λ k. refl
    ] refl

pub order-of : (p q : Position) → Order p q
order-of p q = elim (cases_lt p.account q.account) [
  | inl low ↦ first (inl low)
  | inr high ↦ elim (cases_lt q.account p.account) [
    | inl low ↦ later (inl low)
    | inr same ↦ elim (cases_lt p.class q.class) [
      | inl low ↦ first (inr (omega (arith, high, same), low))
      | inr above ↦ elim (cases_lt q.class p.class) [
        | inl low ↦ later (inr (omega (arith, high, same), low))
        | inr below ↦ Order.Same (omega (arith, high, same)) (omega (arith, above, below))
      ]
    ]
  ]
]
  where
    first : Before p q → Order p q
    first h = let is = (before-tells p q).1 h in Order.First is (not-both p q is)

    later : Before q p → Order p q
    later h = let is = (before-tells q p).1 h in Order.Later (not-both q p is) is

-- a register in order stays so
pub put-in_order : (p : Position) (register : Register) → AreInOrder register → AreInOrder (put p register)
put-in_order p register ordered =
    let R = λ (x : Position) (y : Position). stands_before x y ≡ true in
    let before = filter (λ other. stands_before other p) register in
    let behind = filter (λ other. stands_before p other) register in
    let are_before = filter_passes (λ other. stands_before other p) register in
    let are_behind = filter_passes (λ other. stands_before p other) register in
    pairs-append R (before ++ unless_fresh p) behind
    (pairs-append R before (unless_fresh p) (AllPairs-filter R (λ other. stands_before other p) register ordered) own
    (λ k d short. all-own (λ y. stands_before (get_or before k d) y ≡ true) (are_before k d short)))
    (AllPairs-filter R (λ other. stands_before p other) register ordered)
    (All-append (λ x. All (R x) behind) before (unless_fresh p)
    (λ k d short i e within. before-next (get_or before k d) p (get_or behind i e) (are_before k d short) (are_behind i e within))
    (all-own (λ x. All (R x) behind) are_behind))
  where
    own : AllPairs (λ x y. stands_before x y ≡ true) (unless_fresh p)
    own = elim (is_fresh p) as (λ b. AllPairs (λ x y. stands_before x y ≡ true) (cond b [] (p ∷ []))) [
      | true ↦ λ i j d lt within. absurd (omega (arith, within))
      | false ↦ λ i j d lt within. absurd (omega (arith, lt, within))
    ]

    all-own : (P : Position → Type 0) → P p → All P (unless_fresh p)
    all-own P here = elim (is_fresh p) as (λ b. All P (cond b [] (p ∷ []))) [
      | true ↦ All-nil P
      | false ↦ All-cons P p [] here (All-nil P)
    ]

-- in order no place is taken twice
pub once : (register : Register) → AreInOrder register → Once register
unfolding Once
once [] ordered a c = omega arith
once (x ∷ xs) ordered a c =
    let behind = AllPairs-head (λ p q. stands_before p q ≡ true) x xs ordered in
    let rest : sum_by (at_place a c) xs ≤ 1 = once xs (AllPairs-tail (λ p q. stands_before p q ≡ true) x xs ordered) a c in
    by_first behind rest (is_position a c x) refl (sum_by-cons (at_place a c) x xs)
  where
    nowhere : (p : Position) → p.account ≡ a → p.class ≡ c → (ys : Register) → All (λ y. stands_before p y ≡ true) ys → sum_by (at_place a c) ys ≡ 0
    nowhere p account class [] all = refl
    nowhere p account class (y ∷ ys) all =
        let first = All-head (λ y. stands_before p y ≡ true) y ys all in
        omega (arith, sum_by-cons (at_place a c) y ys, one (is_position a c y) refl, nowhere p account class ys (All-tail (λ y. stands_before p y ≡ true) y ys all))
      where
        one : (b : Bool) → is_position a c y ≡ b → ◌≡◌ {A = ℕ} (cond b 1 0) 0
        one false e = refl
        one true e =
            let is = same-place a c y e in
            absurd (true≢false (sym (All-head (λ y. stands_before p y ≡ true) y ys all) ∙ not-before p y (account ∙ sym is.0) (class ∙ sym is.1)))

    by_first : All (λ y. stands_before x y ≡ true) xs → sum_by (at_place a c) xs ≤ 1 → (b : Bool) → is_position a c x ≡ b → sum_by (at_place a c) (x ∷ xs) ≡ cond b 1 0 + sum_by (at_place a c) xs → sum_by (at_place a c) (x ∷ xs) ≤ 1
    by_first behind rest false e s = omega (arith, s, rest)
    by_first behind rest true e s =
        let is = same-place a c x e in
        omega (arith, s, nowhere x is.0 is.1 xs behind)

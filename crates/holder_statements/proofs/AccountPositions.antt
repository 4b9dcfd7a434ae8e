-- A register in order has the positions of an account by rising class: looked up one by one they are its part.
use Rattle.std.proofs.Common.{All, Bool, List, None, Option, Some, [], ap, arith, cond, false, find, get_or, inl, inr, length, map, nat_eq, nat_lt, not, refl, suc, sym, true, zero, ℕ, ◌&&◌, ◌+◌, ◌<◌, ◌==◌, ◌||◌, ◌∙◌, ◌∷◌, ◌≡◌, ◌≤◌}
use Rattle.std.proofs.lemmas.Bool.{true≢false}
use Rattle.std.proofs.lemmas.Bool.Decides.{eqb_tells, nat_tests}
use Rattle.std.proofs.lemmas.List.Elements.{All-head, All-tail}
use Rattle.std.specs.List.{cons_option, filter_map, list_any}
use Rattle.std.specs.Prelude.{option_and_then, option_map}
use Rattle.holder_statements.specs.AccountPositions.{AreListedOf, AreRising, text_in, text_of_holding}
use Rattle.household_positions.proofs.ListParts.{find-none}
use Rattle.household_positions.specs.Register.{AreInOrder}
use Rattle.register_machine.specs.queries.Show.{is_shown, position_text, positions_of}
use Rattle.register_machine.specs.replay.Positions.{Position, Register, is_position, stands_before}
use Rattle.share_lots.proofs.LotLemmas.{AllPairs-head, AllPairs-tail}

alike : {X : Type 0} (f g : ℕ → Option X) (ns : List ℕ) → All (λ n. f n ≡ g n) ns → filter_map f ns ≡ filter_map g ns
alike f g [] same = refl
alike f g (n ∷ ns) same =
    ap (λ o. cons_option o (filter_map f ns)) (All-head (λ m. f m ≡ g m) n ns same)
    ∙ ap (cons_option (g n)) (alike f g ns (All-tail (λ m. f m ≡ g m) n ns same))

none-in : (account : ℕ) (classes : List ℕ) → filter_map (text_in [] account) classes ≡ []
none-in account [] = refl
none-in account (class ∷ classes) = none-in account classes

-- a position elsewhere is passed over
skips : (account class : ℕ) (p : Position) (ps : Register) → is_position account class p ≡ false → text_in (p ∷ ps) account class ≡ text_in ps account class
skips account class p ps away =
    ap (λ b. option_and_then (text_of_holding class) (option_map (λ q. q.holding) (cond b (Some p) (find (is_position account class) ps)))) away

finds : (account class : ℕ) (p : Position) (ps : Register) → is_position account class p ≡ true → text_in (p ∷ ps) account class ≡ text_of_holding class p.holding
finds account class p ps is =
    ap (λ b. option_and_then (text_of_holding class) (option_map (λ q. q.holding) (cond b (Some p) (find (is_position account class) ps)))) is

finds-none : (account class : ℕ) (ps : Register) → All (λ q. is_position account class q ≡ false) ps → text_in ps account class ≡ None
finds-none account class ps away =
    ap (λ o. option_and_then (text_of_holding class) (option_map (λ q. q.holding) o)) (find-none (is_position account class) ps away)

-- what is shown of a position is its text
head-shown : (account : ℕ) (p : Position) (qs : Register) → (p.account == account) ≡ true → cons_option (text_of_holding p.class p.holding) (map position_text qs) ≡ map position_text (cond (is_shown account p) (p ∷ qs) qs)
head-shown account p qs own = by_lots (length p.holding.lots == 0) (p.account == account) own
  where
    by_lots : (b o : Bool) → o ≡ true → cons_option (cond b None (Some (position_text p))) (map position_text qs) ≡ map position_text (cond (o && not b) (p ∷ qs) qs)
    by_lots true true e = refl
    by_lots false true e = refl
    by_lots b false e = absurd (true≢false (sym e))

head-other : (account : ℕ) (p : Position) (qs : Register) → (p.account == account) ≡ false → cond (is_shown account p) (p ∷ qs) qs ≡ qs
head-other account p qs other =
    ap (λ o. cond (o && not (length p.holding.lots == 0)) (p ∷ qs) qs) other

other-place : (account class : ℕ) (p : Position) → (p.account == account) ≡ false → is_position account class p ≡ false
other-place account class p other = ap (λ b. b && p.class == class) other

other-class : (account class : ℕ) (p : Position) → (p.class == class) ≡ false → is_position account class p ≡ false
other-class account class p other = by (p.account == account) (p.class == class) other
  where
    by : (a b : Bool) → b ≡ false → (a && b) ≡ false
    by true b e = e
    by false b e = refl

own-place : (account class : ℕ) (p : Position) → (p.account == account) ≡ true → (p.class == class) ≡ true → is_position account class p ≡ true
own-place account class p own is = ap (λ b. b && p.class == class) own ∙ is

unequal : (a b : ℕ) → a < b → (a == b) ≡ false
unequal a b = grind (arith, nat_tests)

unequal-back : (a b : ℕ) → b < a → (a == b) ≡ false
unequal-back a b = grind (arith, nat_tests)

-- of one account, what stands behind has a greater class
above : (a b c d account : ℕ) → (nat_lt a c || (a == c && nat_lt b d)) ≡ true → a ≡ account → c ≡ account → b < d
above a b c d account = grind (arith, nat_tests)

pub or-second : (a b : Bool) → (a || b) ≡ true → a ≡ false → b ≡ true
or-second true b e is = absurd (true≢false is)
or-second false b e is = e

-- a class among those above another is above it
among-above : (low q : ℕ) (cs : List ℕ) → All (λ c. low < c) cs → list_any (nat_eq q) cs ≡ true → low < q
among-above low q [] all is = absurd (true≢false (sym is))
among-above low q (c ∷ cs) all among = elim (eqb_tells q c) [
  | inl (is, same) ↦ (let first = All-head (λ m. low < m) c cs all in omega (arith, first, same))
  | inr (away, differs) ↦ among-above low q cs (All-tail (λ m. low < m) c cs all) (or-second (nat_eq q c) (list_any (nat_eq q) cs) among away)
]

-- what is claimed of a register and classes
abbrev AreShown : ℕ → Register → List ℕ → Type 0
AreShown account register classes =
    AreInOrder register → AreRising classes → AreListedOf account classes register
    → filter_map (text_in register account) classes ≡ map position_text (positions_of register account)

-- a position of another account first
other-first : (account : ℕ) (p : Position) (ps : Register) (classes : List ℕ) → (p.account == account) ≡ false → AreShown account ps classes → AreShown account (p ∷ ps) classes
other-first account p ps classes other rest ordered rising listed =
    alike (text_in (p ∷ ps) account) (text_in ps account) classes (λ i d short. skips account (get_or classes i d) p ps (other-place account (get_or classes i d) p other))
    ∙ (rest (AllPairs-tail (λ a b. stands_before a b ≡ true) p ps ordered) rising (All-tail (λ (q : Position). q.account ≡ account → list_any (nat_eq q.class) classes ≡ true) p ps listed)
    ∙ ap (map position_text) (sym (head-other account p (positions_of ps account) other)))

-- its own position first, in the first class
own-first : (account : ℕ) (p : Position) (ps : Register) (c : ℕ) (cs : List ℕ) → (p.account == account) ≡ true → p.account ≡ account → (p.class == c) ≡ true → p.class ≡ c → AreShown account ps cs → AreShown account (p ∷ ps) (c ∷ cs)
own-first account p ps c cs own same here is rest ordered rising listed =
    ap (λ o. cons_option o (filter_map (text_in (p ∷ ps) account) cs)) (finds account c p ps (own-place account c p own here))
    ∙ (ap (cons_option (text_of_holding c p.holding))
    (alike (text_in (p ∷ ps) account) (text_in ps account) cs (λ i d short. skips account (get_or cs i d) p ps (other-class account (get_or cs i d) p (unequal p.class (get_or cs i d) (let low = over i d short in omega (arith, low, is)))))
    ∙ rest (AllPairs-tail (λ a b. stands_before a b ≡ true) p ps ordered) (AllPairs-tail (λ a b. a < b) c cs rising) later)
    ∙ (ap (λ n. cons_option (text_of_holding n p.holding) (map position_text (positions_of ps account))) (sym is)
    ∙ head-shown account p (positions_of ps account) own))
  where
    over : All (λ m. c < m) cs
    over = AllPairs-head (λ a b. a < b) c cs rising

    later : AreListedOf account cs ps
    later i d short mine =
        let q = get_or ps i d in
        let behind = AllPairs-head (λ a b. stands_before a b ≡ true) p ps ordered in
        let greater = above p.account p.class q.account q.class account (behind i d short) same mine in
        let those = All-tail (λ (x : Position). x.account ≡ account → list_any (nat_eq x.class) (c ∷ cs) ≡ true) p ps listed in
        or-second (nat_eq q.class c) (list_any (nat_eq q.class) cs) (those i d short mine) (unequal-back q.class c (omega (arith, greater, is)))

-- its own position first, in a later class
own-later : (account : ℕ) (p : Position) (ps : Register) (c : ℕ) (cs : List ℕ) → (p.account == account) ≡ true → p.account ≡ account → (p.class == c) ≡ false → AreShown account (p ∷ ps) cs → AreShown account (p ∷ ps) (c ∷ cs)
own-later account p ps c cs own same away rest ordered rising listed =
    ap (λ o. cons_option o (filter_map (text_in (p ∷ ps) account) cs))
    (skips account c p ps (other-class account c p away) ∙ finds-none account c ps nowhere)
    ∙ rest ordered (AllPairs-tail (λ a b. a < b) c cs rising) still
  where
    low : c < p.class
    low =
        let there = or-second (nat_eq p.class c) (list_any (nat_eq p.class) cs) (All-head (λ (q : Position). q.account ≡ account → list_any (nat_eq q.class) (c ∷ cs) ≡ true) p ps listed same) away in
        among-above c p.class cs (AllPairs-head (λ a b. a < b) c cs rising) there

    behind : All (λ (q : Position). stands_before p q ≡ true) ps
    behind = AllPairs-head (λ a b. stands_before a b ≡ true) p ps ordered

    nowhere : All (λ (q : Position). is_position account c q ≡ false) ps
    nowhere i d short =
        let q = get_or ps i d in
        elim (eqb_tells q.account account) [
          | inr (other, differs) ↦ other-place account c q other
          | inl (mine, is) ↦
              (let greater = above p.account p.class q.account q.class account (behind i d short) same is in
              other-class account c q (unequal-back q.class c (omega (arith, greater, low))))
        ]

    higher : (i : ℕ) (d : Position) → i < length (p ∷ ps) → (get_or (p ∷ ps) i d).account ≡ account → c < (get_or (p ∷ ps) i d).class
    higher zero d short mine = low
    higher (suc i) d short mine =
        let q = get_or ps i d in
        let greater = above p.account p.class q.account q.class account (behind i d (omega (arith, short))) same mine in
        omega (arith, greater, low)

    still : AreListedOf account cs (p ∷ ps)
    still i d short mine =
        let q = get_or (p ∷ ps) i d in
        or-second (nat_eq q.class c) (list_any (nat_eq q.class) cs) (listed i d short mine) (unequal-back q.class c (higher i d short mine))

none-listed : (account : ℕ) (p : Position) (ps : Register) → p.account ≡ account → AreShown account (p ∷ ps) []
none-listed account p ps same ordered rising listed =
    absurd (true≢false (sym (All-head (λ (q : Position). q.account ≡ account → list_any (nat_eq q.class) [] ≡ true) p ps listed same)))

within : (account k : ℕ) (register : Register) (classes : List ℕ) → length register + length classes ≤ k → AreShown account register classes
within account k [] classes fits = λ ordered rising listed. none-in account classes
within account zero (p ∷ ps) classes fits = absurd (omega (arith, fits))
within account (suc k) (p ∷ ps) [] fits = elim (eqb_tells p.account account) [
  | inr (other, differs) ↦ other-first account p ps [] other (within account k ps [] (omega (arith, fits)))
  | inl (own, same) ↦ none-listed account p ps same
]
within account (suc k) (p ∷ ps) (c ∷ cs) fits = elim (eqb_tells p.account account) [
  | inr (other, differs) ↦ other-first account p ps (c ∷ cs) other (within account k ps (c ∷ cs) (omega (arith, fits)))
  | inl (own, same) ↦ elim (eqb_tells p.class c) [
    | inl (here, is) ↦ own-first account p ps c cs own same here is (within account k ps cs (omega (arith, fits)))
    | inr (away, differs) ↦ own-later account p ps c cs own same away (within account k (p ∷ ps) cs (omega (arith, fits)))
  ]
]

pub shown-by_classes : (account : ℕ) (register : Register) (classes : List ℕ) → AreInOrder register → AreRising classes → AreListedOf account classes register → filter_map (text_in register account) classes ≡ map position_text (positions_of register account)
shown-by_classes account register classes ordered rising listed =
    within account (length register + length classes) register classes (omega arith) ordered rising listed

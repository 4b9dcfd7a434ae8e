-- Of two positions put into one place the later one alone counts.
use Rattle.std.proofs.Common.{Bool, [], ap, append-nil, cond, false, filter, nat_lt, refl, true, ◌&&◌, ◌++◌, ◌==◌, ◌||◌, ◌∙◌, ◌∷◌, ◌≡◌, ℕ}
use Rattle.std.proofs.lemmas.List.Elements.{filter-append}
use Rattle.register_machine.proofs.FilterFacts.{filter-apart, filter-within}
use Rattle.register_machine.proofs.KeyOrder.{keys-back, keys-itself}
use Rattle.register_machine.specs.replay.Positions.{Position, Register, is_fresh, put, unless_fresh}

abbrev before : ℕ → ℕ → Position → Bool
before a c x = nat_lt x.account a || (x.account == a && nat_lt x.class c)

abbrev behind : ℕ → ℕ → Position → Bool
behind a c x = nat_lt a x.account || (a == x.account && nat_lt c x.class)

abbrev put_at : ℕ → ℕ → Position → Register → Register
put_at a c p register = filter (before a c) register ++ unless_fresh p ++ filter (behind a c) register

own-none : (s : Position → Bool) (p : Position) → s p ≡ false → filter s (unless_fresh p) ≡ []
own-none s p fails = elim (is_fresh p) as (λ b. filter s (cond b [] (p ∷ [])) ≡ []) [
  | true ↦ refl
  | false ↦ ap (λ b. cond b (p ∷ []) []) fails
]

three-parts : (s : Position → Bool) (xs ys zs : Register) → filter s (xs ++ ys ++ zs) ≡ filter s xs ++ filter s ys ++ filter s zs
three-parts s xs ys zs = filter-append s (xs ++ ys) zs ∙ ap (λ l. l ++ filter s zs) (filter-append s xs ys)

put-at_own : (a c : ℕ) (q p : Position) (register : Register) → p.account ≡ a → p.class ≡ c → put_at a c q (put_at a c p register) ≡ put_at a c q register
put-at_own a c q p register at of =
    let s = before a c in
    let t = behind a c in
    let p_before : before a c p ≡ false = ap (λ x. nat_lt x a || (x == a && nat_lt p.class c)) at ∙ (ap (λ y. nat_lt a a || (a == a && nat_lt y c)) of ∙ keys-itself a c) in
    let p_behind : behind a c p ≡ false = ap (λ x. nat_lt a x || (a == x && nat_lt c p.class)) at ∙ (ap (λ y. nat_lt a a || (a == a && nat_lt c y)) of ∙ keys-itself a c) in
    let low : filter (before a c) (put_at a c p register) ≡ filter (before a c) register =
    three-parts (before a c) (filter (before a c) register) (unless_fresh p) (filter (behind a c) register)
    ∙ (rw (filter-within (before a c) (before a c) (λ x e. e) register, own-none (before a c) p p_before, filter-apart (behind a c) (before a c) (λ x e. keys-back a c x.account x.class e) register)
    (append-nil (filter (before a c) register ++ []) ∙ append-nil (filter (before a c) register))) in
    let high : filter (behind a c) (put_at a c p register) ≡ filter (behind a c) register =
    three-parts (behind a c) (filter (before a c) register) (unless_fresh p) (filter (behind a c) register)
    ∙ (rw (filter-apart (before a c) (behind a c) (λ x e. keys-back x.account x.class a c e) register, own-none (behind a c) p p_behind, filter-within (behind a c) (behind a c) (λ x e. e) register) refl) in
    ap (λ l. l ++ unless_fresh q ++ filter (behind a c) (put_at a c p register)) low
    ∙ ap (λ l. filter (before a c) register ++ unless_fresh q ++ l) high

pub put-over : (q p : Position) (register : Register) → p.account ≡ q.account → p.class ≡ q.class → put q (put p register) ≡ put q register
put-over q p register at of =
    ap (λ (r : Register). put q r) (ap (λ a. put_at a p.class p register) at ∙ ap (λ c. put_at q.account c p register) of)
    ∙ put-at_own q.account q.class q p register at of

-- A part of the register: what a position put into the register does to it, and what is found in it.
use Rattle.std.proofs.Common.{Bool, [], ap, append-nil, cond, false, filter, map, refl, sym, true, unwrap_or, ℕ, ◌++◌, ◌∙◌, ◌∷◌, ◌≡◌}
use Rattle.std.proofs.lemmas.Bool.{true≢false}
use Rattle.std.proofs.lemmas.List.Elements.{filter-append}
use Rattle.register_laws.proofs.ListParts.{filter-map, filter-sides, filter-swap, found-within}
use Rattle.register_laws.proofs.PositionsInOrder.{Order, before-next, not-both, order-of}
use Rattle.register_laws.specs.Households.{is_own_position}
use Rattle.register_laws.specs.ReplayKeeps.{AreInOrder}
use Rattle.register_machine.proofs.FoundFacts.{same-place}
use Rattle.register_machine.specs.replay.Positions.{Position, PositionKey, Register, fresh_position, is_fresh, is_position, key_of, position_of, put, stands_before, unless_fresh}

own-fresh : (own : ℕ → Bool) (p : Position) → own p.account ≡ true → filter (is_own_position own) (unless_fresh p) ≡ unless_fresh p
own-fresh own p mine =
    elim (is_fresh p) as (λ b. filter (is_own_position own) (cond b [] (p ∷ [])) ≡ cond b [] (p ∷ [])) [
      | true ↦ refl
      | false ↦ ap (λ c. cond c (p ∷ []) []) mine
    ]

other-fresh : (own : ℕ → Bool) (p : Position) → own p.account ≡ false → filter (is_own_position own) (unless_fresh p) ≡ []
other-fresh own p other =
    elim (is_fresh p) as (λ b. filter (is_own_position own) (cond b [] (p ∷ [])) ≡ []) [
      | true ↦ refl
      | false ↦ ap (λ c. cond c (p ∷ []) []) other
    ]

part-of-put : (own : ℕ → Bool) (p : Position) (register : Register) → filter (is_own_position own) (put p register) ≡ filter (is_own_position own) (filter (λ other. stands_before other p) register) ++ filter (is_own_position own) (unless_fresh p) ++ filter (is_own_position own) (filter (λ other. stands_before p other) register)
part-of-put own p register =
    let before = filter (λ other. stands_before other p) register in
    let behind = filter (λ other. stands_before p other) register in
    filter-append (is_own_position own) (before ++ unless_fresh p) behind
    ∙ ap (λ ys. ys ++ filter (is_own_position own) behind) (filter-append (is_own_position own) before (unless_fresh p))

-- an own position goes into its place in the part
pub put-own-part : (own : ℕ → Bool) (p : Position) (register : Register) → own p.account ≡ true → filter (is_own_position own) (put p register) ≡ put p (filter (is_own_position own) register)
put-own-part own p register mine =
    let q = is_own_position own in
    let less = λ (other : Position). stands_before other p in
    let more = λ (other : Position). stands_before p other in
    part-of-put own p register
    ∙ (ap (λ ys. ys ++ filter q (unless_fresh p) ++ filter q (filter more register)) (filter-swap q less register)
    ∙ (ap (λ ys. filter less (filter q register) ++ ys ++ filter q (filter more register)) (own-fresh own p mine)
    ∙ ap (λ ys. filter less (filter q register) ++ unless_fresh p ++ ys) (filter-swap q more register)))

-- another position leaves the part as it was
pub put-other-part : (own : ℕ → Bool) (p : Position) (register : Register) → AreInOrder register → own p.account ≡ false → filter (is_own_position own) (put p register) ≡ filter (is_own_position own) register
put-other-part own p register ordered other =
    let q = is_own_position own in
    let less = λ (x : Position). stands_before x p in
    let more = λ (x : Position). stands_before p x in
    part-of-put own p register
    ∙ (ap (λ ys. filter q (filter less register) ++ ys ++ filter q (filter more register)) (other-fresh own p other)
    ∙ (ap (λ ys. ys ++ filter q (filter more register)) (append-nil (filter q (filter less register)))
    ∙ filter-sides q less more (λ x y. stands_before x y ≡ true) (λ x mine e. not-both x p e) (λ x mine e. behind x mine (order-of x p) e) past register ordered))
  where
    behind : (x : Position) → own x.account ≡ true → Order x p → stands_before x p ≡ false → stands_before p x ≡ true
    behind x mine (Order.First early late) e = absurd (true≢false (sym early ∙ e))
    behind x mine (Order.Same account class) e = absurd (true≢false (sym mine ∙ (ap own account ∙ other)))
    behind x mine (Order.Later early late) e = late

    past : (x y : Position) → stands_before x y ≡ true → stands_before x p ≡ false → stands_before y p ≡ false
    past x y between e =
        elim (stands_before y p) as (λ b. stands_before y p ≡ b → b ≡ false) [
          | true ↦ λ t. absurd (true≢false (sym (before-next x y p between t) ∙ e))
          | false ↦ λ t. refl
        ] refl

-- an own position is found in the part as in the whole register
pub found-in-part : (own : ℕ → Bool) (register : Register) (account class : ℕ) → own account ≡ true → position_of (filter (is_own_position own) register) account class ≡ position_of register account class
found-in-part own register account class mine =
    ap (λ found. unwrap_or found (fresh_position account class))
    (found-within (is_own_position own) (is_position account class) (λ x e. ap own (same-place account class x e).0 ∙ mine) register)

-- the keys of the part's positions are the own ones among all
abbrev pub is_own_key : (ℕ → Bool) → PositionKey → Bool
is_own_key own key = own key.account

pub keys-of-part : (own : ℕ → Bool) (test : Position → Bool) (register : Register) → map key_of (filter test (filter (is_own_position own) register)) ≡ filter (is_own_key own) (map key_of (filter test register))
keys-of-part own test register =
    ap (map key_of) (filter-swap test (is_own_position own) register)
    ∙ sym (filter-map (is_own_key own) key_of (filter test register))

-- That `are_ordered` keeps its contract.
use Rattle.std.proofs.Common.{◌≡◌, ℕ, suc, ◌-◌, ◌+◌, ◌<◌, ◌≤◌, true, List, [], ◌∷◌, length, get_or, drop, drop-cons, refl, ap, subst, sym, ◌∙◌, arith, length-drop}
use Rattle.agent_events.specs.declared.checkpoint.PositionRow.{PositionRow}
use Rattle.state_rows.specs.Rules.{comes_before, are_ordered}
use Rattle.state_rows.proofs.rules.are_ordered.Goals as goal

-- at most one rises
few_rise : (xs : List PositionRow) → length xs ≤ 1 → are_ordered xs ≡ true
few_rise [] few = refl
few_rise (x ∷ []) few = refl
few_rise (x ∷ next ∷ xs) few = absurd (omega arith)

-- one step past a position that comes before the next
past : (xs : List PositionRow) (k : ℕ) (x y : PositionRow) → suc k < length xs → x ≡ get_or xs k x → y ≡ get_or xs (suc k) y → comes_before x y ≡ true → are_ordered (drop k xs) ≡ are_ordered (drop (suc k) xs)
past xs k x y lt x-is y-is before =
    let second : drop (suc k) xs ≡ y ∷ drop (suc (suc k)) xs = drop-cons xs (suc k) y lt ∙ ap (λ z. z ∷ drop (suc (suc k)) xs) (sym y-is) in
    let first : drop k xs ≡ x ∷ y ∷ drop (suc (suc k)) xs = drop-cons xs k x (omega arith) ∙ ap (λ z. z ∷ drop (suc k) xs) (sym x-is) ∙ ap (λ z. x ∷ z) second in
    rw (first, second, before) refl

pub loop-i-preserved : goal.loop-i-preserved
loop-i-preserved c =
    let xs = c.args.rows.now in
    let i = c.loop-i.i in
    let x = c.index-rows-i.result in
    let y = c.index-rows-i-in-loop-i.result in
    let e : i ≡ suc (i - 1) = omega (arith, c.loop-i.auto.i) in
    let lt : suc (i - 1) < length xs = omega (arith, c.loop-i-test.true, c.loop-i.auto.i) in
    let y-is : y ≡ get_or xs (suc (i - 1)) y = subst (λ (n : ℕ). y ≡ get_or xs n y) e c.index-rows-i-in-loop-i.is in
    let step = past xs (i - 1) x y lt c.index-rows-i.is y-is (sym c.comes_before.ensures ∙ c.if-not-comes_before.false) in
    let same : suc (i - 1) ≡ i + 1 - 1 = omega (arith, c.loop-i.auto.i) in
    c.loop-i.invariant ∙ step ∙ ap (λ (n : ℕ). are_ordered (drop n xs)) same

pub returns : goal.returns
returns c =
    let xs = c.args.rows.now in
    let few : length (drop (c.loop-i.i - 1) xs) ≤ 1 = simp length-drop (omega arith) in
    sym (c.loop-i.invariant ∙ few_rise (drop (c.loop-i.i - 1) xs) few)

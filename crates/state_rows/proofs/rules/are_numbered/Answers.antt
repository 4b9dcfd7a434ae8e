-- That `are_numbered` keeps its contract.
use Rattle.std.proofs.Common.{◌≡◌, ◌-◌, ◌≤◌, true, List, [], ◌∷◌, length, drop, refl, sym, ◌∙◌, arith, length-drop}
use Rattle.agent_events.specs.declared.checkpoint.LotRow.{LotRow}
use Rattle.state_rows.specs.Rules.{are_numbered}
use Rattle.state_rows.proofs.rules.are_numbered.Goals as goal

-- at most one rises
few_rise : (xs : List LotRow) → length xs ≤ 1 → are_numbered xs ≡ true
few_rise [] few = refl
few_rise (x ∷ []) few = refl
few_rise (x ∷ next ∷ xs) few = absurd (omega arith)

pub returns : goal.returns
returns c =
    let xs = c.args.lots.now in
    let few : length (drop (c.loop-i.i - 1) xs) ≤ 1 = simp length-drop (omega arith) in
    sym (c.loop-i.invariant ∙ few_rise (drop (c.loop-i.i - 1) xs) few)

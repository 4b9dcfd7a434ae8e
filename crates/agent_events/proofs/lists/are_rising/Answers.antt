-- That `are_rising` keeps its contract.
use Rattle.std.proofs.Common.{◌≡◌, ℕ, ◌-◌, ◌≤◌, true, List, [], ◌∷◌, length, drop, refl, sym, ◌∙◌, arith, length-drop}
use Rattle.agent_events.specs.Fields.{are_rising}
use Rattle.agent_events.proofs.lists.are_rising.Goals as goal

-- at most one date rises
few_rise : (days : List ℕ) → length days ≤ 1 → are_rising days ≡ true
few_rise [] few = refl
few_rise (day ∷ []) few = refl
few_rise (day ∷ next ∷ days) few = absurd (omega arith)

pub returns : goal.returns
returns c =
    let days = c.args.days.now in
    let few : length (drop (c.loop-i.i - 1) days) ≤ 1 = simp length-drop (omega arith) in
    sym (c.loop-i.invariant ∙ few_rise (drop (c.loop-i.i - 1) days) few)

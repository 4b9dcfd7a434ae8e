-- What moves bring and take back is by how much the sum over a ledger differs.
use Rattle.std.proofs.Common.{Bool, List, [], ap, arith, cond, drop, eq-eqb, false, fold, nat_eq, refl, sym, take, true, true≢false, ℕ, ◌+ℤ◌, ◌∙◌, ◌∷◌, ◌≡◌, ◌||◌}
use Rattle.std.proofs.lemmas.Int.{ints}
use Rattle.std.proofs.lemmas.List.{take-append-drop}
use Rattle.std.proofs.lemmas.Map.Keys.{IsDistinct-head, IsDistinct-tail}
use Rattle.std.specs.Cmp.{nat_eq_equiv}
use Rattle.std.specs.List.{IsDistinct, list_any}
use Rattle.agent_events.specs.declared.trade.Trade.{Trade}
use Rattle.checkpoint_replay.proofs.FlowsOfMoves.{AreStill, IsAdditive, LeavesOthers, moves-net, one-moved, still-left, with_move}
use Rattle.checkpoint_replay.specs.Moves.{day_after_move, day_if_moved, households_of}
use Rattle.checkpoint_replay.specs.Tallied.{flow_of_all}
use Rattle.checkpoint_replay.specs.declared.change.HouseholdMove.{HouseholdMove}
use Rattle.checkpoint_replay.specs.declared.part.HouseholdPart.{HouseholdPart}
use Rattle.gain_loss_book.proofs.PostedFacts.{flow-in, flow-out}
use Rattle.gain_loss_book.specs.Flows.{net, no_flow}
use Rattle.gain_loss_book.specs.declared.flows.Flow.{Flow}
use Rattle.register_machine.specs.replay.Trades.{Day}

-- no household is moved that isn't among these
abbrev pub CoversMoves : List ℕ → List HouseholdMove → Type 0
CoversMoves households moves =
    (household : ℕ) → list_any (nat_eq household) households ≡ false → list_any (nat_eq household) (households_of moves) ≡ false

none-behind : (a b : Bool) → (a || b) ≡ false → b ≡ false
none-behind true b e = absurd (true≢false e)
none-behind false b e = e

first-met : (households : List ℕ) (change : HouseholdMove) (moves : List HouseholdMove) → CoversMoves households (change ∷ moves) → list_any (nat_eq change.household) households ≡ true
first-met households change moves covers = by (list_any (nat_eq change.household) households) refl
  where
    by : (b : Bool) → list_any (nat_eq change.household) households ≡ b → b ≡ true
    by true there = refl
    by false missing =
        absurd (true≢false (sym (ap (λ b. b || list_any (nat_eq change.household) (households_of moves)) (eq-eqb change.household change.household refl)) ∙ covers change.household missing))

pub moves-sum : (flow : List Trade → Flow) → IsAdditive flow → (parts : List (ℕ × HouseholdPart)) (households : List ℕ) → IsDistinct nat_eq households → (moves : List HouseholdMove) → IsDistinct nat_eq (households_of moves) → CoversMoves households moves → (p : ℕ → Day) → AreStill parts p moves → net (flow_of_all flow (λ household. fold (day_if_moved household) (p household) moves) households) ≡ net (flow_of_all flow p households) +ℤ net (fold (with_move flow parts) no_flow moves)
moves-sum flow additive parts households distinct [] apart covers p still = omega (arith, ints)
moves-sum flow additive parts households distinct (change ∷ moves) apart covers p still =
    let q : ℕ → Day = λ household. day_if_moved household (p household) change in
    let others : LeavesOthers p q change.household = λ other differs. ap (λ b. cond b (day_after_move (p other) change) (p other)) (nat_eq_equiv.symm other change.household ∙ differs) in
    let own : q change.household ≡ day_after_move (p change.household) change = ap (λ b. cond b (day_after_move (p change.household) change) (p change.household)) (eq-eqb change.household change.household refl) in
    let old = (p change.household).trades in
    let split = ap flow (sym (take-append-drop change.kept old)) ∙ additive (take change.kept old) (drop change.kept old) in
    let made = ap (λ (day : Day). flow day.trades) own ∙ additive (take change.kept old) change.trades in
    let dropped = ap (λ (day : Day). flow (drop change.kept day.trades)) (sym still.0) in
    let step = one-moved flow p q change.household others households distinct (first-met households change moves covers) in
    let rest = moves-sum flow additive parts households distinct moves (IsDistinct-tail nat_eq change.household (households_of moves) apart)
    (λ household missing. none-behind (nat_eq household change.household) (list_any (nat_eq household) (households_of moves)) (covers household missing))
    q (still-left parts p q change.household others moves (IsDistinct-head nat_eq change.household (households_of moves) apart) still.1) in
    omega (arith, ints, step, rest, moves-net flow parts moves (with_move flow parts no_flow change), flow-in _ _ split, flow-out _ _ split, flow-in _ _ made, flow-out _ _ made, flow-in _ _ dropped, flow-out _ _ dropped)

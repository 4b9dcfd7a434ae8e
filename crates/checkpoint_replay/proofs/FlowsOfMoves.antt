-- What trades bring, summed over households: where the days are the same, and where one household is moved.
use Rattle.std.proofs.Common.{Bool, List, [], ap, arith, eqb-true, false, fold, nat_eq, refl, subst, sum_by, sym, true, true≢false, ℕ, ◌++◌, ◌+ℤ◌, ◌∙◌, ◌∷◌, ◌≡◌, ◌||◌}
use Rattle.std.proofs.lemmas.Int.{ints}
use Rattle.std.proofs.lemmas.List.Concat.{flat_map-append}
use Rattle.std.proofs.lemmas.List.Sums.{sum_by-append}
use Rattle.std.proofs.lemmas.Map.Keys.{IsDistinct-head, IsDistinct-tail}
use Rattle.std.specs.List.{AllByRecursion, IsDistinct, list_any}
use Rattle.agent_events.specs.declared.order.Party.{Party}
use Rattle.agent_events.specs.declared.trade.Trade.{Trade}
use Rattle.checkpoint_replay.specs.Differences.{dropped_trades, trades_cash}
use Rattle.checkpoint_replay.specs.Moves.{households_of}
use Rattle.checkpoint_replay.specs.Parts.{part_in}
use Rattle.checkpoint_replay.specs.Tallied.{flow_of_all}
use Rattle.checkpoint_replay.specs.declared.change.HouseholdMove.{HouseholdMove}
use Rattle.checkpoint_replay.specs.declared.part.HouseholdPart.{HouseholdPart}
use Rattle.gain_loss_book.proofs.FlowFacts.{flow-same}
use Rattle.gain_loss_book.proofs.PostedFacts.{flow-in, flow-out}
use Rattle.gain_loss_book.specs.Flows.{net, no_flow, reverse_flow, with_flow}
use Rattle.gain_loss_book.specs.Movements.{trades_mils}
use Rattle.gain_loss_book.specs.declared.flows.Flow.{Flow}
use Rattle.register_machine.specs.corrections.Cash.{cents_paid_in, cents_received_in, movements_in, movements_of}
use Rattle.register_machine.specs.replay.Movements.{mils_brought, mils_taken}
use Rattle.register_machine.specs.replay.Trades.{Day}

-- trades behind others bring what both do
abbrev pub IsAdditive : (List Trade → Flow) → Type 0
IsAdditive flow = (xs ys : List Trade) → flow (xs ++ ys) ≡ with_flow (flow xs) (flow ys)

pub cash-additive : (party : Party) → IsAdditive (λ trades. trades_cash trades party)
cash-additive party xs ys =
    ap (λ movements. record { inflow = sum_by (cents_received_in party) movements; outflow = sum_by (cents_paid_in party) movements }) (flat_map-append (λ (trade : Trade). movements_in trade.outcome trade) xs ys)
    ∙ flow-same (record { inflow = sum_by (cents_received_in party) (movements_of xs ++ movements_of ys); outflow = sum_by (cents_paid_in party) (movements_of xs ++ movements_of ys) }) (with_flow (trades_cash xs party) (trades_cash ys party))
    (sum_by-append (cents_received_in party) (movements_of xs) (movements_of ys)) (sum_by-append (cents_paid_in party) (movements_of xs) (movements_of ys))

pub mils-additive : (class : ℕ) → IsAdditive (λ trades. trades_mils trades class)
mils-additive class xs ys =
    flow-same (trades_mils (xs ++ ys) class) (with_flow (trades_mils xs class) (trades_mils ys class))
    (sum_by-append (mils_brought class) xs ys) (sum_by-append (mils_taken class) xs ys)

-- no trades bring nothing
pub nothing-net : (flow : List Trade → Flow) → IsAdditive flow → net (flow []) ≡ net no_flow
nothing-net flow additive = omega (arith, ints, flow-in _ _ (additive [] []), flow-out _ _ (additive [] []))

-- ---- the same days bring the same

pub same-flows : (flow : List Trade → Flow) (p q : ℕ → Day) (households : List ℕ) → AllByRecursion (λ household. (p household).trades ≡ (q household).trades) households → flow_of_all flow p households ≡ flow_of_all flow q households
same-flows flow p q [] same = refl
same-flows flow p q (h ∷ hs) same =
    ap (λ (trades : List Trade). with_flow (flow trades) (flow_of_all flow p hs)) same.0
    ∙ ap (λ (rest : Flow). with_flow (flow (q h).trades) rest) (same-flows flow p q hs same.1)

pub all-same : (p q : ℕ → Day) → ((household : ℕ) → (p household).trades ≡ (q household).trades) → (households : List ℕ) → AllByRecursion (λ household. (p household).trades ≡ (q household).trades) households
all-same p q same [] = tt
all-same p q same (h ∷ hs) = (same h, all-same p q same hs)

-- ---- one household is moved

-- the days of other households stay
abbrev pub LeavesOthers : (ℕ → Day) → (ℕ → Day) → ℕ → Type 0
LeavesOthers p q moved = (other : ℕ) → nat_eq moved other ≡ false → q other ≡ p other

pub others-same : (p q : ℕ → Day) (moved : ℕ) → LeavesOthers p q moved → (households : List ℕ) → AllByRecursion (λ other. nat_eq moved other ≡ false) households → AllByRecursion (λ household. (q household).trades ≡ (p household).trades) households
others-same p q moved others [] apart = tt
others-same p q moved others (h ∷ hs) apart =
    (ap (λ (day : Day). day.trades) (others h apart.0), others-same p q moved others hs apart.1)

pub one-moved : (flow : List Trade → Flow) (p q : ℕ → Day) (moved : ℕ) → LeavesOthers p q moved → (households : List ℕ) → IsDistinct nat_eq households → list_any (nat_eq moved) households ≡ true → net (flow_of_all flow q households) +ℤ net (flow (p moved).trades) ≡ net (flow_of_all flow p households) +ℤ net (flow (q moved).trades)
one-moved flow p q moved others [] distinct met = absurd (true≢false (sym met))
one-moved flow p q moved others (h ∷ hs) distinct met = by_first (nat_eq moved h) refl met (λ found. one-moved flow p q moved others hs (IsDistinct-tail nat_eq h hs distinct) found)
  where
    by_first : (b : Bool) → nat_eq moved h ≡ b → (b || list_any (nat_eq moved) hs) ≡ true → (list_any (nat_eq moved) hs ≡ true → net (flow_of_all flow q hs) +ℤ net (flow (p moved).trades) ≡ net (flow_of_all flow p hs) +ℤ net (flow (q moved).trades)) → net (flow_of_all flow q (h ∷ hs)) +ℤ net (flow (p moved).trades) ≡ net (flow_of_all flow p (h ∷ hs)) +ℤ net (flow (q moved).trades)
    by_first true is found rest =
        let here = eqb-true moved h is in
        let apart : AllByRecursion (λ other. nat_eq moved other ≡ false) hs = subst (λ n. AllByRecursion (λ other. nat_eq n other ≡ false) hs) (sym here) (IsDistinct-head nat_eq h hs distinct) in
        let same = same-flows flow q p hs (others-same p q moved others hs apart) in
        let mine = ap (λ n. flow (p n).trades) here in
        let new = ap (λ n. flow (q n).trades) here in
        omega (arith, ints, flow-in _ _ same, flow-out _ _ same, flow-in _ _ mine, flow-out _ _ mine, flow-in _ _ new, flow-out _ _ new)
    by_first false is found rest =
        let here = ap (λ (day : Day). flow day.trades) (others h is) in
        let behind = rest found in
        omega (arith, ints, flow-in _ _ here, flow-out _ _ here, behind)

-- ---- all moves

-- what a move brings, and what it takes back
abbrev pub with_move : (List Trade → Flow) → List (ℕ × HouseholdPart) → Flow → HouseholdMove → Flow
with_move flow parts before change =
    with_flow (with_flow before (flow change.trades)) (reverse_flow (flow (dropped_trades parts change)))

-- moves behind what was before
pub moves-net : (flow : List Trade → Flow) (parts : List (ℕ × HouseholdPart)) (moves : List HouseholdMove) (before : Flow) → net (fold (with_move flow parts) before moves) ≡ net before +ℤ net (fold (with_move flow parts) no_flow moves)
moves-net flow parts [] before = omega (arith, ints)
moves-net flow parts (change ∷ moves) before =
    let some = moves-net flow parts moves (with_move flow parts before change) in
    let none = moves-net flow parts moves (with_move flow parts no_flow change) in
    omega (arith, ints, some, none)

-- the days of households that are still to be moved are those of the ledger
abbrev pub AreStill : List (ℕ × HouseholdPart) → (ℕ → Day) → List HouseholdMove → Type 0
AreStill parts p moves =
    AllByRecursion (λ (change : HouseholdMove). p change.household ≡ part_in parts change.household) moves

pub still-left : (parts : List (ℕ × HouseholdPart)) (p q : ℕ → Day) (moved : ℕ) → LeavesOthers p q moved → (moves : List HouseholdMove) → AllByRecursion (λ other. nat_eq moved other ≡ false) (households_of moves) → AreStill parts p moves → AreStill parts q moves
still-left parts p q moved others [] apart still = tt
still-left parts p q moved others (change ∷ moves) apart still =
    (others change.household apart.0 ∙ still.0, still-left parts p q moved others moves apart.1 still.1)

pub all-still : (parts : List (ℕ × HouseholdPart)) (moves : List HouseholdMove) → AreStill parts (part_in parts) moves
all-still parts [] = tt
all-still parts (change ∷ moves) = (refl, all-still parts moves)

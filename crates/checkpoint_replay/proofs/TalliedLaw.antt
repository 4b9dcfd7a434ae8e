-- The totals stay the sums over all trades, when moves are made and their differences are added.
use Rattle.agent_events.specs.declared.order.Party.{Party}
use Rattle.agent_events.specs.declared.totals.Changes.{Changes}
use Rattle.agent_events.specs.declared.trade.Trade.{Trade}
use Rattle.checkpoint_replay.proofs.FlowsOfMoves.{AreStill, IsAdditive, LeavesOthers, all-same, all-still, cash-additive, mils-additive, moves-net, nothing-net, one-moved, others-same, same-flows, still-left, with_move}
use Rattle.checkpoint_replay.specs.Differences.{AreChangesOf, trades_cash}
use Rattle.checkpoint_replay.specs.Moves.{day_after_move, day_if_moved, households_of, part_after}
use Rattle.checkpoint_replay.specs.Parts.{Households, part_in}
use Rattle.checkpoint_replay.specs.Tallied.{IsSumOver, IsTallied, flow_of_all}
use Rattle.checkpoint_replay.specs.Totals.{cents_held, mils_held}
use Rattle.checkpoint_replay.specs.declared.change.HouseholdMove.{HouseholdMove}
use Rattle.checkpoint_replay.specs.declared.part.HouseholdPart.{HouseholdPart}
use Rattle.gain_loss_book.proofs.PostedFacts.{flow-in, flow-out}
use Rattle.gain_loss_book.specs.ClassGains.{mils_change}
use Rattle.gain_loss_book.specs.Flows.{net, no_flow}
use Rattle.gain_loss_book.specs.Movements.{trades_mils}
use Rattle.gain_loss_book.specs.Posted.{cash_change}
use Rattle.gain_loss_book.specs.declared.flows.Flow.{Flow}
use Rattle.register_machine.specs.replay.Trades.{Day}
use Rattle.std.proofs.Common.{Bool, List, [], ap, arith, cond, drop, eq-eqb, eqb-true, false, fold, nat_eq, pos, refl, subst, sym, take, true, true≢false, ℕ, ℤ, ◌+ℤ◌, ◌∙◌, ◌∷◌, ◌≡◌, ◌||◌}
use Rattle.std.proofs.lemmas.Int.{ints}
use Rattle.std.proofs.lemmas.List.{take-append-drop}
use Rattle.std.proofs.lemmas.Map.Keys.{IsDistinct-cons, IsDistinct-head, IsDistinct-tail}
use Rattle.std.specs.Cmp.{nat_eq_equiv}
use Rattle.std.specs.List.{AllByRecursion, IsDistinct, list_any}

-- ---- a household is moved

pub none-apart : (moved : ℕ) (households : List ℕ) → list_any (nat_eq moved) households ≡ false → AllByRecursion (λ other. nat_eq moved other ≡ false) households
none-apart moved [] none = tt
none-apart moved (h ∷ hs) none = by_first (nat_eq moved h) refl none (λ rest. none-apart moved hs rest)
  where
    by_first : (b : Bool) → nat_eq moved h ≡ b → (b || list_any (nat_eq moved) hs) ≡ false → (list_any (nat_eq moved) hs ≡ false → AllByRecursion (λ other. nat_eq moved other ≡ false) hs) → AllByRecursion (λ other. nat_eq moved other ≡ false) (h ∷ hs)
    by_first true is none rest = absurd (true≢false none)
    by_first false is none rest = (is, rest none)

-- the sum with a household moved: what its new trades bring is added, and what its old ones brought is taken away
moved-sum : (flow : List Trade → Flow) → IsAdditive flow → (p q : ℕ → Day) (moved : ℕ) → LeavesOthers p q moved → (total after : ℤ) → after +ℤ net (flow (p moved).trades) ≡ total +ℤ net (flow (q moved).trades) → IsSumOver flow p total → IsSumOver flow q after
moved-sum flow additive p q moved others total after step is households distinct all = by_met (list_any (nat_eq moved) households) refl
  where
    apart-from : (household : ℕ) → list_any (nat_eq moved) households ≡ true → list_any (nat_eq household) households ≡ false → (b : Bool) → nat_eq moved household ≡ b → nat_eq moved household ≡ false
    apart-from household met missing true same = absurd (true≢false (sym met ∙ (ap (λ n. list_any (nat_eq n) households) (eqb-true moved household same) ∙ missing)))
    apart-from household met missing false same = same

    first-apart : (household : ℕ) → (b : Bool) → nat_eq household moved ≡ b → (b || list_any (nat_eq household) households) ≡ false → (nat_eq moved household ≡ false) × (list_any (nat_eq household) households ≡ false)
    first-apart household true same missing = absurd (true≢false missing)
    first-apart household false same missing = (nat_eq_equiv.symm moved household ∙ same, missing)

    by_met : (b : Bool) → list_any (nat_eq moved) households ≡ b → after ≡ net (flow_of_all flow q households)
    by_met true met =
        let before = is households distinct (λ household missing. ap (λ (day : Day). day.trades) (sym (others household (apart-from household met missing (nat_eq moved household) refl))) ∙ all household missing) in
        let sums = one-moved flow p q moved others households distinct met in
        omega (arith, ints, step, before, sums)
    by_met false missing =
        let apart = none-apart moved households missing in
        let before = is (moved ∷ households) (IsDistinct-cons nat_eq moved households apart distinct)
        (λ household none. let two = first-apart household (nat_eq household moved) refl none in ap (λ (day : Day). day.trades) (sym (others household two.0)) ∙ all household two.1) in
        let same = same-flows flow q p households (others-same p q moved others households apart) in
        let empty = ap (λ (trades : List Trade). net (flow trades)) (all moved missing) ∙ nothing-net flow additive in
        omega (arith, ints, step, before, flow-in _ _ same, flow-out _ _ same, empty)

-- ---- all moves

pub moves-sum : (flow : List Trade → Flow) → IsAdditive flow → (parts : List (ℕ × HouseholdPart)) (moves : List HouseholdMove) → IsDistinct nat_eq (households_of moves) → (p : ℕ → Day) → AreStill parts p moves → (total : ℤ) → IsSumOver flow p total → IsSumOver flow (λ household. fold (day_if_moved household) (p household) moves) (total +ℤ net (fold (with_move flow parts) no_flow moves))
moves-sum flow additive parts [] distinct p still total is = λ households apart all. omega (arith, ints, is households apart all)
moves-sum flow additive parts (change ∷ moves) distinct p still total is =
    let q : ℕ → Day = λ household. day_if_moved household (p household) change in
    let others : LeavesOthers p q change.household = λ other apart. ap (λ b. cond b (day_after_move (p other) change) (p other)) (nat_eq_equiv.symm other change.household ∙ apart) in
    let own : q change.household ≡ day_after_move (p change.household) change = ap (λ b. cond b (day_after_move (p change.household) change) (p change.household)) (eq-eqb change.household change.household refl) in
    let old = (p change.household).trades in
    let split = ap flow (sym (take-append-drop change.kept old)) ∙ additive (take change.kept old) (drop change.kept old) in
    let made = ap (λ (day : Day). flow day.trades) own ∙ additive (take change.kept old) change.trades in
    let dropped = ap (λ (day : Day). flow (drop change.kept day.trades)) (sym still.0) in
    let step = moved-sum flow additive p q change.household others total (total +ℤ net (with_move flow parts no_flow change))
    (omega (arith, ints, flow-in _ _ split, flow-out _ _ split, flow-in _ _ made, flow-out _ _ made, flow-in _ _ dropped, flow-out _ _ dropped)) is in
    let rest = moves-sum flow additive parts moves (IsDistinct-tail nat_eq change.household (households_of moves) distinct) q (still-left parts p q change.household others moves (IsDistinct-head nat_eq change.household (households_of moves) distinct) still.1) (total +ℤ net (with_move flow parts no_flow change)) step in
    λ households apart all. omega (arith, ints, rest households apart all, moves-net flow parts moves (with_move flow parts no_flow change))

nothing-all : (flow : List Trade → Flow) → IsAdditive flow → (households : List ℕ) → net (flow_of_all flow (part_in []) households) ≡ net no_flow
nothing-all flow additive [] = refl
nothing-all flow additive (h ∷ hs) = omega (arith, ints, nothing-net flow additive, nothing-all flow additive hs)

-- the law: whatever parts are as the moves leave them, their sum is the sum before with what the moves bring
pub installed-sum : (flow : List Trade → Flow) → IsAdditive flow → (parts others : List (ℕ × HouseholdPart)) (moves : List HouseholdMove) → IsDistinct nat_eq (households_of moves) → ((household : ℕ) → part_in others household ≡ part_after moves parts household) → (total after : ℤ) → after ≡ total +ℤ net (fold (with_move flow parts) no_flow moves) → IsSumOver flow (part_in parts) total → IsSumOver flow (part_in others) after
installed-sum flow additive parts others moves distinct same total after sum is =
    λ households apart all.
    sum ∙ (moves-sum flow additive parts moves distinct (part_in parts) (all-still parts moves) total is households apart
    (λ household missing. ap (λ (day : Day). day.trades) (sym (same household)) ∙ all household missing)
    ∙ ap net (sym (same-flows flow (part_in others) (λ household. part_after moves parts household) households (all-same (part_in others) (λ household. part_after moves parts household) (λ household. ap (λ (day : Day). day.trades) (same household)) households))))

-- and where no part changes, it stays
pub same-parts-sum : (flow : List Trade → Flow) (parts others : List (ℕ × HouseholdPart)) → ((household : ℕ) → part_in others household ≡ part_in parts household) → (total after : ℤ) → after ≡ total → IsSumOver flow (part_in parts) total → IsSumOver flow (part_in others) after
same-parts-sum flow parts others same total after sum is =
    λ households apart all.
    sum ∙ (is households apart (λ household missing. ap (λ (day : Day). day.trades) (sym (same household)) ∙ all household missing)
    ∙ ap net (sym (same-flows flow (part_in others) (part_in parts) households (all-same (part_in others) (part_in parts) (λ household. ap (λ (day : Day). day.trades) (same household)) households))))

-- no household has a trade
pub empty-sum : (flow : List Trade → Flow) → IsAdditive flow → (total : ℤ) → total ≡ pos 0 → IsSumOver flow (part_in []) total
empty-sum flow additive total none = λ households apart all. omega (arith, ints, none, nothing-all flow additive households)

-- ---- ledgers

pub installed-tallied : (old new : Households) (moves : List HouseholdMove) (changes : Changes) → IsDistinct nat_eq (households_of moves) → ((household : ℕ) → part_in new.parts household ≡ part_after moves old.parts household) → ((party : Party) → cents_held new.totals party ≡ cents_held old.totals party +ℤ cash_change changes.cash party) → ((class : ℕ) → mils_held new.totals class ≡ mils_held old.totals class +ℤ mils_change changes.outstanding class) → IsTallied old → AreChangesOf changes old.parts moves → IsTallied new
installed-tallied old new moves changes distinct same cash mils tallied differences = record {
  cash = λ party. installed-sum (λ trades. trades_cash trades party) (cash-additive party) old.parts new.parts moves distinct same (cents_held old.totals party) (cents_held new.totals party)
      (cash party ∙ ap (λ (z : ℤ). cents_held old.totals party +ℤ z) (differences.cash party)) (tallied.cash party);
  mils = λ class. installed-sum (λ trades. trades_mils trades class) (mils-additive class) old.parts new.parts moves distinct same (mils_held old.totals class) (mils_held new.totals class)
      (mils class ∙ ap (λ (z : ℤ). mils_held old.totals class +ℤ z) (differences.mils class)) (tallied.mils class);
}

pub same-tallied : (old new : Households) → ((household : ℕ) → part_in new.parts household ≡ part_in old.parts household) → ((party : Party) → cents_held new.totals party ≡ cents_held old.totals party) → ((class : ℕ) → mils_held new.totals class ≡ mils_held old.totals class) → IsTallied old → IsTallied new
same-tallied old new same cash mils tallied = record {
  cash = λ party. same-parts-sum (λ trades. trades_cash trades party) old.parts new.parts same (cents_held old.totals party) (cents_held new.totals party) (cash party) (tallied.cash party);
  mils = λ class. same-parts-sum (λ trades. trades_mils trades class) old.parts new.parts same (mils_held old.totals class) (mils_held new.totals class) (mils class) (tallied.mils class);
}

pub empty-tallied : (ledger : Households) → ledger.parts ≡ [] → ((party : Party) → cents_held ledger.totals party ≡ pos 0) → ((class : ℕ) → mils_held ledger.totals class ≡ pos 0) → IsTallied ledger
empty-tallied ledger none cash mils = record {
  cash = λ party. subst (λ (parts : List (ℕ × HouseholdPart)). IsSumOver (λ trades. trades_cash trades party) (part_in parts) (cents_held ledger.totals party)) (sym none) (empty-sum (λ trades. trades_cash trades party) (cash-additive party) (cents_held ledger.totals party) (cash party));
  mils = λ class. subst (λ (parts : List (ℕ × HouseholdPart)). IsSumOver (λ trades. trades_mils trades class) (part_in parts) (mils_held ledger.totals class)) (sym none) (empty-sum (λ trades. trades_mils trades class) (mils-additive class) (mils_held ledger.totals class) (mils class));
}

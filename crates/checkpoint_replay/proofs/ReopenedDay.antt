-- The one move of a reopened household brings it to its replay, and no other anywhere.
use Rattle.agent_events.specs.declared.trade.Trade.{Trade}
use Rattle.checkpoint_replay.specs.Moves.{AreMoves, day_after_move, day_if_moved, part_after}
use Rattle.checkpoint_replay.specs.Parts.{first_day, part_in}
use Rattle.checkpoint_replay.specs.Reopenings.{IsReplayedTo, move_by_replay}
use Rattle.checkpoint_replay.specs.declared.change.HouseholdMove.{HouseholdMove}
use Rattle.checkpoint_replay.specs.declared.part.HouseholdPart.{HouseholdPart}
use Rattle.checkpoint_replay.specs.declared.reopening.ReplayStart.{ReplayStart}
use Rattle.household_fold.specs.Facts.{Known}
use Rattle.household_fold.specs.Households.{AreOrdersOf, first_of}
use Rattle.household_fold.specs.Numbers.{AreNumbersWithin}
use Rattle.checkpoint_replay.proofs.DayFacts.{days_from, days_split}
use Rattle.checkpoint_replay.proofs.PremiseFacts.{can_part}
use Rattle.checkpoint_replay.specs.Premises.{CanBeReplayed}
use Rattle.register_machine.specs.replay.Positions.{Register}
use Rattle.register_machine.specs.replay.Trades.{Day}
use Rattle.checkpoint_replay.specs.Replays.{NumberedOrder, day_behind, days_behind, known_on, orders_under}
use Rattle.std.proofs.lemmas.List.Elements.{All-from_recursion}
use Rattle.std.proofs.lemmas.Map.Keys.{IsDistinct-cons}
use Rattle.std.specs.List.{IsDistinct}
use Rattle.std.proofs.Common.{List, [], ap, arith, cond, eq-eqb, false, fold, nat_eq, refl, subst, suc, sym, take, zero, ℕ, ◌+◌, ◌<◌, ◌-◌, ◌∙◌, ◌∷◌, ◌≡◌, ◌≤◌}

-- a replay as far as a sheet and then over the others is one over all of them
goes-on : (known : Known) (rows : List NumberedOrder) (from : ℕ) (day : Day) → from ≤ known.sheet → day ≡ days_behind known rows 0 from first_day → days_behind known rows from (known.sheet - from) day ≡ days_behind known rows 0 known.sheet first_day
goes-on known rows from day before is =
    let all : from + (known.sheet - from) ≡ known.sheet = omega (arith, before) in
    ap (days_behind known rows from (known.sheet - from)) is
    ∙ (ap (λ n. days_behind known rows n (known.sheet - from) (days_behind known rows 0 from first_day)) (let none : from ≡ 0 + from = omega arith in none)
    ∙ sym (days_split known rows 0 from (known.sheet - from) first_day)
    ∙ ap (λ count. days_behind known rows 0 count first_day) all)

-- the day that a move by a replay leaves
moved-day : (known : Known) (rows : List NumberedOrder) (start : ReplayStart) (day : Day) → start.sheet ≤ known.sheet → IsReplayedTo known rows start day.trades → day_after_move day (move_by_replay known rows start) ≡ days_behind known rows 0 known.sheet first_day
moved-day known rows start day before is =
    let first : Day = record { register = start.state.register; trades = take start.kept day.trades } in
    sym (days_from known rows start.sheet (known.sheet - start.sheet) first)
    ∙ goes-on known rows start.sheet first before is

pub reopened-day : (known : Known) (rows : List NumberedOrder) (parts : List (ℕ × HouseholdPart)) (start : ReplayStart) → start.sheet ≤ known.sheet → IsReplayedTo known rows start (part_in parts start.household).trades → (moves : List HouseholdMove) → moves ≡ move_by_replay known rows start ∷ [] → part_after moves parts start.household ≡ days_behind known rows 0 known.sheet first_day
reopened-day known rows parts start before known_so moves is =
    let move = move_by_replay known rows start in
    let day = part_in parts start.household in
    ap (λ (ms : List HouseholdMove). fold (day_if_moved start.household) day ms) is
    ∙ (ap (λ b. cond b (day_after_move day move) day) (eq-eqb start.household start.household refl)
    ∙ moved-day known rows start day before known_so)

pub others-stay : (known : Known) (rows : List NumberedOrder) (parts : List (ℕ × HouseholdPart)) (start : ReplayStart) (moves : List HouseholdMove) → moves ≡ move_by_replay known rows start ∷ [] → (other : ℕ) → nat_eq other start.household ≡ false → part_after moves parts other ≡ part_in parts other
others-stay known rows parts start moves is other apart =
    ap (λ (ms : List HouseholdMove). fold (day_if_moved other) (part_in parts other) ms) is
    ∙ ap (λ b. cond b (day_after_move (part_in parts other) (move_by_replay known rows start)) (part_in parts other)) apart

-- what can be replayed from a day can be from its register
from-register : (known : Known) (rows : List NumberedOrder) (household from count : ℕ) (day : Day) → CanBeReplayed known household rows from count day → CanBeReplayed known household rows from count (first_of day.register)
from-register known rows household from count day can = record {
  facts = can.facts;
  orders = can.orders;
  owned = can.owned;
  lots = subst (λ (after : Day). AreNumbersWithin after.register) (days_from known rows from count day) can.lots;
}

-- what can be replayed from the first sheet on can be from this one on
pub ready-behind : (known : Known) (rows : List NumberedOrder) (start : ReplayStart) (trades : List Trade) → start.sheet ≤ known.sheet → IsReplayedTo known rows start trades → CanBeReplayed known start.household rows 0 known.sheet first_day → CanBeReplayed known start.household rows start.sheet (known.sheet - start.sheet) (first_of start.state.register)
ready-behind known rows start trades before is ready =
    let rest = known.sheet - start.sheet in
    let all : start.sheet + rest ≡ known.sheet = omega (arith, before) in
    let none : 0 + start.sheet ≡ start.sheet = omega arith in
    let parted = subst (λ n. CanBeReplayed known start.household rows n rest (days_behind known rows 0 start.sheet first_day)) none (can_part known start.household rows 0 start.sheet rest first_day (subst (λ count. CanBeReplayed known start.household rows 0 count first_day) (sym all) ready)) in
    from-register known rows start.household start.sheet rest (record { register = start.state.register; trades = take start.kept trades })
    (subst (CanBeReplayed known start.household rows start.sheet rest) (sym is) parted)

-- ---- by the orders of the later sheets alone

-- where they are the same on each of these sheets, so are the days
same-days : (known : Known) (rows late : List NumberedOrder) (from count : ℕ) (day : Day) → ((n : ℕ) → from < n → n ≤ from + count → orders_under n late ≡ orders_under n rows) → days_behind known late from count day ≡ days_behind known rows from count day
same-days known rows late from zero day same = refl
same-days known rows late from (suc count) day same =
    ap (λ orders. days_behind known late (from + 1) count (day_behind (known_on known (from + 1)) orders day)) (same (from + 1) (omega arith) (omega arith))
    ∙ same-days known rows late (from + 1) count (day_behind (known_on known (from + 1)) (orders_under (from + 1) rows) day)
    (λ n low high. same n (omega (arith, low)) (omega (arith, high)))

-- they are the same on each sheet behind the start
abbrev pub AreTheLateOnes : Known → List NumberedOrder → List NumberedOrder → ReplayStart → Type 0
AreTheLateOnes known rows late start = (n : ℕ) → start.sheet < n → n ≤ known.sheet → orders_under n late ≡ orders_under n rows

within-known : (known : Known) (rows late : List NumberedOrder) (start : ReplayStart) → start.sheet ≤ known.sheet → AreTheLateOnes known rows late start → (n : ℕ) → start.sheet < n → n ≤ start.sheet + (known.sheet - start.sheet) → orders_under n late ≡ orders_under n rows
within-known known rows late start before same n low high = same n low (omega (arith, before, high))

same-move : (known : Known) (rows late : List NumberedOrder) (start : ReplayStart) → start.sheet ≤ known.sheet → AreTheLateOnes known rows late start → move_by_replay known late start ≡ move_by_replay known rows start
same-move known rows late start before same =
    ap (λ (day : Day). let move : HouseholdMove = record { household = start.household; state = record { number = start.household; register = day.register }; kept = start.kept; trades = day.trades } in move)
    (same-days known rows late start.sheet (known.sheet - start.sheet) (first_of start.state.register) (within-known known rows late start before same))

pub late-day : (known : Known) (rows late : List NumberedOrder) (parts : List (ℕ × HouseholdPart)) (start : ReplayStart) → start.sheet ≤ known.sheet → IsReplayedTo known rows start (part_in parts start.household).trades → AreTheLateOnes known rows late start → (moves : List HouseholdMove) → moves ≡ move_by_replay known late start ∷ [] → part_after moves parts start.household ≡ days_behind known rows 0 known.sheet first_day
late-day known rows late parts start before known_so same moves is =
    reopened-day known rows parts start before known_so moves
    (is ∙ ap (λ (move : HouseholdMove). move ∷ []) (same-move known rows late start before same))

pub ready-late : (known : Known) (rows late : List NumberedOrder) (start : ReplayStart) (trades : List Trade) → start.sheet ≤ known.sheet → IsReplayedTo known rows start trades → AreTheLateOnes known rows late start → CanBeReplayed known start.household rows 0 known.sheet first_day → CanBeReplayed known start.household late start.sheet (known.sheet - start.sheet) (first_of start.state.register)
ready-late known rows late start trades before is same ready =
    let can = ready-behind known rows start trades before is ready in
    let agree = within-known known rows late start before same in
    record {
      facts = can.facts;
      orders = λ sheet low high. subst (AreOrdersOf (known_on known sheet) start.household) (sym (agree sheet low high)) (can.orders sheet low high);
      owned = can.owned;
      lots = subst (λ (after : Day). AreNumbersWithin after.register) (sym (same-days known rows late start.sheet (known.sheet - start.sheet) (first_of start.state.register) agree)) can.lots;
    }

-- ---- a start before all sheets

none-stays : (xs : List Trade) → take 0 xs ≡ []
none-stays [] = refl
none-stays (x ∷ xs) = refl

-- a start before all sheets
pub starts-fresh : (known : Known) (rows : List NumberedOrder) (start : ReplayStart) (trades : List Trade) → start.sheet ≡ 0 → start.kept ≡ 0 → start.state.register ≡ [] → IsReplayedTo known rows start trades
starts-fresh known rows start trades sheet kept register =
    ap (λ (r : Register). record { register = r; trades = take start.kept trades }) register
    ∙ (ap (λ (xs : List Trade). record { register = []; trades = xs }) (ap (λ n. take n trades) kept ∙ none-stays trades)
    ∙ ap (λ n. days_behind known rows 0 n first_day) (sym sheet))

nothing-apart : IsDistinct nat_eq []
unfolding IsDistinct
nothing-apart = tt

-- one move of a household's own positions
pub one-move : (change : HouseholdMove) → change.state.number ≡ change.household → AreMoves (change ∷ [])
one-move change own = record {
  apart = IsDistinct-cons nat_eq change.household [] tt nothing-apart;
  own = All-from_recursion (λ (m : HouseholdMove). m.state.number ≡ m.household) (change ∷ []) (own, tt);
}

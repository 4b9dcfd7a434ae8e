-- What a sheet makes of all households.
use Rattle.agent_events.specs.declared.order.Order.{Order}
use Rattle.checkpoint_replay.specs.Parts.{day_of, first_day, part_in}
use Rattle.checkpoint_replay.specs.declared.change.HouseholdMove.{HouseholdMove}
use Rattle.checkpoint_replay.specs.declared.part.HouseholdPart.{HouseholdPart}
use Rattle.household_fold.specs.Facts.{Known}
use Rattle.household_fold.specs.Households.{AreOrdersOf, AreOwned, step_known}
use Rattle.household_fold.specs.Numbers.{AreNumbersWithin}
use Rattle.household_fold.specs.Quiet.{is_quiet_for}
use Rattle.checkpoint_replay.specs.NumberedRows.{numbers_met}
use Rattle.checkpoint_replay.specs.Replays.{NumberedOrder, orders_under}
use Rattle.register_machine.specs.replay.Positions.{Register}
use Rattle.register_machine.specs.replay.Trades.{Day}
use Rattle.std.specs.Map.{lookup}
use Rattle.std.specs.Prelude.{List, [], false, flat_map, if◌then◌else◌, is_some, length, nat_eq, ℕ, ◌++◌, ◌∷◌, ◌≡◌}

-- what a step with these orders makes of a household
abbrev pub move_on : Known → List Order → ℕ → Day → HouseholdMove
move_on known orders household day = record {
  household = household;
  state = record { number = household; register = (step_known known orders day.register).register };
  kept = length day.trades;
  trades = (step_known known orders day.register).trades;
}

-- and none, where the sheet leaves it alone
abbrev pub move_unless_quiet : Known → List Order → ℕ → Day → List HouseholdMove
move_unless_quiet known orders household day =
    if is_quiet_for known orders day.register then [] else move_on known orders household day ∷ []

-- the moves of the households of which something is kept
abbrev pub moves_of_entry : Known → List NumberedOrder → ℕ × HouseholdPart → List HouseholdMove
moves_of_entry known rows entry = move_unless_quiet known (orders_under entry.0 rows) entry.0 (day_of entry.1)

abbrev pub moves_of_parts : Known → List NumberedOrder → List (ℕ × HouseholdPart) → List HouseholdMove
moves_of_parts known rows parts = flat_map (moves_of_entry known rows) parts

-- and those of others with orders
abbrev pub moves_of_other : Known → List NumberedOrder → List (ℕ × HouseholdPart) → ℕ → List HouseholdMove
moves_of_other known rows parts household =
    if is_some (lookup (nat_eq household) parts) then []
    else move_unless_quiet known (orders_under household rows) household first_day

abbrev pub moves_of_others : Known → List NumberedOrder → List (ℕ × HouseholdPart) → List ℕ → List HouseholdMove
moves_of_others known rows parts numbers = flat_map (moves_of_other known rows parts) numbers

-- the moves of a sheet
abbrev pub moves_of_sheet : Known → List NumberedOrder → List (ℕ × HouseholdPart) → List HouseholdMove
moves_of_sheet known rows parts =
    moves_of_parts known rows parts ++ moves_of_others known rows parts (numbers_met rows)

-- a household is moved that the sheet doesn't leave alone
abbrev pub IsReached : Known → List NumberedOrder → List (ℕ × HouseholdPart) → HouseholdMove → Type 0
IsReached known rows parts change =
    is_quiet_for known (orders_under change.household rows) (part_in parts change.household).register ≡ false

-- What a step asks of a household's positions and orders: both are its own, and no lot gets a number above 4294967294.
pub record CanStep (known : Known) (orders : List Order) (household : ℕ) (register : Register) : Type 0 where
  pub own_positions : AreOwned known household register
  pub own_orders : AreOrdersOf known household orders
  pub lots : AreNumbersWithin (step_known known orders register).register

-- and of all households
abbrev pub CanAdvance : Known → List NumberedOrder → List (ℕ × HouseholdPart) → Type 0
CanAdvance known rows parts =
    (household : ℕ) → CanStep known (orders_under household rows) household (part_in parts household).register

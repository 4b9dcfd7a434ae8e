-- What a replay makes of one household.
use Rattle.checkpoint_replay.specs.declared.change.HouseholdMove.{HouseholdMove}
use Rattle.checkpoint_replay.specs.declared.reopening.ReplayStart.{ReplayStart}
use Rattle.household_fold.specs.Facts.{Known}
use Rattle.household_fold.specs.Households.{first_of}
use Rattle.checkpoint_replay.specs.Replays.{NumberedOrder, days_behind}
use Rattle.checkpoint_replay.specs.Parts.{first_day}
use Rattle.agent_events.specs.declared.trade.Trade.{Trade}
use Rattle.register_machine.specs.replay.Trades.{Day}
use Rattle.std.specs.Prelude.{List, take, ◌-◌, ◌≡◌}

-- the positions that a replay leaves, and its trades
abbrev pub day_by_replay : Known → List NumberedOrder → ReplayStart → Day
day_by_replay known rows start =
    days_behind known rows start.sheet (known.sheet - start.sheet) (first_of start.state.register)

abbrev pub move_by_replay : Known → List NumberedOrder → ReplayStart → HouseholdMove
move_by_replay known rows start = record {
  household = start.household;
  state = record { number = start.household; register = (day_by_replay known rows start).register };
  kept = start.kept;
  trades = (day_by_replay known rows start).trades;
}

-- a start is what the replay makes of the household behind its sheet, its trades so far being the first ones of these
abbrev pub IsReplayedTo : Known → List NumberedOrder → ReplayStart → List Trade → Type 0
IsReplayedTo known rows start trades =
    record { register = start.state.register; trades = take start.kept trades }
    ≡ days_behind known rows 0 start.sheet first_day

-- The steps of a replay: one for each sheet that isn't quiet for the household.
use Rattle.agent_events.specs.declared.order.Order.{Order}
use Rattle.household_fold.specs.Facts.{Known}
use Rattle.household_fold.specs.Quiet.{is_quiet_for}
use Rattle.checkpoint_replay.specs.Replays.{NumberedOrder, day_behind, known_on, orders_under}
use Rattle.register_machine.specs.replay.Positions.{Register}
use Rattle.register_machine.specs.replay.Trades.{Day}
use Rattle.std.specs.Prelude.{List, if◌then◌else◌, suc, zero, ℕ, ◌+◌}

-- the steps over the sheet at hand
abbrev pub steps_over : Known → List Order → Register → ℕ
steps_over known orders register = if is_quiet_for known orders register then 0 else 1

-- of so many sheets behind sheet `from` those that aren't quiet when their turn comes
abbrev pub busy_sheets : Known → List NumberedOrder → ℕ → ℕ → Day → ℕ
busy_sheets known rows from zero day = 0
busy_sheets known rows from (suc count) day =
    let at_hand = known_on known (from + 1) in
    let orders = orders_under (from + 1) rows in
    steps_over at_hand orders day.register
    + busy_sheets known rows (from + 1) count (day_behind at_hand orders day)

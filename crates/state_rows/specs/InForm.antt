-- Which states have a row in the grammar: each value is one of its type, each list has at most 65,535 items, and the rules
-- and limits are kept.
use Rattle.std.specs.Prelude.{◌≡◌, ◌<◌, ◌^◌, Bool, true, ◌&&◌, Option, Some, None}
use Rattle.std.specs.List.{list_all}
use Rattle.agent_events.specs.declared.checkpoint.LetterRow.{LetterRow}
use Rattle.agent_events.specs.declared.checkpoint.LotRow.{LotRow}
use Rattle.agent_events.specs.declared.checkpoint.PositionRow.{PositionRow}
use Rattle.agent_events.specs.declared.checkpoint.StateRow.{StateRow}
use Rattle.agent_events.specs.Events.{fits_count}
use Rattle.event_rows.specs.Ranges.{IsDay, IsBps, AreListed}
use Rattle.state_rows.specs.Rules.{keeps_rules}

abbrev pub IsLotRow : LotRow → Type 0
IsLotRow row =
    (row.number < 2 ^ 32) × (IsDay row.day × ((row.loose < 2 ^ 64) × ((row.held < 2 ^ 64) × ((row.cost < 2 ^ 64) × Unit {0}))))

abbrev pub IsLetterRow : LetterRow → Type 0
IsLetterRow row =
    (row.amount < 2 ^ 64) × (IsDay row.day × ((row.start < 2 ^ 128) × (IsBps row.rate × ((row.rest < 2 ^ 64) × (row.bought < 2 ^ 64)))))

abbrev pub IsOpenLetter : Option LetterRow → Type 0
IsOpenLetter None = Unit {0}
IsOpenLetter (Some row) = IsLetterRow row

abbrev pub IsPositionRow : PositionRow → Type 0
IsPositionRow row =
    (row.account < 2 ^ 32) × ((row.class < 2 ^ 32) × (Unit {0} × ((row.next_lot < 2 ^ 32) × (IsOpenLetter row.letter × AreListed IsLotRow row.lots))))

-- each value is one of its type
abbrev pub IsTyped : StateRow → Type 0
IsTyped state = (state.household < 2 ^ 32) × AreListed IsPositionRow state.positions

abbrev pub IsKept : StateRow → Type 0
IsKept state = IsTyped state × (keeps_rules state ≡ true)

-- a row counts the items of a list in two bytes
abbrev pub fits_lots : PositionRow → Bool
fits_lots row = fits_count row.lots

abbrev pub fits_lists : StateRow → Bool
fits_lists state = fits_count state.positions && list_all fits_lots state.positions

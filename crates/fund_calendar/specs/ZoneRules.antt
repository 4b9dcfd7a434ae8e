-- The ranges of a zone rule, and the instant of a local time. Local minutes are counted from 1970-01-01 00:00 as the
-- local clock shows them, and instants in seconds since 1970-01-01 00:00 UTC.
use Rattle.std.specs.Prelude.{ℕ, ◌+◌, ◌-◌, ◌*◌, ◌/◌, ◌%◌, ◌≤◌, Bool, ◌&&◌, ◌||◌, ◌==◌, nat_lt, nat_le, ℤ, pos, negsuc, if◌then◌else◌, Option, Some, None}
use Rattle.std.specs.Option.{ForSome}
use Rattle.fund_calendar.specs.declared.zone.Change.{Change}
use Rattle.fund_calendar.specs.declared.zone.Daylight.{Daylight}
use Rattle.fund_calendar.specs.declared.zone.Offset.{Offset}
use Rattle.fund_calendar.specs.declared.zone.ZoneRule.{ZoneRule}
use Rattle.fund_calendar.specs.Dates.{month_length, day_number, date_of}

-- a change in its ranges
pub record IsChange (c : Change) : Type 0 where
  pub month_low : 1 ≤ c.month
  pub month_high : c.month ≤ 12
  pub week_low : 1 ≤ c.week
  pub week_high : c.week ≤ 5
  pub weekday_high : c.weekday ≤ 6
  pub hour_high : c.hour ≤ 23

pub record IsDaylight (d : Daylight) : Type 0 where
  pub begins : IsChange d.begins
  pub ends : IsChange d.ends

-- an offset of less than 15 hours
pub record IsOffset (o : Offset) : Type 0 where
  pub behind : o.behind ≤ 899
  pub ahead : o.ahead ≤ 899

pub record IsZoneRule (r : ZoneRule) : Type 0 where
  pub offset : IsOffset r.offset
  pub daylight : ForSome r.daylight IsDaylight

-- the day number of the `week`-th such weekday of a month, or of the last one where the week is 5; Sunday is 0
unfoldable pub weekday_in_month : ℕ → ℕ → ℕ → ℕ → ℕ
weekday_in_month year month week weekday =
    let first = day_number (record { year = year; month = month; day = 1 }) in
    let found = first + (weekday + 7 - (first + 4) % 7) % 7 + 7 * (week - 1) in
    if nat_lt found (first + month_length year month) then found else found - 7

-- the number by which jiff names a week of a month: -1 is the last one
abbrev pub jiff_week : ℕ → ℤ
jiff_week week = if week == 5 then negsuc 0 else pos week

-- the local minute of a change in a year, by the clock just before it
abbrev pub change_minute : ℕ → Change → ℕ
change_minute year c = 1440 * weekday_in_month year c.month c.week c.weekday + 60 * c.hour

-- daylight time counts at a local minute, between the minutes of the year's two changes; the first hour behind the
-- one that begins it is skipped. Where the second change isn't after the first, daylight time counts over new year
abbrev pub is_between : ℕ → ℕ → ℕ → Bool
is_between begins ends local =
    if nat_lt begins ends then nat_le (begins + 60) local && nat_lt local ends
    else nat_le (begins + 60) local || nat_lt local ends

-- daylight time counts at a local minute
unfoldable pub is_daylight : Daylight → ℕ → Bool
is_daylight d local =
    let year = (date_of (local / 1440)).year in
    is_between (change_minute year d.begins) (change_minute year d.ends) local

-- the minutes by which a local time is ahead of standard time
abbrev pub minutes_ahead : Option Daylight → ℕ → ℕ
minutes_ahead None local = 0
minutes_ahead (Some d) local = if is_daylight d local then 60 else 0

abbrev pub daylight_minutes : ZoneRule → ℕ → ℕ
daylight_minutes r local = minutes_ahead r.daylight local

-- the instant of a local minute, where it isn't before 1970
unfoldable pub instant : ZoneRule → ℕ → Option ℕ
instant r local =
    let later = local + r.offset.behind in
    let earlier = r.offset.ahead + daylight_minutes r local in
    if nat_le earlier later then Some (60 * (later - earlier)) else None

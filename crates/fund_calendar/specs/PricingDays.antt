-- The pricing days of a calendar (17 CFR 270.22c-1(b)(1)): Monday to Friday, without the holidays
-- that the prospectus lists, each priced at the instant of the calendar's time of day in its zone.
use Rattle.std.specs.Prelude.{ℕ, zero, suc, ◌+◌, ◌-◌, ◌*◌, ◌<◌, ◌≤◌, Bool, not, ◌&&◌, ◌||◌, ◌==◌, nat_lt, nat_le, if◌then◌else◌, List, [], ◌∷◌, map, filter, find, All, AllPairs, Option, Some, None, option_map, unwrap_or, Result, Ok, Err}
use Rattle.std.specs.List.{list_any}
use Rattle.std.specs.Option.{option_map_or}
use Rattle.fund_calendar.specs.declared.pricing_day.PricingDay.{PricingDay}
use Rattle.fund_calendar.specs.declared.zone.ZoneRule.{ZoneRule}
use Rattle.fund_calendar.specs.Dates.{weekday_of}
use Rattle.fund_calendar.specs.ZoneText.{read_zone}
use Rattle.fund_calendar.specs.ZoneRules.{instant}

-- moments are seconds from 1970-01-01 00:00 UTC up to 2199-12-31 23:59:59
abbrev pub last_moment : ℕ
last_moment = 7258118399

-- the most days from a calendar's first date to its last
abbrev pub longest_span : ℕ
longest_span = 3660

-- the terms of a calendar: its number, its zone rule as text, its time of day in minutes after
-- midnight, its first and last date, and the holidays
pub record CalendarTerms : Type 0 where
  pub number : ℕ
  pub zone : List ℕ
  pub minute : ℕ
  pub first : ℕ
  pub last : ℕ
  pub holidays : List ℕ

-- why terms make no calendar: the text is no zone rule, the dates are out of order or too far
-- apart, or the moment of the pricing day at this place, from 0, doesn't rise
pub data CalendarRefusal : Type 0 where
  BadZone : CalendarRefusal
  BadSpan : CalendarRefusal
  NotRising : (place : ℕ) → CalendarRefusal

-- a calendar: its number, and its pricing days with their moments
pub record Listing : Type 0 where
  pub number : ℕ
  pub days : List PricingDay

-- the days and their moments rise
pub record IsListing (days : List PricingDay) : Type 0 where
  pub days_rise : AllPairs (λ a b. a.day < b.day) days
  pub moments_rise : AllPairs (λ a b. a.moment < b.moment) days

-- so many days from the first on
unfoldable pub days_from : ℕ → ℕ → List ℕ
days_from zero first = []
days_from (suc n) first = first ∷ days_from n (first + 1)

-- Monday to Friday, and no holiday
abbrev pub is_priced : List ℕ → ℕ → Bool
is_priced holidays day =
    nat_lt (weekday_of day) 5 && not (list_any (λ holiday. holiday == day) holidays)

-- the dates from first to last that are priced
unfoldable pub pricing_dates : List ℕ → ℕ → ℕ → List ℕ
pricing_dates holidays first last = filter (is_priced holidays) (days_from (last + 1 - first) first)

-- the instant, where it is a moment and not before the least one that may come
abbrev pub rising : ℕ → Option ℕ → Option ℕ
rising least None = None
rising least (Some moment) =
    if nat_le least moment && nat_le moment last_moment then Some moment else None

-- the place of the first instant that is no moment or isn't greater than the one before it
unfoldable pub first_not_rising : ℕ → List (Option ℕ) → Option ℕ
first_not_rising least [] = None
first_not_rising least (instant ∷ later) =
    option_map_or
    (λ moment. option_map (λ place. place + 1) (first_not_rising (moment + 1) later))
    (rising least instant) (Some 0)

-- a date with the moment of its instant
abbrev pub priced_at : (ℕ → Option ℕ) → ℕ → PricingDay
priced_at instant_of day = record { day = day; moment = unwrap_or (instant_of day) 0 }

-- the dates with their moments, or the place at which these don't rise
abbrev pub days_or_fault : (ℕ → Option ℕ) → List ℕ → Option ℕ
    → Result (List PricingDay) CalendarRefusal
days_or_fault instant_of dates None = Ok (map (priced_at instant_of) dates)
days_or_fault instant_of dates (Some place) = Err (NotRising place)

unfoldable pub days_on : (ℕ → Option ℕ) → List ℕ → Result (List PricingDay) CalendarRefusal
days_on instant_of dates =
    days_or_fault instant_of dates (first_not_rising 0 (map instant_of dates))

-- the instant of the time of day, `minute` minutes after midnight, on each day
abbrev pub instant_on : ZoneRule → ℕ → ℕ → Option ℕ
instant_on rule minute day = instant rule (1440 * day + minute)

-- the days with the number of their calendar
abbrev pub listing_numbered : ℕ → Result (List PricingDay) CalendarRefusal
    → Result Listing CalendarRefusal
listing_numbered number (Ok days) = Ok (record { number = number; days = days })
listing_numbered number (Err refusal) = Err refusal

-- the last date is before the first, or the calendar is too long
abbrev pub is_bad_span : ℕ → ℕ → Bool
is_bad_span first last = nat_lt last first || nat_lt longest_span (last + 1 - first)

-- the calendar by its zone rule, where there is one
abbrev pub calendar_by : Option ZoneRule → CalendarTerms → Result Listing CalendarRefusal
calendar_by None terms = Err BadZone
calendar_by (Some rule) terms =
    if is_bad_span terms.first terms.last then Err BadSpan
    else listing_numbered terms.number
    (days_on (instant_on rule terms.minute) (pricing_dates terms.holidays terms.first terms.last))

-- a new calendar, or the first refusal: its zone, its span, a moment that doesn't rise
unfoldable pub new_calendar : CalendarTerms → Result Listing CalendarRefusal
new_calendar terms = calendar_by (read_zone terms.zone) terms

-- the day is one of the calendar's
abbrev pub lists_day : Listing → ℕ → Bool
lists_day c day = list_any (λ e. e.day == day) c.days

-- the calendar without a day
abbrev pub without_day : Listing → ℕ → Listing
without_day c day = record { number = c.number; days = filter (λ e. not (e.day == day)) c.days }

-- the first listed moment above
abbrev pub first_above : List PricingDay → ℕ → Option ℕ
first_above days moment = option_map (λ e. e.moment) (find (λ e. nat_lt moment e.moment) days)

abbrev pub next_after : Listing → ℕ → Option ℕ
next_after c moment = first_above c.days moment

-- it is the least one above, since the moments rise
pub record IsLeastAbove (days : List PricingDay) (moment next : ℕ) : Type 0 where
  pub above_it : moment < next
  pub least : All (λ e. moment < e.moment → next ≤ e.moment) days

-- no listed moment is above
abbrev pub HasNoneAbove : List PricingDay → ℕ → Type 0
HasNoneAbove days moment = All (λ e. e.moment ≤ moment) days

-- the day that is priced at a moment
abbrev pub date_at : Listing → ℕ → Option ℕ
date_at c moment = option_map (λ e. e.day) (find (λ e. e.moment == moment) c.days)

-- the moment of a day
abbrev pub moment_on : Listing → ℕ → Option ℕ
moment_on c day = option_map (λ e. e.moment) (find (λ e. e.day == day) c.days)

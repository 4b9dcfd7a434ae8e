-- Dates of the Gregorian calendar (ISO 8601) from 1970-01-01 to 2199-12-31. A date is named by its day number,
-- the days since 1970-01-01.
use Rattle.std.specs.Prelude.{ℕ, zero, suc, ◌+◌, ◌-◌, ◌*◌, ◌/◌, ◌%◌, Bool, false, not, ◌&&◌, ◌||◌, ◌==◌, nat_lt, nat_le, if◌then◌else◌, min, Option, Some, None}
use Rattle.std.specs.Option.{option_map_or}

-- the day number of 2199-12-31
abbrev pub last_day : ℕ
last_day = 84005

-- a year, a month from 1 to 12 and a day from 1
pub record YearMonthDay : Type 0 where
  pub year : ℕ
  pub month : ℕ
  pub day : ℕ

-- every fourth year is a leap year, but of the centuries only every fourth
abbrev pub is_leap_year : ℕ → Bool
is_leap_year y = (y % 4 == 0) && (not (y % 100 == 0) || (y % 400 == 0))

-- thirty days have September, April, June and November
abbrev pub month_length : ℕ → ℕ → ℕ
month_length y m =
    if m == 2 then (if is_leap_year y then 29 else 28)
    else (if (m == 4) || (m == 6) || (m == 9) || (m == 11) then 30 else 31)

-- the leap years from the year 1 to before the year y
abbrev pub leap_years_before : ℕ → ℕ
leap_years_before y = (y - 1) / 4 + (y - 1) / 400 - (y - 1) / 100

-- the days from 1970-01-01 to before 1 January of the year y; 477 leap years came before 1970
unfoldable pub days_before_year : ℕ → ℕ
days_before_year y = 365 * (y - 1970) + (leap_years_before y - 477)

-- the days of the first n months of the year y
unfoldable pub days_of_months : ℕ → ℕ → ℕ
days_of_months y zero = 0
days_of_months y (suc n) = days_of_months y n + month_length y (suc n)

-- the day number of a date
unfoldable pub day_number : YearMonthDay → ℕ
day_number d = days_before_year d.year + days_of_months d.year (d.month - 1) + (d.day - 1)

-- the year of a day number: a year has at most 366 days, so that it is the year guessed so or the next one
unfoldable pub year_of : ℕ → ℕ
year_of n = let guess = 1970 + n / 366 in if nat_le (days_before_year (guess + 1)) n then guess + 1
    else guess

-- the date of the day with `left` days of the year y before it from the beginning of the month m on, when
-- `later` months follow that month
unfoldable pub date_in_year : ℕ → ℕ → ℕ → ℕ → YearMonthDay
date_in_year y zero m left = record { year = y; month = m; day = left + 1 }
date_in_year y (suc later) m left =
    if nat_lt left (month_length y m) then record { year = y; month = m; day = left + 1 }
    else date_in_year y later (m + 1) (left - month_length y m)

-- the date of a day number
unfoldable pub date_of : ℕ → YearMonthDay
date_of n = date_in_year (year_of n) 11 1 (n - days_before_year (year_of n))

-- the calendar has this date, and it lies from 1970-01-01 to 2199-12-31
abbrev pub is_date : YearMonthDay → Bool
is_date d =
    nat_le 1970 d.year && nat_le d.year 2199 && nat_le 1 d.month && nat_le d.month 12
    && nat_le 1 d.day
    && nat_le d.day (month_length d.year d.month)

-- the day number of a date, where there is such a date
abbrev pub day_of_date : YearMonthDay → Option ℕ
day_of_date d = if is_date d then Some (day_number d) else None

-- Monday is 0 and Sunday 6; 1970-01-01 was a Thursday
abbrev pub weekday_of : ℕ → ℕ
weekday_of n = (n + 3) % 7

-- `months` months later: the same day of the month, or the month's last day where it has no such day
unfoldable pub months_later : YearMonthDay → ℕ → YearMonthDay
months_later d months =
    let count = d.month - 1 + months in
    let year = d.year + count / 12 in
    let month = count % 12 + 1 in
    record { year = year; month = month; day = min d.day (month_length year month) }

-- that day, where it is not past 2199-12-31
unfoldable pub add_months : ℕ → ℕ → Option ℕ
add_months n months = day_of_date (months_later (date_of n) months)

-- the i-th anniversary of b has come on the day n; the anniversary of 29 February is 28 February in common years
unfoldable pub has_anniversary : ℕ → ℕ → ℕ → Bool
has_anniversary b i n = option_map_or (λ day. nat_le day n) (add_months b (12 * i)) false

-- how many anniversaries of b have come on the day n: the years between them, or one fewer where this year's
-- anniversary has not come yet
unfoldable pub anniversaries : ℕ → ℕ → ℕ
anniversaries b n =
    let years = (date_of n).year - (date_of b).year in
    if nat_lt n b then 0 else (if has_anniversary b years n then years else years - 1)

-- The text of a date: `YYYY-MM-DD`, as in ISO 8601.
use Rattle.std.specs.Prelude.{ℕ, ◌+◌, ◌-◌, ◌*◌, ◌&&◌, ◌==◌, if◌then◌else◌, List, length, slice_index, Option, Some, None}
use Rattle.std.specs.Char.{is_ascii_digit}
use Rattle.fund_calendar.specs.Dates.{day_of_date}

-- the digits at a place and the next one, read as a number; 48 is `0`
abbrev pub two_digits : List ℕ → ℕ → Option ℕ
two_digits text i =
    if is_ascii_digit (slice_index text i) && is_ascii_digit (slice_index text (i + 1))
    then Some (10 * (slice_index text i - 48) + (slice_index text (i + 1) - 48))
    else None

-- the day number of the date with these parts, where each is there and the calendar has the date
abbrev pub day_of_parts : Option ℕ → Option ℕ → Option ℕ → Option ℕ → Option ℕ
day_of_parts (Some century) (Some year) (Some month) (Some day) = day_of_date
    (record { year = 100 * century + year; month = month; day = day })
day_of_parts (Some century) (Some year) (Some month) None = None
day_of_parts (Some century) (Some year) None day = None
day_of_parts (Some century) None month day = None
day_of_parts None year month day = None

-- the digits of a date's text
abbrev pub read_parts : List ℕ → Option ℕ
read_parts text = day_of_parts (two_digits text 0) (two_digits text 2) (two_digits text 5)
    (two_digits text 8)

-- the day number of the date that a text names, where it names one from 1970-01-01 to 2199-12-31; 45 is `-`
unfoldable pub read_day : List ℕ → Option ℕ
read_day text =
    if (length text == 10) && (slice_index text 4 == 45) && (slice_index text 7 == 45)
    then read_parts text else None

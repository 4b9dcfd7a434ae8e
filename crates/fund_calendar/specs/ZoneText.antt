-- The text of a zone rule, in the form of POSIX's TZ variable (IEEE Std 1003.1, 8.3) cut down to names, an offset
-- and two yearly changes by weekday: `EST5EDT,M3.2.0,M11.1.0`, `<+0330>-3:30`.
use Rattle.std.specs.Prelude.{ℕ, ◌+◌, ◌-◌, ◌*◌, Bool, false, not, ◌&&◌, ◌||◌, ◌==◌, nat_le, if◌then◌else◌, List, length, take, drop, position, slice_index, Option, Some, None, unwrap_or, option_map}
use Rattle.std.specs.Option.{option_map_or}
use Rattle.std.specs.List.{list_all}
use Rattle.std.specs.Char.{is_ascii_digit, is_ascii_alphabetic, is_ascii_alphanumeric}
use Rattle.fund_calendar.specs.declared.zone.Change.{Change}
use Rattle.fund_calendar.specs.declared.zone.Daylight.{Daylight}
use Rattle.fund_calendar.specs.declared.zone.Offset.{Offset}
use Rattle.fund_calendar.specs.declared.zone.ZoneRule.{ZoneRule}
use Rattle.fund_calendar.specs.DayText.{two_digits}

-- the text before the first such byte, and the text behind it
abbrev pub cut_at : ℕ → List ℕ → Option (List ℕ × List ℕ)
cut_at byte text = option_map (λ i. (take i text, drop (i + 1) text))
    (position (λ b. b == byte) text)

-- the number, where it lies from low to high
abbrev pub in_range : ℕ → ℕ → Option ℕ → Option ℕ
in_range low high None = None
in_range low high (Some n) = if nat_le low n && nat_le n high then Some n else None

-- a number of one or two digits; 48 is `0`
abbrev pub read_digits : List ℕ → Option ℕ
read_digits text =
    if length text == 2 then two_digits text 0
    else (if (length text == 1) && is_ascii_digit (slice_index text 0)
    then Some (slice_index text 0 - 48) else None)

-- the same, without a leading zero
abbrev pub read_small : List ℕ → Option ℕ
read_small text = if (length text == 2) && (slice_index text 0 == 48) then None
    else read_digits text

-- a name has 3 to 10 bytes
abbrev pub is_name_length : ℕ → Bool
is_name_length n = nat_le 3 n && nat_le n 10

-- no letter
abbrev pub is_other : ℕ → Bool
is_other b = not (is_ascii_alphabetic b)

-- how many letters a text begins with
abbrev pub letters : List ℕ → ℕ
letters text = unwrap_or (position is_other text) (length text)

-- 43 is `+` and 45 is `-`
abbrev pub is_quoted_byte : ℕ → Bool
is_quoted_byte b = is_ascii_alphanumeric b || (b == 43) || (b == 45)

abbrev pub is_quoted : List ℕ → Bool
is_quoted name = list_all is_quoted_byte name

-- what stands behind a name between `<` and `>`
abbrev pub behind_quoted : Option (List ℕ × List ℕ) → Option (List ℕ)
behind_quoted None = None
behind_quoted (Some (name, rest)) =
    if is_name_length (length name) && is_quoted name then Some rest else None

-- what stands behind the name that a text begins with; 60 is `<` and 62 is `>`
abbrev pub behind_name : List ℕ → Option (List ℕ)
behind_name text =
    if slice_index text 0 == 60 then behind_quoted (cut_at 62 (drop 1 text))
    else (if is_name_length (letters text) then Some (drop (letters text) text) else None)

-- the number made of two, where both are there
abbrev pub both : (ℕ → ℕ → ℕ) → Option ℕ → Option ℕ → Option ℕ
both f None b = None
both f (Some a) None = None
both f (Some a) (Some b) = Some (f a b)

-- the hours of an offset
abbrev pub offset_hours : List ℕ → Option ℕ
offset_hours text = in_range 0 14 (read_digits text)

-- the minutes of an offset: two digits
abbrev pub offset_minutes : List ℕ → Option ℕ
offset_minutes text = if length text == 2 then in_range 0 59 (two_digits text 0) else None

-- the minutes of an offset without its sign, given its parts round a colon
abbrev pub minutes_of : List ℕ → Option (List ℕ × List ℕ) → Option ℕ
minutes_of text None = option_map (λ hours. 60 * hours) (offset_hours text)
minutes_of text (Some (hours, minutes)) = both
    (λ h m. 60 * h + m) (offset_hours hours) (offset_minutes minutes)

-- the minutes of an offset without its sign; 58 is `:`
abbrev pub unsigned_minutes : List ℕ → Option ℕ
unsigned_minutes text = minutes_of text (cut_at 58 text)

-- how far standard time is behind UTC, or ahead of it where the offset begins with `-` (45)
abbrev pub read_offset : List ℕ → Option Offset
read_offset text =
    if slice_index text 0 == 45 then option_map
    (λ minutes. record { behind = 0; ahead = minutes }) (unsigned_minutes (drop 1 text))
    else (if slice_index text 0 == 43 then option_map
    (λ minutes. record { behind = minutes; ahead = 0 }) (unsigned_minutes (drop 1 text))
    else option_map (λ minutes. record { behind = minutes; ahead = 0 }) (unsigned_minutes text))

-- a yearly change, where its parts are there
abbrev pub change_of : Option ℕ → Option ℕ → Option ℕ → Option ℕ → Option Change
change_of (Some month) (Some week) (Some weekday) (Some hour) = Some
    (record { month = month; week = week; weekday = weekday; hour = hour })
change_of (Some month) (Some week) (Some weekday) None = None
change_of (Some month) (Some week) None hour = None
change_of (Some month) None weekday hour = None
change_of None week weekday hour = None

-- a change given its month, and what stands behind it round a point
abbrev pub change_from : List ℕ → Option (List ℕ × List ℕ) → Option ℕ → Option Change
change_from month None hour = None
change_from month (Some (week, weekday)) hour =
    change_of (in_range 1 12 (read_small month)) (in_range 1 5 (read_small week))
    (in_range 0 6 (read_small weekday)) hour

-- a change given its date without the `M`, in parts round a point
abbrev pub change_by_month : Option (List ℕ × List ℕ) → Option ℕ → Option Change
change_by_month None hour = None
change_by_month (Some (month, rest)) hour = change_from month (cut_at 46 rest) hour

-- a change by its date, `Mm.w.d`, and its hour; 77 is `M` and 46 is `.`
abbrev pub change_on : List ℕ → Option ℕ → Option Change
change_on date hour = if slice_index date 0 == 77
    then change_by_month (cut_at 46 (drop 1 date)) hour else None

-- a change given its parts round a slash
abbrev pub change_at : List ℕ → Option (List ℕ × List ℕ) → Option Change
change_at text None = change_on text (Some 2)
change_at text (Some (date, hour)) = change_on date (in_range 0 23 (read_small hour))

-- a change: `Mm.w.d`, and behind a slash (47) its hour, which is 2 where none is given
abbrev pub read_change : List ℕ → Option Change
read_change text = change_at text (cut_at 47 text)

-- daylight time, where both changes are there
abbrev pub daylight_of : Option Change → Option Change → Option Daylight
daylight_of None ends = None
daylight_of (Some begins) None = None
daylight_of (Some begins) (Some ends) = Some (record { begins = begins; ends = ends })

-- daylight time by its two changes round a comma
abbrev pub daylight_from : Option (List ℕ × List ℕ) → Option Daylight
daylight_from None = None
daylight_from (Some (begins, ends)) = daylight_of (read_change begins) (read_change ends)

-- the text is a name and nothing else
abbrev pub is_name : List ℕ → Bool
is_name text = option_map_or (λ rest. length rest == 0) (behind_name text) false

-- daylight time by its name and its changes; 44 is a comma
abbrev pub daylight_named : Option (List ℕ × List ℕ) → Option Daylight
daylight_named None = None
daylight_named (Some (name, changes)) = if is_name name then daylight_from (cut_at 44 changes)
    else None

-- the rule of an offset and daylight time, where both are there
abbrev pub rule_of : Option Offset → Option Daylight → Option ZoneRule
rule_of None daylight = None
rule_of (Some offset) None = None
rule_of (Some offset) (Some daylight) = Some (record { offset = offset; daylight = Some daylight })

-- the byte begins a name
abbrev pub begins_name : ℕ → Bool
begins_name b = is_ascii_alphabetic b || (b == 60)

-- the rule behind its first name: an offset alone, or one with daylight time from the place of the second name on
abbrev pub rule_behind : List ℕ → Option ℕ → Option ZoneRule
rule_behind text None = option_map (λ offset. record { offset = offset; daylight = None })
    (read_offset text)
rule_behind text (Some i) = rule_of (read_offset (take i text))
    (daylight_named (cut_at 44 (drop i text)))

-- the rule behind its first name, where there is one
abbrev pub rule_named : Option (List ℕ) → Option ZoneRule
rule_named None = None
rule_named (Some rest) = rule_behind rest (position begins_name rest)

-- the rule that a text spells, where it is a zone rule
unfoldable pub read_zone : List ℕ → Option ZoneRule
read_zone text = rule_named (behind_name text)

-- The forms of single fields, as readers of a text: the value where the text is in the form.
use Rattle.std.specs.Prelude.{ℕ, ◌+◌, ◌-◌, ◌*◌, Bool, true, false, not, ◌&&◌, ◌||◌, nat_lt, nat_le, ◌==◌, if◌then◌else◌, List, [], ◌∷◌, length, take, drop, slice_index, Option, Some, None, option_map, option_and_then, codes, bytes_eq}
use Rattle.std.specs.List.{list_all, slice_split, before_first, after_first}
use Rattle.money_units.specs.ByteTexts.{begins, is_visible}
use Rattle.money_units.specs.Texts.{number, money, shares, rate as millionths}
use Rattle.fund_calendar.specs.DayText.{two_digits, read_day}
use Rattle.class_terms.specs.declared.lists.Bracket.{Bracket}
use Rattle.agent_events.specs.declared.order.Bearer.{Bearer}

-- a value, where it lies in its range
abbrev pub within : ℕ → ℕ → Option ℕ → Option ℕ
within low high None = None
within low high (Some n) = if nat_le low n && nat_le n high then Some n else None

-- the number of a calendar, class, fund, dealer, household or account
abbrev pub identifier : List ℕ → Option ℕ
identifier text = within 1 4294967295 (number text)

-- the same, or 0 for none
abbrev pub identifier_or_none : List ℕ → Option ℕ
identifier_or_none text = within 0 4294967295 (number text)

-- what an account calls an order, or the number of a correction
abbrev pub reference : List ℕ → Option ℕ
reference text = within 1 9999999999999999999 (number text)

-- seconds since 1970-01-01 00:00 UTC, to the end of 2199
abbrev pub moment : List ℕ → Option ℕ
moment text = within 0 7258118399 (number text)

-- the money of an order, of a minimum, and a net asset value, in cents
abbrev pub amount : List ℕ → Option ℕ
amount text = within 1 1000000000000 (money text)

abbrev pub minimum : List ℕ → Option ℕ
minimum text = within 0 1000000000000 (money text)

abbrev pub nav : List ℕ → Option ℕ
nav text = within 1 10000000 (money text)

-- the rate of a load in basis points, before any rule of the trade is asked
abbrev pub basis_points : List ℕ → Option ℕ
basis_points text = within 0 65535 (number text)

-- `1` for yes, `0` for no
abbrev pub flag : List ℕ → Option Bool
flag text = if bytes_eq text (codes "1") then Some true else if bytes_eq text (codes "0") then Some false else None

-- a byte from space to tilde
abbrev pub is_printable : ℕ → Bool
is_printable byte = nat_le 32 byte && nat_le byte 126

-- 1 to 40 printable bytes, the first and the last no space
abbrev pub is_label : List ℕ → Bool
is_label text =
    (nat_le 1 (length text) && nat_le (length text) 40)
    && (list_all is_printable text && (not (slice_index text 0 == 32) && not (slice_index text (length text - 1) == 32)))

abbrev pub label : List ℕ → Option (List ℕ)
label text = if is_label text then Some text else None

abbrev pub is_space : ℕ → Bool
is_space byte = byte == 32

-- the items of a list, with one space between them; the empty text is the empty list
abbrev pub list_items : List ℕ → List (List ℕ)
list_items text = if length text == 0 then [] else slice_split is_space text

-- every item in its form
abbrev pub each : {A : Type 0} → (List ℕ → Option A) → List (List ℕ) → Option (List A)
each form [] = Some []
each form (item ∷ items) = option_and_then (λ x. option_map (λ xs. x ∷ xs) (each form items)) (form item)

abbrev pub is_colon : ℕ → Bool
is_colon byte = byte == 58

-- two values with a colon between them
abbrev pub pair : {A B : Type 0} → (List ℕ → Option A) → (List ℕ → Option B) → List ℕ → Option (A × B)
pair first second text =
    option_and_then (λ x. option_map (λ y. (x, y)) (second (after_first is_colon text))) (first (before_first is_colon text))

abbrev pub bracket_of : ℕ × ℕ → Bracket
bracket_of row = record { floor = row.0; rate = row.1 }

-- a row of a table of front-end loads: a floor in money and a rate
abbrev pub bracket : List ℕ → Option Bracket
bracket text = option_map bracket_of (pair money basis_points text)

-- a floor has at most 13 digits of dollars, as all money in its form
abbrev pub is_floor : Bracket → Bool
is_floor row = nat_le row.floor 999999999999999

abbrev pub are_floors : List Bracket → Bool
are_floors rows = list_all is_floor rows

abbrev pub if_floors : List Bracket → Option (List Bracket)
if_floors rows = if are_floors rows then Some rows else None

abbrev pub brackets : List ℕ → Option (List Bracket)
brackets text = option_and_then if_floors (each bracket (list_items text))

-- the rates of a schedule
abbrev pub rates : List ℕ → Option (List ℕ)
rates text = each basis_points (list_items text)

-- each class number is greater than the one before, and the first is at least 1
abbrev pub rises_above : ℕ → List (ℕ × ℕ) → Bool
rises_above low [] = true
rises_above low (price ∷ rest) = nat_lt low price.0 && rises_above price.0 rest

abbrev pub is_rising : List (ℕ × ℕ) → Bool
is_rising prices = rises_above 0 prices

abbrev pub if_rising : List (ℕ × ℕ) → Option (List (ℕ × ℕ))
if_rising prices = if is_rising prices then Some prices else None

-- the list of a sheet: classes with their net asset values, by strictly rising class
abbrev pub prices : List ℕ → Option (List (ℕ × ℕ))
prices text = option_and_then if_rising (each (pair identifier nav) (list_items text))

-- 1 to 64 visible bytes, read as a zone rule only later
abbrev pub is_zone_text : List ℕ → Bool
is_zone_text text = nat_le 1 (length text) && (nat_le (length text) 64 && list_all is_visible text)

abbrev pub zone : List ℕ → Option (List ℕ)
zone text = if is_zone_text text then Some text else None

-- an hour and a minute in minutes after midnight
abbrev pub minutes_of : Option ℕ → Option ℕ → Option ℕ
minutes_of (Some hour) (Some minute) = Some (60 * hour + minute)
minutes_of (Some hour) None = None
minutes_of None minute = None

-- a time of day `HH:MM`, in minutes after midnight; 58 is `:`
abbrev pub time : List ℕ → Option ℕ
time text =
    if length text == 5 && slice_index text 2 == 58
    then minutes_of (within 0 23 (two_digits text 0)) (within 0 59 (two_digits text 3))
    else None

-- each date is later than the one before
abbrev pub are_rising : List ℕ → Bool
are_rising [] = true
are_rising (day ∷ []) = true
are_rising (day ∷ next ∷ rest) = nat_lt day next && are_rising (next ∷ rest)

-- at most 3,660 dates that rise strictly
abbrev pub are_holidays : List ℕ → Bool
are_holidays days = nat_le (length days) 3660 && are_rising days

abbrev pub if_holidays : List ℕ → Option (List ℕ)
if_holidays days = if are_holidays days then Some days else None

abbrev pub holidays : List ℕ → Option (List ℕ)
holidays text = option_and_then if_holidays (each read_day (list_items text))

-- a small letter or a digit
abbrev pub is_key_byte : ℕ → Bool
is_key_byte byte = (nat_le 97 byte && nat_le byte 122) || (nat_le 48 byte && nat_le byte 57)

-- a key: the mark of who holds it, then 8 to 56 of a to z and 0 to 9
abbrev pub is_marked_key : List ℕ → List ℕ → Bool
is_marked_key mark key =
    begins mark key
    && (nat_le (length mark + 8) (length key)
    && (nat_le (length key) (length mark + 56) && list_all is_key_byte (drop (length mark) key)))

abbrev pub is_household_key : List ℕ → Bool
is_household_key key = is_marked_key (codes "h-") key

abbrev pub household_key : List ℕ → Option (List ℕ)
household_key text = if is_household_key text then Some text else None

abbrev pub is_dealer_key : List ℕ → Bool
is_dealer_key key = is_marked_key (codes "d-") key

abbrev pub dealer_key : List ℕ → Option (List ℕ)
dealer_key text = if is_dealer_key text then Some text else None

abbrev pub is_operator_key : List ℕ → Bool
is_operator_key key = is_marked_key (codes "op-") key

abbrev pub operator_key : List ℕ → Option (List ℕ)
operator_key text = if is_operator_key text then Some text else None

-- seconds of a dealer's window, a day at most
abbrev pub window : List ℕ → Option ℕ
window text = within 0 86400 (number text)

-- the mils of an order
abbrev pub quantity : List ℕ → Option ℕ
quantity text = within 1 1000000000000 (shares text)

-- the rate of a dividend, and of one that is corrected, in millionths of a dollar per share
abbrev pub dividend_rate : List ℕ → Option ℕ
dividend_rate text = within 1 1000000000 (millionths text)

abbrev pub corrected_rate : List ℕ → Option ℕ
corrected_rate text = within 0 1000000000 (millionths text)

-- `fund`, `agent`, or `dealer:` and the dealer's number
abbrev pub dealer_bearer : List ℕ → Option Bearer
dealer_bearer text =
    if bytes_eq (take 7 text) (codes "dealer:") then option_map Bearer.Dealer (identifier (drop 7 text)) else None

abbrev pub bearer : List ℕ → Option Bearer
bearer text =
    if bytes_eq text (codes "fund") then Some Bearer.Fund
    else if bytes_eq text (codes "agent") then Some Bearer.Agent
    else dealer_bearer text

-- how dividends are to be paid: `cash` (true) or `shares`
abbrev pub pay : List ℕ → Option Bool
pay text =
    if bytes_eq text (codes "cash") then Some true else if bytes_eq text (codes "shares") then Some false else None

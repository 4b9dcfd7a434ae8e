-- The text forms of numbers. Money is whole cents, written in dollars with two places (`10.61`); shares are whole
-- mils, thousandths of a share, written with three (`942.507`); a dividend rate is whole millionths of a dollar per
-- share, written with six (`0.120000`). Each value has one form, and a reader takes that form alone.
use Rattle.std.specs.Prelude.{ℕ, suc, ◌+◌, ◌-◌, ◌*◌, ◌/◌, ◌%◌, ◌^◌, Bool, not, ◌&&◌, ◌||◌, ◌==◌, nat_le, if◌then◌else◌, List, [], ◌∷◌, ◌++◌, length, take, drop, slice_index, Option, Some, None, ℤ, pos, negsuc, decimal}
use Rattle.std.specs.List.{list_all}
use Rattle.std.specs.Char.{is_ascii_digit}
use Rattle.std.specs.Str.Parse.{digits_value}

-- 1 to `most` decimal digits, with no leading 0 but that of `0` itself
abbrev pub is_whole : ℕ → List ℕ → Bool
is_whole most text =
    list_all is_ascii_digit text && not (length text == 0) && nat_le (length text) most
    && (not (slice_index text 0 == 48) || length text == 1)

-- the whole number that such a text writes
abbrev pub whole : ℕ → List ℕ → Option ℕ
whole most text = if is_whole most text then Some (digits_value 10 text) else None

-- how many bytes of a text with so many places stand before its point
abbrev pub point_of : ℕ → List ℕ → ℕ
point_of places text = length text - (places + 1)

-- a whole number of at most `most` digits, a point, and so many digits behind it
abbrev pub is_fixed : ℕ → ℕ → List ℕ → Bool
is_fixed most places text =
    is_whole most (take (point_of places text) text)
    && slice_index text (point_of places text) == 46
    && list_all is_ascii_digit (drop (point_of places text + 1) text)

-- the number of units of the last place that such a text writes
abbrev pub fixed : ℕ → ℕ → List ℕ → Option ℕ
fixed most places text =
    if is_fixed most places text
    then Some (digits_value 10 (take (point_of places text) text) * 10 ^ places
    + digits_value 10 (drop (point_of places text + 1) text))
    else None

-- the value of a text in the form of a number, of money in cents, of shares in mils, of a rate in millionths
abbrev pub number : List ℕ → Option ℕ
number text = whole 19 text

abbrev pub money : List ℕ → Option ℕ
money text = fixed 13 2 text

abbrev pub shares : List ℕ → Option ℕ
shares text = fixed 13 3 text

abbrev pub rate : List ℕ → Option ℕ
rate text = fixed 4 6 text

-- the last decimal digit of n, as a byte
abbrev pub last_digit : ℕ → ℕ
last_digit n = 48 + n % 10

-- the one form of a number, of cents, of mils
abbrev pub number_text : ℕ → List ℕ
number_text n = decimal n

abbrev pub money_text : ℕ → List ℕ
money_text cents = decimal (cents / 100) ++ 46 ∷ last_digit (cents / 10) ∷ last_digit cents ∷ []

abbrev pub shares_text : ℕ → List ℕ
shares_text mils =
    decimal (mils / 1000) ++ 46 ∷ last_digit (mils / 100) ∷ last_digit (mils / 10) ∷ last_digit mils
    ∷ []

-- the one form of signed cents: `-` before the size of a negative amount, and zero is `0.00`
abbrev pub signed_text : ℤ → List ℕ
signed_text (pos cents) = money_text cents
signed_text (negsuc n) = 45 ∷ money_text (suc n)

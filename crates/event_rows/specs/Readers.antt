-- The reader of each field.
use Rattle.std.specs.Prelude.{ℕ, ◌+◌, ◌*◌, Bool, nat_le, ◌==◌, if◌then◌else◌, List, Option, Some, None, option_and_then}
use Rattle.std.specs.Int.{w16, w32, w64}
use Rattle.agent_events.specs.declared.order.Bearer.{Bearer}
use Rattle.agent_events.specs.Fields.{is_label, is_zone_text, is_household_key, is_dealer_key}
use Rattle.event_rows.specs.FieldReading.{◌&◌, map_read, kept, behind, byte_at, number_at, number_between, bytes_at}

abbrev pub is_one : ℕ → Bool
is_one n = n == 1

abbrev pub whole_of : ℕ × ℕ → ℕ
whole_of halves = 18446744073709551616 * halves.0 + halves.1

unfoldable pub flag_at : List ℕ → Option (Bool × List ℕ)
flag_at = map_read is_one (kept (λ n. nat_le n 1) byte_at)

unfoldable pub sixteen_at : List ℕ → Option (ℕ × List ℕ)
sixteen_at = map_read whole_of (number_at w64 & number_at w64)

unfoldable pub text_at : List ℕ → Option (List ℕ × List ℕ)
text_at bytes = option_and_then (λ count. bytes_at count.0 count.1) (number_at w16 bytes)

unfoldable pub identifier_at : List ℕ → Option (ℕ × List ℕ)
identifier_at = number_between w32 1 4294967295

unfoldable pub identifier_or_none_at : List ℕ → Option (ℕ × List ℕ)
identifier_or_none_at = number_between w32 0 4294967295

unfoldable pub reference_at : List ℕ → Option (ℕ × List ℕ)
reference_at = number_between w64 1 9999999999999999999

unfoldable pub moment_at : List ℕ → Option (ℕ × List ℕ)
moment_at = number_between w64 0 7258118399

unfoldable pub day_at : List ℕ → Option (ℕ × List ℕ)
day_at = number_between w32 0 84005

unfoldable pub amount_at : List ℕ → Option (ℕ × List ℕ)
amount_at = number_between w64 1 1000000000000

unfoldable pub minimum_at : List ℕ → Option (ℕ × List ℕ)
minimum_at = number_between w64 0 1000000000000

unfoldable pub nav_at : List ℕ → Option (ℕ × List ℕ)
nav_at = number_between w64 1 10000000

unfoldable pub quantity_at : List ℕ → Option (ℕ × List ℕ)
quantity_at = number_between w64 1 1000000000000

unfoldable pub dividend_rate_at : List ℕ → Option (ℕ × List ℕ)
dividend_rate_at = number_between w64 1 1000000000

unfoldable pub corrected_rate_at : List ℕ → Option (ℕ × List ℕ)
corrected_rate_at = number_between w64 0 1000000000

unfoldable pub time_of_day_at : List ℕ → Option (ℕ × List ℕ)
time_of_day_at = number_between w16 0 1439

unfoldable pub window_at : List ℕ → Option (ℕ × List ℕ)
window_at = number_between w32 0 86400

unfoldable pub rate_at : List ℕ → Option (ℕ × List ℕ)
rate_at = number_between w16 0 65535

unfoldable pub name_at : List ℕ → Option (List ℕ × List ℕ)
name_at = kept is_label text_at

unfoldable pub zone_at : List ℕ → Option (List ℕ × List ℕ)
zone_at = kept is_zone_text text_at

unfoldable pub household_key_at : List ℕ → Option (List ℕ × List ℕ)
household_key_at = kept is_household_key text_at

unfoldable pub dealer_key_at : List ℕ → Option (List ℕ × List ℕ)
dealer_key_at = kept is_dealer_key text_at

-- who bears a loss, by the tag
abbrev pub bearer_behind : ℕ → List ℕ → Option (Bearer × List ℕ)
bearer_behind tag rest =
    if tag == 0 then Some (Bearer.Fund, rest)
    else if tag == 1 then Some (Bearer.Agent, rest)
    else if tag == 2 then map_read Bearer.Dealer identifier_at rest
    else None

unfoldable pub bearer_at : List ℕ → Option (Bearer × List ℕ)
bearer_at bytes = behind bearer_behind (byte_at bytes)

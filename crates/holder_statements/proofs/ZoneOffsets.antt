-- The offset of a zone rule that a text spells is of less than 15 hours.
use Rattle.std.proofs.Common.{Bool, List, None, Option, Some, arith, cond, drop, false, length, nat_le, option_map, position, refl, subst, take, true, ℕ, ◌&&◌, ◌*◌, ◌+◌, ◌==◌, ◌≡◌, ◌≤◌}
use Rattle.std.proofs.lemmas.Bool.{and_parts, leb-true}
use Rattle.std.specs.Prelude.{slice_index}
use Rattle.fund_calendar.specs.DayText.{two_digits}
use Rattle.fund_calendar.specs.ZoneRules.{IsOffset}
use Rattle.fund_calendar.specs.ZoneText.{begins_name, behind_name, both, cut_at, daylight_named, in_range, minutes_of, offset_hours, offset_minutes, read_digits, read_offset, read_zone, rule_behind, rule_named, rule_of, unsigned_minutes}
use Rattle.fund_calendar.specs.declared.zone.Daylight.{Daylight}
use Rattle.fund_calendar.specs.declared.zone.Offset.{Offset}
use Rattle.fund_calendar.specs.declared.zone.ZoneRule.{ZoneRule}

-- a value that is there is at most so great
abbrev IsUpTo : ℕ → Option ℕ → Type 0
IsUpTo most o = (n : ℕ) → o ≡ Some n → n ≤ most

in_range_most : (low high : ℕ) (o : Option ℕ) → IsUpTo high (in_range low high o)
in_range_most low high None n e = cc
in_range_most low high (Some m) n e = by_test (nat_le low m && nat_le m high) refl e
  where
    by_test : (b : Bool) → (nat_le low m && nat_le m high) ≡ b → cond b (Some m) None ≡ Some n → n ≤ high
    by_test true is e =
        let same : m ≡ n = cc in
        let le = leb-true m high (and_parts (nat_le low m) (nat_le m high) is).1 in
        omega arith
    by_test false is e = cc

minute_most : (text : List ℕ) → IsUpTo 59 (offset_minutes text)
minute_most text n e = by_test (length text == 2) e
  where
    by_test : (b : Bool) → cond b (in_range 0 59 (two_digits text 0)) None ≡ Some n → n ≤ 59
    by_test true e = in_range_most 0 59 (two_digits text 0) n e
    by_test false e = cc

minutes_most : (text : List ℕ) (cut : Option (List ℕ × List ℕ)) → IsUpTo 899 (minutes_of text cut)
minutes_most text None n e = by_hours (offset_hours text) (in_range_most 0 14 (read_digits text)) e
  where
    by_hours : (o : Option ℕ) → IsUpTo 14 o → option_map (λ hours. 60 * hours) o ≡ Some n → n ≤ 899
    by_hours None small e = cc
    by_hours (Some hours) small e =
        let le = small hours refl in
        let same : 60 * hours ≡ n = cc in
        omega arith
minutes_most text (Some (hours, minutes)) n e =
    by_both (offset_hours hours) (offset_minutes minutes) (in_range_most 0 14 (read_digits hours)) (minute_most minutes) e
  where
    by_both : (o p : Option ℕ) → IsUpTo 14 o → IsUpTo 59 p → both (λ h m. 60 * h + m) o p ≡ Some n → n ≤ 899
    by_both None p small least e = cc
    by_both (Some h) None small least e = cc
    by_both (Some h) (Some m) small least e =
        let first = small h refl in
        let second = least m refl in
        let same : 60 * h + m ≡ n = cc in
        omega arith

-- an offset that is there is within its bounds
abbrev AreBounded : Option Offset → Type 0
AreBounded o = (offset : Offset) → o ≡ Some offset → IsOffset offset

ahead_bounded : (o : Option ℕ) → IsUpTo 899 o → AreBounded (option_map (λ minutes. record { behind = 0; ahead = minutes }) o)
ahead_bounded None small offset e = cc
ahead_bounded (Some minutes) small offset e =
    let made : Offset = record { behind = 0; ahead = minutes } in
    let same : made ≡ offset = cc in
    subst IsOffset same (record { behind = omega arith; ahead = small minutes refl })

behind_bounded : (o : Option ℕ) → IsUpTo 899 o → AreBounded (option_map (λ minutes. record { behind = minutes; ahead = 0 }) o)
behind_bounded None small offset e = cc
behind_bounded (Some minutes) small offset e =
    let made : Offset = record { behind = minutes; ahead = 0 } in
    let same : made ≡ offset = cc in
    subst IsOffset same (record { behind = small minutes refl; ahead = omega arith })

offset_bounded : (text : List ℕ) → AreBounded (read_offset text)
offset_bounded text offset e = by_sign (slice_index text 0 == 45) (slice_index text 0 == 43) e
  where
    by_sign : (minus plus : Bool) → cond minus (option_map (λ minutes. record { behind = 0; ahead = minutes }) (unsigned_minutes (drop 1 text))) (cond plus (option_map (λ minutes. record { behind = minutes; ahead = 0 }) (unsigned_minutes (drop 1 text))) (option_map (λ minutes. record { behind = minutes; ahead = 0 }) (unsigned_minutes text))) ≡ Some offset → IsOffset offset
    by_sign true plus e = ahead_bounded (unsigned_minutes (drop 1 text)) (minutes_most (drop 1 text) (cut_at 58 (drop 1 text))) offset e
    by_sign false true e = behind_bounded (unsigned_minutes (drop 1 text)) (minutes_most (drop 1 text) (cut_at 58 (drop 1 text))) offset e
    by_sign false false e = behind_bounded (unsigned_minutes text) (minutes_most text (cut_at 58 text)) offset e

-- a rule that is there has such an offset
abbrev HasBounded : Option ZoneRule → Type 0
HasBounded o = (rule : ZoneRule) → o ≡ Some rule → IsOffset rule.offset

rule_bounded : (offset : Option Offset) (daylight : Option Daylight) → AreBounded offset → HasBounded (rule_of offset daylight)
rule_bounded None daylight bounded rule e = cc
rule_bounded (Some offset) None bounded rule e = cc
rule_bounded (Some offset) (Some daylight) bounded rule e =
    let made : ZoneRule = record { offset = offset; daylight = Some daylight } in
    let same : made ≡ rule = cc in
    subst (λ (r : ZoneRule). IsOffset r.offset) same (bounded offset refl)

plain_bounded : (offset : Option Offset) → AreBounded offset → HasBounded (option_map (λ offset. record { offset = offset; daylight = None }) offset)
plain_bounded None bounded rule e = cc
plain_bounded (Some offset) bounded rule e =
    let made : ZoneRule = record { offset = offset; daylight = None } in
    let same : made ≡ rule = cc in
    subst (λ (r : ZoneRule). IsOffset r.offset) same (bounded offset refl)

behind_name_bounded : (text : List ℕ) (place : Option ℕ) → HasBounded (rule_behind text place)
behind_name_bounded text None = plain_bounded (read_offset text) (offset_bounded text)
behind_name_bounded text (Some i) = rule_bounded (read_offset (take i text)) (daylight_named (cut_at 44 (drop i text))) (offset_bounded (take i text))

named_bounded : (rest : Option (List ℕ)) → HasBounded (rule_named rest)
named_bounded None rule e = cc
named_bounded (Some rest) rule e = behind_name_bounded rest (position begins_name rest) rule e

pub zone_bounded : (text : List ℕ) (rule : ZoneRule) → read_zone text ≡ Some rule → IsOffset rule.offset
unfolding read_zone
zone_bounded text = named_bounded (behind_name text)

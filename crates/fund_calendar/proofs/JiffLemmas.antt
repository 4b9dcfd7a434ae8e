-- A date of jiff and the definitions' date with the same day number have the same parts.
use Rattle.std.proofs.Common.{◌≡◌, ℕ, ◌+◌, ◌-◌, ◌/◌, ◌%◌, ◌<◌, ◌≤◌, Bool, true, false, min, nat_le, ◌&&◌, inl, inr, refl, sym, ap, ◌∙◌, arith, rules, ℤ, pos, negsuc, ◌+ℤ◌, ◌*ℤ◌, ◌≤ℤ◌, ◌<ℤ◌, Some, None, unsigned_abs}
use Rattle.std.proofs.lemmas.Bool.Decides.{leb_tells}
use Rattle.std.specs.Prelude.{IsNone}
use Rattle.std.proofs.lemmas.Bool.{cases_lt}
use Rattle.jiff_core.specs.declared.civil.date.Date.{Date}
use Rattle.jiff_core.specs.Calendar.{days_from_civil, weekday_number}
use Rattle.jiff_core.specs.Date.{epoch_day}
use Rattle.jiff_core.proofs.SignedLemmas.{signed_arith}
use Rattle.jiff_core.proofs.CalendarLemmas.{weekday_number-parts, days_in_month_bounds}
use Rattle.jiff_core.proofs.DateLemmas.{epoch_day_injective, epoch_day-lt}
use Rattle.jiff_span.specs.Months.{month_number, add_months as jiff_add_months, shifted_year, shifted_month, IsShiftable}
use Rattle.jiff_span.proofs.MonthLemmas.{shift_parts}
use Rattle.fund_calendar.specs.Dates.{YearMonthDay, day_number, days_before_year, days_of_months, date_of, month_length, months_later, weekday_of, day_of_date, add_months, has_anniversary}
use Rattle.fund_calendar.specs.JiffDates.{year_month_day}
use Rattle.fund_calendar.proofs.DateLemmas.{date_of_is, days_from_civil-day_number}

-- a date of the definitions that jiff has too
pub record IsJiffDate (p : YearMonthDay) : Type 0 where
  pub year_low : 1970 ≤ p.year
  pub year_high : p.year ≤ 9999
  pub month_low : 1 ≤ p.month
  pub month_high : p.month ≤ 12
  pub day_low : 1 ≤ p.day
  pub day_high : p.day ≤ month_length p.year p.month

pub jiff_date : (p : YearMonthDay) → IsJiffDate p → Date
jiff_date p h = record {
  year = pos p.year;
  month = p.month;
  day = p.day;
  year_in = omega (arith, signed_arith, h.year_high);
  month_in = (h.month_low, h.month_high);
  day_in = (h.day_low, h.day_high);
}

pub record HasParts (d : Date) (p : YearMonthDay) : Type 0 where
  pub year : d.year ≡ pos p.year
  pub month : d.month ≡ p.month
  pub day : d.day ≡ p.day

-- equal day numbers give equal parts
pub HasParts-epoch_day : (d : Date) (p : YearMonthDay) → IsJiffDate p → epoch_day d ≡ days_from_civil (pos p.year) p.month p.day → HasParts d p
unfolding jiff_date
HasParts-epoch_day d p h e =
    let same = epoch_day_injective d (jiff_date p h) e in
    record { year = same.0; month = same.1; day = same.2 }

pub IsJiffDate-date_of : (n : ℕ) → n ≤ 84005 → IsJiffDate (date_of n)
IsJiffDate-date_of n h =
    let is = date_of_is n h in
    record { year_low = is.year_low; year_high = omega (arith, is.year_high); month_low = is.month_low; month_high = is.month_high; day_low = is.day_low; day_high = is.day_high }

pub HasParts-date_of : (d : Date) (n : ℕ) → n ≤ 84005 → epoch_day d ≡ pos n → HasParts d (date_of n)
HasParts-date_of d n h e =
    let is = date_of_is n h in
    HasParts-epoch_day d (date_of n) (IsJiffDate-date_of n h) (e ∙ ap pos (sym is.number_is) ∙ sym (days_from_civil-day_number (date_of n) is.year_low is.day_low))

pub HasParts-year_month_day : (d : Date) (p : YearMonthDay) → HasParts d p → year_month_day d ≡ p
HasParts-year_month_day d p h = rw (h.year, h.month, h.day) refl

-- the weekday of a day number is jiff's
pub weekday_number-pos : (n : ℕ) → weekday_number (pos n) ≡ weekday_of n
weekday_number-pos n = omega (arith, weekday_number-parts (pos n))

nonnegative : (z : ℤ) → pos 1970 ≤ℤ z → z ≡ pos (unsigned_abs z)
nonnegative (pos n) h = refl
nonnegative (negsuc n) h = absurd (omega (arith, signed_arith))

-- what `day_of_date` answers of a date of jiff up to 2199-12-31
pub record IsDayOf (d : Date) : Type 0 where
  pub year : d.year ≡ pos (unsigned_abs d.year)
  pub is_day : day_of_date (year_month_day d) ≡ Some (day_number (year_month_day d))
  pub number : epoch_day d ≡ pos (day_number (year_month_day d))
  pub bound : day_number (year_month_day d) ≤ 84005

all_true : (a b c d e f : Bool) → a ≡ true → b ≡ true → c ≡ true → d ≡ true → e ≡ true → f ≡ true → (a && b && c && d && e && f) ≡ true
all_true a b c d e f ha hb hc hd he hf = rw (ha, hb, hc, hd, he, hf) refl

pub le_true : (a b : ℕ) → a ≤ b → nat_le a b ≡ true
le_true a b h = elim (leb_tells a b) [ inl (t, _) ↦ t | inr (_, gt) ↦ absurd (omega arith) ]

pub le_false : (a b : ℕ) → b < a → nat_le a b ≡ false
le_false a b h = elim (leb_tells a b) [ inl (_, le) ↦ absurd (omega arith) | inr (t, _) ↦ t ]

pub second_false : (a b c d e f : Bool) → b ≡ false → (a && b && c && d && e && f) ≡ false
second_false true b c d e f h = rw h refl
second_false false b c d e f h = refl

next_century : Date
next_century = record { year = pos 2200; month = 1; day = 1; year_in = search rules; month_in = search rules; day_in = search rules }

next_century_day : epoch_day next_century ≡ pos 84006
unfolding next_century day_number days_before_year days_of_months
next_century_day = days_from_civil-day_number (record { year = 2200; month = 1; day = 1 }) (omega arith) (omega arith)

before_next_century : (d : Date) → d.year ≤ℤ pos 2199 → epoch_day d <ℤ pos 84006
unfolding next_century
before_next_century d h =
    let earlier : d.year <ℤ pos 2200 = omega (arith, signed_arith) in
    rw (← next_century_day) (epoch_day-lt d next_century (inl earlier))

pub IsDayOf-of_date : (d : Date) → pos 1970 ≤ℤ d.year → d.year ≤ℤ pos 2199 → IsDayOf d
IsDayOf-of_date d low high =
    let p = year_month_day d in
    let same = nonnegative d.year low in
    let year_low : 1970 ≤ p.year = omega (arith, signed_arith, same) in
    let year_high : p.year ≤ 2199 = omega (arith, signed_arith, same) in
    let length : d.day ≤ month_length p.year d.month = rw same at d.day_in.1 in
    let date = all_true (nat_le 1970 p.year) (nat_le p.year 2199) (nat_le 1 p.month) (nat_le p.month 12) (nat_le 1 p.day) (nat_le p.day (month_length p.year p.month))
    (le_true _ _ year_low) (le_true _ _ year_high) (le_true _ _ d.month_in.0) (le_true _ _ d.month_in.1) (le_true _ _ d.day_in.0) (le_true _ _ length) in
    let number : epoch_day d ≡ pos (day_number p) = rw same (days_from_civil-day_number p year_low d.day_in.0) in
    record {
      year = same;
      is_day = rw date refl;
      number = number;
      bound = omega (arith, signed_arith, before_next_century d high);
    }

-- a date past 2199 is no day of the definitions
pub not_a_day : (d : Date) → pos 2199 <ℤ d.year → day_of_date (year_month_day d) ≡ None
not_a_day d h =
    let same = nonnegative d.year (omega (arith, signed_arith)) in
    let past : nat_le (unsigned_abs d.year) 2199 ≡ false = le_false _ _ (omega (arith, signed_arith, same)) in
    rw (second_false (nat_le 1970 (unsigned_abs d.year)) _ _ _ _ _ past) refl

-- a date so many months later has the parts of the definitions' date
pub months_later_parts : (d : Date) (p : YearMonthDay) (k : ℕ) → HasParts d p → 1 ≤ p.month → (shifted_year d (pos k) ≡ pos (months_later p k).year) × (shifted_month d (pos k) ≡ (months_later p k).month)
unfolding months_later
months_later_parts d p k h low =
    let count = p.month - 1 + k in
    let whole : month_number d +ℤ pos k ≡ pos (p.year + count / 12) *ℤ pos 12 +ℤ pos (count % 12 + 1 - 1) = rw (h.year, h.month) (omega (arith, signed_arith)) in
    shift_parts d (pos k) (pos (p.year + count / 12)) (count % 12 + 1) whole (omega arith) (omega arith)

-- a date of 1970 to 2199 some months later
pub IsJiffDate-months_later : (p : YearMonthDay) (k : ℕ) → IsJiffDate p → p.year ≤ 2199 → k ≤ 65535 → IsJiffDate (months_later p k)
unfolding months_later
IsJiffDate-months_later p k h year few =
    let count = p.month - 1 + k in
    let long = days_in_month_bounds (pos (p.year + count / 12)) (count % 12 + 1) in
    record {
      year_low = omega (arith, h.year_low);
      year_high = omega (arith, h.month_high);
      month_low = omega arith;
      month_high = omega arith;
      day_low = omega (arith, h.day_low);
      day_high = omega arith;
    }

pub record IsMovedBy (d : Date) (p : YearMonthDay) (k : ℕ) : Type 0 where
  pub shiftable : IsShiftable d (pos k)
  pub number : jiff_add_months d (pos k) ≡ days_from_civil (pos (months_later p k).year) (months_later p k).month (months_later p k).day
  pub is_date : IsJiffDate (months_later p k)

pub IsMovedBy-months_later : (d : Date) (p : YearMonthDay) (k : ℕ) → HasParts d p → IsJiffDate p → p.year ≤ 2199 → k ≤ 65535 → IsMovedBy d p k
unfolding months_later
IsMovedBy-months_later d p k h is year few =
    let parts = months_later_parts d p k h is.month_low in
    let later = IsJiffDate-months_later p k is year few in
    record {
      shiftable = rw parts.0 (omega (arith, signed_arith, later.year_high));
      number = rw (parts.0, parts.1, h.day) refl;
      is_date = later;
    }

-- an earlier day has no later year
pub year_rises : (m n : ℕ) → n ≤ 84005 → m ≤ n → (date_of m).year ≤ (date_of n).year
unfolding jiff_date
year_rises m n within h =
    let a = date_of_is m (omega arith) in
    let b = date_of_is n within in
    let da = jiff_date (date_of m) (IsJiffDate-date_of m (omega arith)) in
    let db = jiff_date (date_of n) (IsJiffDate-date_of n within) in
    let ea : epoch_day da ≡ pos m = days_from_civil-day_number (date_of m) a.year_low a.day_low ∙ ap pos a.number_is in
    let eb : epoch_day db ≡ pos n = days_from_civil-day_number (date_of n) b.year_low b.day_low ∙ ap pos b.number_is in
    elim (cases_lt (date_of n).year (date_of m).year) [
      | inl lt ↦ let later : pos (date_of n).year <ℤ pos (date_of m).year = omega (arith, signed_arith) in absurd (omega (arith, signed_arith, epoch_day-lt db da (inl later)))
      | inr ge ↦ ge
    ]

months_later-zero : (n : ℕ) → n ≤ 84005 → months_later (date_of n) 0 ≡ date_of n
unfolding months_later
months_later-zero n h =
    let is = date_of_is n h in
    let year : (date_of n).year + ((date_of n).month - 1 + 0) / 12 ≡ (date_of n).year = omega (arith, is.month_high) in
    let month : ((date_of n).month - 1 + 0) % 12 + 1 ≡ (date_of n).month = omega (arith, is.month_low, is.month_high) in
    let day : min (date_of n).day (month_length (date_of n).year (date_of n).month) ≡ (date_of n).day = omega (arith, is.day_high) in
    rw (year, month, day) refl

-- no month later is the day itself
pub add_months-zero : (n : ℕ) → n ≤ 84005 → add_months n 0 ≡ Some n
unfolding add_months
add_months-zero n h =
    let is = date_of_is n h in
    let p = date_of n in
    let date = all_true (nat_le 1970 p.year) (nat_le p.year 2199) (nat_le 1 p.month) (nat_le p.month 12) (nat_le 1 p.day) (nat_le p.day (month_length p.year p.month))
    (le_true _ _ is.year_low) (le_true _ _ is.year_high) (le_true _ _ is.month_low) (le_true _ _ is.month_high) (le_true _ _ is.day_low) (le_true _ _ is.day_high) in
    ap day_of_date (months_later-zero n h) ∙ rw (date, is.number_is) refl

-- the purchase itself counts as its anniversary 0
pub has_anniversary-zero : (b n : ℕ) → b ≤ 84005 → b ≤ n → has_anniversary b 0 n ≡ true
unfolding has_anniversary
has_anniversary-zero b n h le = rw (add_months-zero b h) (le_true b n le)

-- a later date is no day exactly past 2199-12-31
pub IsNone-day_of_date : (p : YearMonthDay) → IsJiffDate p → (IsNone (day_of_date p) → 2199 < p.year) × (2199 < p.year → IsNone (day_of_date p))
IsNone-day_of_date p is = elim (leb_tells p.year 2199) [
  | inl (t, le) ↦
      let date = all_true (nat_le 1970 p.year) (nat_le p.year 2199) (nat_le 1 p.month) (nat_le p.month 12) (nat_le 1 p.day) (nat_le p.day (month_length p.year p.month))
      (le_true _ _ is.year_low) t (le_true _ _ is.month_low) (le_true _ _ is.month_high) (le_true _ _ is.day_low) (le_true _ _ is.day_high) in
      (λ none. absurd (let clash = rw date at none in cc), λ past. absurd (omega arith))
  | inr (t, gt) ↦ (λ none. omega arith, λ past. rw (second_false (nat_le 1970 p.year) _ _ _ _ _ t) refl)
]

-- the day number of a date up to 2199-12-31 is that of a day in its year
pub record IsDayIn (d : YearMonthDay) : Type 0 where
  pub is_day : day_of_date d ≡ Some (day_number d)
  pub bound : day_number d ≤ 84005
  pub year : (date_of (day_number d)).year ≡ d.year

pub IsDayIn-day_number : (d : YearMonthDay) → IsJiffDate d → d.year ≤ 2199 → IsDayIn d
unfolding jiff_date
IsDayIn-day_number d h high =
    let is = IsDayOf-of_date (jiff_date d h) (omega (arith, signed_arith, h.year_low)) (omega (arith, signed_arith, high)) in
    let parts = HasParts-date_of (jiff_date d h) (day_number d) is.bound is.number in
    let same : pos d.year ≡ pos (date_of (day_number d)).year = parts.year in
    record { is_day = is.is_day; bound = is.bound; year = omega (arith, signed_arith, same) }

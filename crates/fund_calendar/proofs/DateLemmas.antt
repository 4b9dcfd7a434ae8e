-- The day numbers of the definitions are those of jiff, and `date_of` is the date with a day number.
use Rattle.std.proofs.Common.{◌≡◌, ℕ, zero, suc, ◌+◌, ◌-◌, ◌/◌, ◌%◌, ◌<◌, ◌≤◌, ◌==◌, inl, inr, Bool, true, false, cond, not, ◌&&◌, ◌||◌, eq-eqb, refl, sym, ap, ◌∙◌, arith, rules, pos}
use Rattle.std.proofs.lemmas.Bool.Decides.{eqb_tells, leb_tells, Decides-eqb}
use Rattle.jiff_core.specs.Calendar.{days_in_year, days_from_civil, day_count, days_of_months as jiff_days_of_months}
use Rattle.jiff_core.proofs.CalendarLemmas.{day_count-epoch, days_from_civil-day_count, day_count-next_year, day_count-day_of_year, days_of_months_all, days_of_months-zero}
use Rattle.jiff_core.proofs.SignedLemmas.{signed_arith}
use Rattle.fund_calendar.specs.Dates.{YearMonthDay, is_leap_year, month_length, days_before_year, days_of_months, day_number, year_of, date_in_year, date_of}

-- a quotient grows by one where the number is a multiple
quotient-next_4 : (x : ℕ) → (x + 1) / 4 ≡ x / 4 + cond ((x + 1) % 4 == 0) 1 0
quotient-next_4 x = elim (eqb_tells ((x + 1) % 4) 0) [ inl (t, e) ↦ rw t (omega arith) | inr (t, e) ↦ rw t (omega arith) ]

quotient-next_100 : (x : ℕ) → (x + 1) / 100 ≡ x / 100 + cond ((x + 1) % 100 == 0) 1 0
quotient-next_100 x = elim (eqb_tells ((x + 1) % 100) 0) [ inl (t, e) ↦ rw t (omega arith) | inr (t, e) ↦ rw t (omega arith) ]

quotient-next_400 : (x : ℕ) → (x + 1) / 400 ≡ x / 400 + cond ((x + 1) % 400 == 0) 1 0
quotient-next_400 x = elim (eqb_tells ((x + 1) % 400) 0) [ inl (t, e) ↦ rw t (omega arith) | inr (t, e) ↦ rw t (omega arith) ]

-- of the multiples of 4, those of 100 are no leap years but for those of 400
leap_sum : (four hundred both : Bool) → (hundred ≡ true → four ≡ true) → (both ≡ true → hundred ≡ true) → cond four 1 0 + cond both 1 0 ≡ cond hundred 1 0 + cond (four && (not hundred || both)) 1 0
leap_sum true true true h k = refl
leap_sum true true false h k = refl
leap_sum true false true h k = cc (k refl)
leap_sum true false false h k = refl
leap_sum false true both h k = cc (h refl)
leap_sum false false true h k = cc (k refl)
leap_sum false false false h k = refl

multiple_of_100 : (x : ℕ) → (x % 100 == 0) ≡ true → (x % 4 == 0) ≡ true
multiple_of_100 x h = eq-eqb (x % 4) 0 (let e : x % 100 ≡ 0 = (Decides-eqb _ _).0 h in omega arith)

multiple_of_400 : (x : ℕ) → (x % 400 == 0) ≡ true → (x % 100 == 0) ≡ true
multiple_of_400 x h = eq-eqb (x % 100) 0 (let e : x % 400 ≡ 0 = (Decides-eqb _ _).0 h in omega arith)

-- the leap years up to a year, one year on
leap_years-next : (x : ℕ) → (x + 1) / 4 + (x + 1) / 400 + x / 100 ≡ x / 4 + x / 400 + (x + 1) / 100 + cond (is_leap_year (x + 1)) 1 0
leap_years-next x =
    let sum = leap_sum ((x + 1) % 4 == 0) ((x + 1) % 100 == 0) ((x + 1) % 400 == 0) (multiple_of_100 (x + 1)) (multiple_of_400 (x + 1)) in
    omega (arith, quotient-next_4 x, quotient-next_100 x, quotient-next_400 x)

-- a year is as long as jiff's
year_length : (y : ℕ) → days_in_year (pos y) ≡ 365 + cond (is_leap_year y) 1 0
year_length y = elim (is_leap_year y) as (λ b. cond b 366 365 ≡ 365 + cond b 1 0) [ true ↦ refl | false ↦ refl ]

-- from 1969 on, 477 leap years and more have passed
leap_years_passed : (k : ℕ) → 477 + (1969 + k) / 100 ≤ (1969 + k) / 4 + (1969 + k) / 400
leap_years_passed zero = omega arith
leap_years_passed (suc k) =
    let on : 1969 + suc k ≡ 1969 + k + 1 = omega arith in
    rw on (omega (arith, leap_years_passed k, leap_years-next (1969 + k)))

-- the days before a year, one year on
days_before_year-next : (x : ℕ) → 477 + x / 100 ≤ x / 4 + x / 400 → 1969 ≤ x → days_before_year (x + 2) ≡ days_before_year (x + 1) + days_in_year (pos (x + 1))
unfolding days_before_year
days_before_year-next x h low = rw year_length (omega (arith, leap_years-next x))

-- jiff counts the days from the year -10000 on, with 4,371,953 of them before 1970
day_count-year : (k : ℕ) → day_count (pos (1970 + k)) 1 1 ≡ 4371953 + days_before_year (1970 + k)
unfolding days_before_year
day_count-year zero = rw day_count-epoch (omega arith)
day_count-year (suc k) =
    let on : 1970 + suc k ≡ 1969 + k + 2 = omega arith in
    let here : 1970 + k ≡ 1969 + k + 1 = omega arith in
    let next = day_count-next_year (pos (1970 + k)) (pos (1970 + suc k)) (search rules) (omega (arith, signed_arith)) in
    let year = days_before_year-next (1969 + k) (leap_years_passed k) (omega arith) in
    rw next (rw (day_count-year k) (rw on (rw year (rw here (omega arith)))))

days_of_months_same : (y n : ℕ) → jiff_days_of_months (pos y) n ≡ days_of_months y n
unfolding days_of_months jiff_days_of_months
days_of_months_same y zero = refl
days_of_months_same y (suc n) = ap (λ k. k + month_length y (suc n)) (days_of_months_same y n)

-- the day number of a date is jiff's
pub days_from_civil-day_number : (d : YearMonthDay) → 1970 ≤ d.year → 1 ≤ d.day → days_from_civil (pos d.year) d.month d.day ≡ pos (day_number d)
unfolding day_number
days_from_civil-day_number d year day =
    let back : 1970 + (d.year - 1970) ≡ d.year = omega arith in
    let count = rw back at (day_count-year (d.year - 1970)) in
    let place = day_count-day_of_year (pos d.year) d.month d.day day in
    let month = days_of_months_same d.year (d.month - 1) in
    omega (arith, signed_arith, days_from_civil-day_count (pos d.year) d.month d.day)

-- a date of the year y with so many days of the year before it
pub record IsDatedIn (y place : ℕ) (d : YearMonthDay) : Type 0 where
  pub year : d.year ≡ y
  pub month_low : 1 ≤ d.month
  pub month_high : d.month ≤ 12
  pub day_low : 1 ≤ d.day
  pub day_high : d.day ≤ month_length y d.month
  pub place_is : days_of_months y (d.month - 1) + (d.day - 1) ≡ place

days_of_months-next : (y m : ℕ) → 1 ≤ m → days_of_months y m ≡ days_of_months y (m - 1) + month_length y m
unfolding days_of_months
days_of_months-next y zero h = absurd (omega arith)
days_of_months-next y (suc m) h = let back : suc m - 1 ≡ m = omega arith in rw back

found_in : (y m left : ℕ) → 1 ≤ m → m ≤ 12 → left < month_length y m → IsDatedIn y (left + days_of_months y (m - 1)) (record { year = y; month = m; day = left + 1 })
found_in y m left low high h =
    record { year = refl; month_low = low; month_high = high; day_low = omega arith; day_high = omega arith; place_is = omega arith }

-- the months are counted off until the day lies in one
date_in_year_is : (y later m left place : ℕ) → 1 ≤ m → m + later ≡ 12 → place ≡ left + days_of_months y (m - 1) → place < days_of_months y 12 → IsDatedIn y place (date_in_year y later m left)
unfolding date_in_year
date_in_year_is y zero m left place low e is h =
    let last : m ≡ 12 = omega arith in
    rw is (found_in y m left low (omega arith) (let here : days_of_months y m ≡ days_of_months y 12 = ap (days_of_months y) last in omega (arith, days_of_months-next y m low)))
date_in_year_is y (suc later) m left place low e is h =
    let next = days_of_months-next y m low in
    elim (leb_tells (suc left) (month_length y m)) [
      | inl (t, lt) ↦ rw t (rw is (found_in y m left low (omega arith) lt))
      | inr (t, ge) ↦
          let back : m + 1 - 1 ≡ m = omega arith in
          rw t (date_in_year_is y later (m + 1) (left - month_length y m) place (omega arith) (omega arith) (rw back (omega arith)) h)
    ]

-- at most one leap year a year
leap_years_few : (k : ℕ) → (1969 + k) / 4 + (1969 + k) / 400 ≤ 477 + k + (1969 + k) / 100
leap_years_few zero = omega arith
leap_years_few (suc k) =
    let on : 1969 + suc k ≡ 1969 + k + 1 = omega arith in
    let one : cond (is_leap_year (1969 + k + 1)) 1 0 ≤ 1 = grind arith in
    rw on (omega (arith, leap_years_few k, leap_years-next (1969 + k)))

-- the year of a day number begins on or before that day, and the next one after it
pub record IsYearOf (n y : ℕ) : Type 0 where
  pub low : 1970 ≤ y
  pub high : y ≤ 2199
  pub begun : days_before_year y ≤ n
  pub unfinished : n < days_before_year (y + 1)

year_of_is : (n : ℕ) → n ≤ 84005 → IsYearOf n (year_of n)
unfolding year_of days_before_year
year_of_is n h =
    let guess : ℕ = 1970 + n / 366 in
    elim (leb_tells (days_before_year (guess + 1)) n) [
      | inl (t, le) ↦ rw t (record {
        low = omega arith;
        high = elim (leb_tells (n / 366) 228) [
          | inl (s, few) ↦ omega arith
          | inr (s, more) ↦ let most : n / 366 ≡ 229 = omega arith in let past = rw most at le in absurd (omega arith)
        ];
        begun = le;
        unfinished = omega arith;
      })
      | inr (t, gt) ↦ rw t (record {
        low = omega arith;
        high = omega arith;
        begun = omega (arith, leap_years_few (n / 366));
        unfinished = gt;
      })
    ]

days_of_year : (y : ℕ) → 1970 ≤ y → y ≤ 2199 → days_before_year (y + 1) ≡ days_before_year y + days_of_months y 12
days_of_year y low high =
    let k = y - 1970 in
    let here : 1969 + k + 1 ≡ y = omega arith in
    let there : 1969 + k + 2 ≡ y + 1 = omega arith in
    let next = days_before_year-next (1969 + k) (leap_years_passed k) (omega arith) in
    rw here at (rw there at next) ∙ ap (λ z. days_before_year y + z) (sym (days_of_months_all (pos y)) ∙ days_of_months_same y 12)

-- the date of a day number is one of the calendar, and has that number
pub record IsDateOf (n : ℕ) (d : YearMonthDay) : Type 0 where
  pub year_low : 1970 ≤ d.year
  pub year_high : d.year ≤ 2199
  pub month_low : 1 ≤ d.month
  pub month_high : d.month ≤ 12
  pub day_low : 1 ≤ d.day
  pub day_high : d.day ≤ month_length d.year d.month
  pub number_is : day_number d ≡ n

pub date_of_is : (n : ℕ) → n ≤ 84005 → IsDateOf n (date_of n)
unfolding date_of day_number
date_of_is n h =
    let y = year_of n in
    let year = year_of_is n h in
    let length = days_of_year y year.low year.high in
    let start : days_of_months y 0 ≡ 0 = sym (days_of_months_same y 0) ∙ days_of_months-zero (pos y) in
    let found = date_in_year_is y 11 1 (n - days_before_year y) (n - days_before_year y) (omega arith) (omega arith) (rw start (omega arith)) (omega (arith, year.begun, year.unfinished)) in
    record {
      year_low = rw found.year year.low;
      year_high = rw found.year year.high;
      month_low = found.month_low;
      month_high = found.month_high;
      day_low = found.day_low;
      day_high = rw found.year found.day_high;
      number_is = rw found.year (omega (arith, found.place_is, year.begun));
    }

-- The weekday of a month that jiff finds is that of the definition.
use Rattle.std.proofs.Common.{◌≡◌, ℕ, suc, ◌+◌, ◌-◌, ◌*◌, ◌%◌, ◌<◌, ◌≤◌, ◌==◌, Bool, true, false, cond, nat_lt, refl, sym, ap, ◌∙◌, inl, inr, arith, pos, negsuc}
use Rattle.std.proofs.lemmas.Bool.Decides.{leb_tells, Decides-eqb}
use Rattle.jiff_core.specs.declared.civil.date.Date.{Date}
use Rattle.jiff_core.specs.declared.civil.weekday.Weekday.{Weekday}
use Rattle.jiff_core.specs.Calendar.{weekday_number}
use Rattle.jiff_core.specs.Date.{epoch_day, IsNthWeekdayOfMonth, IsNthFromStart, IsNthFromEnd}
use Rattle.jiff_core.specs.Weekday.{monday_zero}
use Rattle.jiff_core.proofs.SignedLemmas.{signed_arith}
use Rattle.jiff_core.proofs.CalendarLemmas.{days_in_month_bounds}
use Rattle.fund_calendar.specs.Dates.{day_number, month_length}
use Rattle.fund_calendar.specs.JiffDates.{year_month_day}
use Rattle.fund_calendar.specs.ZoneRules.{weekday_in_month, jiff_week}
use Rattle.fund_calendar.proofs.JiffLemmas.{IsDayOf-of_date, weekday_number-pos}

day_number-day : (y m d : ℕ) → 1 ≤ d → day_number (record { year = y; month = m; day = d }) ≡ day_number (record { year = y; month = m; day = 1 }) + (d - 1)
unfolding day_number
day_number-day y m d h = omega arith

-- the first to fourth such weekday of a month that begins on the day `first`
counted_week : (first day length week weekday : ℕ) → 1 ≤ day → day ≤ length → weekday ≤ 6 → 1 ≤ week → 7 * week < 7 + day → day ≤ 7 * week → (first + (day - 1) + 3) % 7 ≡ (weekday + 6) % 7 →
    (first + (weekday + 7 - (first + 4) % 7) % 7 + 7 * (week - 1) ≡ first + (day - 1)) × (first + (day - 1) < first + length)
counted_week first day length week weekday low high wd wk after before same = (omega arith, omega arith)

-- and the last one
last_week_within : (first day length weekday : ℕ) → 1 ≤ day → day ≤ length → length ≤ 31 → weekday ≤ 6 → length < day + 7 → (first + (day - 1) + 3) % 7 ≡ (weekday + 6) % 7 → first + (weekday + 7 - (first + 4) % 7) % 7 + 28 < first + length → first + (weekday + 7 - (first + 4) % 7) % 7 + 28 ≡ first + (day - 1)
last_week_within first day length weekday low high long wd near same h = omega arith

last_week_past : (first day length weekday : ℕ) → 1 ≤ day → day ≤ length → 28 ≤ length → length ≤ 31 → weekday ≤ 6 → length < day + 7 → (first + (day - 1) + 3) % 7 ≡ (weekday + 6) % 7 → first + length ≤ first + (weekday + 7 - (first + 4) % 7) % 7 + 28 → first + (weekday + 7 - (first + 4) % 7) % 7 + 28 - 7 ≡ first + (day - 1)
last_week_past first day length weekday low high short long wd near same h = omega arith

-- a date of jiff with this year and month
pub record IsInMonth (d : Date) (y m weekday : ℕ) : Type 0 where
  pub year : d.year ≡ pos y
  pub month : d.month ≡ m
  pub low : 1970 ≤ y
  pub high : y ≤ 2199
  pub weekday_is : weekday_number (epoch_day d) ≡ (weekday + 6) % 7

pub record IsFound (d : Date) (n : ℕ) : Type 0 where
  pub number : epoch_day d ≡ pos n
  pub bound : n ≤ 84005

-- the day number of such a date, counted from the first of the month
day_in_month : (d : Date) (y m weekday : ℕ) → IsInMonth d y m weekday → IsFound d (day_number (record { year = y; month = m; day = 1 }) + (d.day - 1)) × (d.day ≤ month_length y m) × ((day_number (record { year = y; month = m; day = 1 }) + (d.day - 1) + 3) % 7 ≡ (weekday + 6) % 7)
day_in_month d y m weekday is =
    let n = day_number (record { year = y; month = m; day = 1 }) + (d.day - 1) in
    let day = IsDayOf-of_date d (rw is.year (omega (arith, signed_arith, is.low))) (rw is.year (omega (arith, signed_arith, is.high))) in
    let parts : day_number (year_month_day d) ≡ n = rw (is.year, is.month) (day_number-day y m d.day d.day_in.0) in
    let number : epoch_day d ≡ pos n = day.number ∙ ap pos parts in
    let week : (n + 3) % 7 ≡ (weekday + 6) % 7 = sym (weekday_number-pos n) ∙ ap weekday_number (sym number) ∙ is.weekday_is in
    (record { number = number; bound = rw (← parts) day.bound }, rw is.year at (rw is.month at d.day_in.1), week)

found_first_weeks : (first length week weekday n : ℕ) → first + (weekday + 7 - (first + 4) % 7) % 7 + 7 * (week - 1) ≡ n → n < first + length → cond (nat_lt (first + (weekday + 7 - (first + 4) % 7) % 7 + 7 * (week - 1)) (first + length)) (first + (weekday + 7 - (first + 4) % 7) % 7 + 7 * (week - 1)) (first + (weekday + 7 - (first + 4) % 7) % 7 + 7 * (week - 1) - 7) ≡ n
found_first_weeks first length week weekday n e h = rw e (elim (leb_tells (suc n) (first + length)) [ inl (t, _) ↦ rw t refl | inr (_, ge) ↦ absurd (omega arith) ])

pub weekday_from_start : (within d : Date) (y m week weekday : ℕ) (w : Weekday) → within.year ≡ pos y → within.month ≡ m → 1970 ≤ y → y ≤ 2199 → 1 ≤ week → weekday ≤ 6 → monday_zero w ≡ (weekday + 6) % 7 → IsNthFromStart within week w d → IsFound d (weekday_in_month y m week weekday)
unfolding weekday_in_month
weekday_from_start within d y m week weekday w year month low high wk wd name h =
    let is : IsInMonth d y m weekday = record { year = h.0.0 ∙ year; month = h.0.1 ∙ month; low = low; high = high; weekday_is = h.0.2 ∙ name } in
    let found = day_in_month d y m weekday is in
    let first = day_number (record { year = y; month = m; day = 1 }) in
    let counted = counted_week first d.day (month_length y m) week weekday d.day_in.0 found.1 wd wk (omega (arith, signed_arith, h.1.0)) (omega (arith, signed_arith, h.1.1)) found.2 in
    rw (found_first_weeks first (month_length y m) week weekday (first + (d.day - 1)) counted.0 counted.1) found.0

found_last_week : (first length weekday n : ℕ) → (first + (weekday + 7 - (first + 4) % 7) % 7 + 28 < first + length → first + (weekday + 7 - (first + 4) % 7) % 7 + 28 ≡ n) → (first + length ≤ first + (weekday + 7 - (first + 4) % 7) % 7 + 28 → first + (weekday + 7 - (first + 4) % 7) % 7 + 28 - 7 ≡ n) → cond (nat_lt (first + (weekday + 7 - (first + 4) % 7) % 7 + 28) (first + length)) (first + (weekday + 7 - (first + 4) % 7) % 7 + 28) (first + (weekday + 7 - (first + 4) % 7) % 7 + 28 - 7) ≡ n
found_last_week first length weekday n inside past =
    elim (leb_tells (suc (first + (weekday + 7 - (first + 4) % 7) % 7 + 28)) (first + length)) [ inl (t, lt) ↦ rw t (inside lt) | inr (t, ge) ↦ rw t (past (omega arith)) ]

pub weekday_from_end : (within d : Date) (y m weekday : ℕ) (w : Weekday) → within.year ≡ pos y → within.month ≡ m → 1970 ≤ y → y ≤ 2199 → weekday ≤ 6 → monday_zero w ≡ (weekday + 6) % 7 → IsNthFromEnd within 1 w d → IsFound d (weekday_in_month y m 5 weekday)
unfolding weekday_in_month
weekday_from_end within d y m weekday w year month low high wd name h =
    let is : IsInMonth d y m weekday = record { year = h.0.0 ∙ year; month = h.0.1 ∙ month; low = low; high = high; weekday_is = h.0.2 ∙ name } in
    let found = day_in_month d y m weekday is in
    let first = day_number (record { year = y; month = m; day = 1 }) in
    let length = month_length y m in
    let bounds = days_in_month_bounds (pos y) m in
    let near : length < d.day + 7 = omega (arith, signed_arith, rw is.year at (rw is.month at h.1.1)) in
    rw (found_last_week first length weekday (first + (d.day - 1))
    (last_week_within first d.day length weekday d.day_in.0 found.1 bounds.0 wd near found.2)
    (last_week_past first d.day length weekday d.day_in.0 found.1 bounds.1 bounds.0 wd near found.2)) found.0

-- whichever week it is
weekday_found_by : (b : Bool) (within d : Date) (y m week weekday : ℕ) (w : Weekday) → (week == 5) ≡ b → within.year ≡ pos y → within.month ≡ m → 1970 ≤ y → y ≤ 2199 → 1 ≤ week → weekday ≤ 6 → monday_zero w ≡ (weekday + 6) % 7 → IsNthWeekdayOfMonth within (cond b (negsuc 0) (pos week)) w d → IsFound d (weekday_in_month y m week weekday)
weekday_found_by true within d y m week weekday w is year month low high wk wd name h =
    let last : week ≡ 5 = (Decides-eqb week 5).0 is in
    rw last (weekday_from_end within d y m weekday w year month low high wd name h)
weekday_found_by false within d y m week weekday w is year month low high wk wd name h =
    weekday_from_start within d y m week weekday w year month low high wk wd name h

pub weekday_found : (within d : Date) (y m week weekday : ℕ) (w : Weekday) → within.year ≡ pos y → within.month ≡ m → 1970 ≤ y → y ≤ 2199 → 1 ≤ week → weekday ≤ 6 → monday_zero w ≡ (weekday + 6) % 7 → IsNthWeekdayOfMonth within (jiff_week week) w d → IsFound d (weekday_in_month y m week weekday)
weekday_found within d y m week weekday w year month low high wk wd name h =
    weekday_found_by (week == 5) within d y m week weekday w refl year month low high wk wd name h

-- Anniversaries never become fewer.
use Rattle.std.proofs.Common.{◌≡◌, ℕ, ◌-◌, ◌*◌, ◌<◌, ◌≤◌, Bool, true, false, cond, nat_lt, nat_le, Option, Some, None, refl, inl, inr, arith}
use Rattle.std.specs.Option.{option_map_or}
use Rattle.std.proofs.lemmas.Bool.{cases_lt}
use Rattle.std.proofs.lemmas.Bool.Decides.{nat_tests}
use Rattle.fund_calendar.specs.Dates.{date_of, add_months, has_anniversary, anniversaries}
use Rattle.fund_calendar.proofs.JiffLemmas.{year_rises}

-- an anniversary that has come stays
still_come : (o : Option ℕ) (m n : ℕ) → m ≤ n → option_map_or (λ day. nat_le day m) o false ≡ true → option_map_or (λ day. nat_le day n) o false ≡ true
still_come None m n h e = e
still_come (Some day) m n h e = grind (arith, nat_tests)

has_anniversary-later : (b i m n : ℕ) → m ≤ n → has_anniversary b i m ≡ true → has_anniversary b i n ≡ true
unfolding has_anniversary
has_anniversary-later b i m n h e = still_come (add_months b (12 * i)) m n h e

lt_true : (m n : ℕ) → m < n → nat_lt m n ≡ true
lt_true m n h = grind (arith, nat_tests)

lt_false : (m n : ℕ) → n ≤ m → nat_lt m n ≡ false
lt_false m n h = grind (arith, nat_tests)

-- the count by whether this year's anniversary has come
pub counted : (b n : ℕ) (come : Bool) → b ≤ n → has_anniversary b ((date_of n).year - (date_of b).year) n ≡ come → anniversaries b n ≡ cond come ((date_of n).year - (date_of b).year) ((date_of n).year - (date_of b).year - 1)
unfolding anniversaries
counted b n come h e = rw (lt_false n b h, e) refl

pub none_before : (b n : ℕ) → n < b → anniversaries b n ≡ 0
unfolding anniversaries
none_before b n h = rw (lt_true n b h) refl

-- the counts of one year
same_year : (years : ℕ) (first second : Bool) → (first ≡ true → second ≡ true) → cond first years (years - 1) ≤ cond second years (years - 1)
same_year years true true stays = omega arith
same_year years true false stays = cc (stays refl)
same_year years false true stays = omega arith
same_year years false false stays = omega arith

-- the counts of an earlier and a later year
later_year : (years more : ℕ) (first second : Bool) → years < more → cond first years (years - 1) ≤ cond second more (more - 1)
later_year years more true true h = omega arith
later_year years more true false h = omega arith
later_year years more false true h = omega arith
later_year years more false false h = omega arith

-- from the day on
pub rise-from : (b m n : ℕ) → b ≤ m → m ≤ n → n ≤ 84005 → anniversaries b m ≤ anniversaries b n
rise-from b m n start h within =
    let first = has_anniversary b ((date_of m).year - (date_of b).year) m in
    let second = has_anniversary b ((date_of n).year - (date_of b).year) n in
    let bought = year_rises b m (omega arith) start in
    let sold = year_rises m n within h in
    rw (counted b m first start refl, counted b n second (omega arith) refl)
    (elim (cases_lt (date_of m).year (date_of n).year) [
      | inl later ↦ later_year ((date_of m).year - (date_of b).year) ((date_of n).year - (date_of b).year) first second (omega arith)
      | inr ge ↦
          let same : (date_of n).year ≡ (date_of m).year = omega arith in
          rw same (same_year ((date_of m).year - (date_of b).year) first (has_anniversary b ((date_of m).year - (date_of b).year) n) (has_anniversary-later b ((date_of m).year - (date_of b).year) m n h))
    ])

pub anniversaries-rise : (b m n : ℕ) → m ≤ n → n ≤ 84005 → anniversaries b m ≤ anniversaries b n
anniversaries-rise b m n h within = elim (cases_lt m b) [
  | inl before ↦ rw (none_before b m before) (omega arith)
  | inr start ↦ rise-from b m n start h within
]

-- That `anniversaries` keeps its contract.
use Rattle.std.proofs.Common.{◌≡◌, ℕ, zero, suc, Bool, true, false, cond, ◌≤◌, ◌-◌, sym, ◌∙◌, refl, arith, nat_lt, is_lt, nat_cmp}
use Rattle.std.proofs.lemmas.Bool.Decides.{nat_tests}
use Rattle.fund_calendar.specs.Dates.{date_of, has_anniversary, anniversaries}
use Rattle.fund_calendar.proofs.JiffLemmas.{year_rises, has_anniversary-zero}
use Rattle.fund_calendar.proofs.months.anniversaries.Goals as goal

-- the order of days, as a test and as a fact
not_before : (m n : ℕ) (b : Bool) → b ≡ is_lt (nat_cmp m n) → b ≡ false → n ≤ m
not_before m n b e f = grind (arith, nat_tests)

before : (m n : ℕ) (b : Bool) → b ≡ is_lt (nat_cmp m n) → b ≡ true → nat_lt m n ≡ true
before m n b e f = grind (arith, nat_tests)

lt_false : (m n : ℕ) → n ≤ m → nat_lt m n ≡ false
lt_false m n h = grind (arith, nat_tests)

pub returns-then-lt : goal.returns-then-lt
unfolding anniversaries
returns-then-lt c = rw (before c.args.on c.args.bought c.lt.result c.lt.ensures c.if-lt.true) refl

pub overflow_sub-years : goal.overflow_sub-years
overflow_sub-years c =
    let start = not_before c.args.on c.args.bought c.lt.result c.lt.ensures c.if-lt.false in
    rw (c.year.ensures.value, c.year-2.ensures.value) (year_rises c.args.bought c.args.on c.year.ensures.within start)

some_year : (b n years : ℕ) → b ≤ 84005 → b ≤ n → has_anniversary b years n ≡ false → 1 ≤ years
some_year b n zero within h none = absurd (let come = has_anniversary-zero b n within h in cc)
some_year b n (suc years) within h none = omega arith

pub overflow_sub-result : goal.overflow_sub-result
overflow_sub-result c =
    let start = not_before c.args.on c.args.bought c.lt.result c.lt.ensures c.if-lt.false in
    some_year c.args.bought c.args.on (c.year.result - c.year-2.result) c.year-2.ensures.within start (sym c.has_anniversary.ensures ∙ c.if-has_anniversary.false)

-- what the definition is where the purchase isn't after the day
counted : (b n years : ℕ) (come : Bool) → b ≤ n → years ≡ (date_of n).year - (date_of b).year → has_anniversary b years n ≡ come → anniversaries b n ≡ cond come years (years - 1)
unfolding anniversaries
counted b n years come h e t = rw (lt_false n b h, ← e, t) refl

pub returns-then-has_anniversary : goal.returns-then-has_anniversary
returns-then-has_anniversary c =
    let start = not_before c.args.on c.args.bought c.lt.result c.lt.ensures c.if-lt.false in
    let years : c.year.result - c.year-2.result ≡ (date_of c.args.on).year - (date_of c.args.bought).year = rw (c.year.ensures.value, c.year-2.ensures.value) refl in
    sym (counted c.args.bought c.args.on (c.year.result - c.year-2.result) true start years (sym c.has_anniversary.ensures ∙ c.if-has_anniversary.true))

pub returns-else-has_anniversary : goal.returns-else-has_anniversary
returns-else-has_anniversary c =
    let start = not_before c.args.on c.args.bought c.lt.result c.lt.ensures c.if-lt.false in
    let years : c.year.result - c.year-2.result ≡ (date_of c.args.on).year - (date_of c.args.bought).year = rw (c.year.ensures.value, c.year-2.ensures.value) refl in
    sym (counted c.args.bought c.args.on (c.year.result - c.year-2.result) false start years (sym c.has_anniversary.ensures ∙ c.if-has_anniversary.false))

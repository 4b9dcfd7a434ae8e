-- A letter of intent. A holder states the amount that purchases of one class will reach within 13 months, and from then
-- on each has the rate of that amount. Shares for a twentieth of it are held in escrow, and where the purchases fall
-- short, the load that they missed is paid from these. Form N-1A, Item 12(a), has a prospectus name such a letter among
-- the arrangements that reduce a load; 17 CFR 270.22d-1 has it offered to all alike.
use Rattle.std.specs.Prelude.{ℕ, ◌+◌, ◌-◌, ◌*◌, ◌/◌, ◌^◌, ◌<◌, ◌≤◌, Bool, false, nat_lt, nat_le, min, max, List, Option}
use Rattle.std.specs.Option.{option_map_or}
use Rattle.money_units.specs.Rounding.{half, ceil_div}
use Rattle.class_terms.specs.declared.lists.Bracket.{Bracket}
use Rattle.fund_calendar.specs.Dates.{add_months}
use Rattle.offering_price.specs.Accumulation.{bracket}
use Rattle.letter_of_intent.specs.declared.letter.Letter.{Letter}
use Rattle.letter_of_intent.specs.declared.letter.Noted.{Noted}
use Rattle.letter_of_intent.specs.declared.letter.Settlement.{Settlement}

-- The limits within which an open letter stays: an amount of at most $10,000,000,000.00 that its purchases fall short
-- of, a rate up to the ceiling of a front-end load, at most a twentieth of the greatest amount still to be held, and
-- the credit of a household.
pub record IsLetter (letter : Letter) : Type 0 where
  pub some_amount : 1 ≤ letter.amount
  pub amount : letter.amount ≤ 1000000000000
  pub rate : letter.rate ≤ 850
  pub rest : letter.rest ≤ 50000000000
  pub start : letter.start ≤ 10 ^ 21
  pub short : letter.bought < letter.amount

-- The letter begins. Its rate is that of its amount; `start` is the household's credit on that day; `rest` is the money
-- for which shares are still to be held, at first a twentieth of the amount, rounded up.
abbrev pub new_letter : ℕ → ℕ → ℕ → List Bracket → Letter
new_letter amount day start front = record {
  amount = amount;
  day = day;
  start = start;
  rate = bracket front amount;
  rest = ceil_div amount 20;
  bought = 0;
}

-- A purchase is noted. Of its mils so many are held as cover the rest at the offering price, and all where they don't.
abbrev pub mils_to_hold : Letter → ℕ → ℕ → ℕ
mils_to_hold letter price mils = min mils (ceil_div (1000 * letter.rest) price)

-- what mils cost at an offering price, in whole cents
abbrev pub cost_at : ℕ → ℕ → ℕ
cost_at price mils = mils * price / 1000

-- the gross counts towards the amount, and what the held mils cost no longer has to be held
abbrev pub after_purchase : Letter → ℕ → ℕ → ℕ → Letter
after_purchase letter gross price mils = record letter {
  rest = letter.rest - min letter.rest (cost_at price (mils_to_hold letter price mils));
  bought = letter.bought + gross;
}

-- The amount is reached: the letter ends, and all held mils become loose.
abbrev pub is_reached : Letter → Bool
is_reached letter = nat_le letter.amount letter.bought

-- what a purchase says of its lot and of the letter
abbrev pub note_of_purchase : Letter → ℕ → ℕ → ℕ → Noted
note_of_purchase letter gross price mils = record {
  hold = mils_to_hold letter price mils;
  reached = is_reached (after_purchase letter gross price mils);
}

-- The letter ends by date, on each day past the one that is 13 months after its own. That one is its month's last day
-- where the month is short, and past 2199-12-31 there is none.
abbrev pub last_day : Letter → Option ℕ
last_day letter = add_months letter.day 13

abbrev pub has_expired : Letter → ℕ → Bool
has_expired letter day = option_map_or (λ last. nat_lt last day) (last_day letter) false

-- The rate that the purchases have earned without the letter: that of what they and the credit come to, or the letter's
-- where that is no lower.
abbrev pub rate_earned : List Bracket → Letter → ℕ
rate_earned front letter = max (bracket front (letter.start + letter.bought)) letter.rate

-- the load that the purchases missed
abbrev pub load_due : List Bracket → Letter → ℕ
load_due front letter = half (letter.bought * (rate_earned front letter - letter.rate)) 10000

-- the held mils that pay it: so many as cover it at the NAV, and all where they don't
abbrev pub mils_to_pay : ℕ → ℕ → ℕ → ℕ
mils_to_pay due nav held = min held (ceil_div (1000 * due) nav)

-- what they are worth, and no more than is due
abbrev pub cash_paid : ℕ → ℕ → ℕ → ℕ
cash_paid due nav paid = min due (half (paid * nav) 1000)

-- the load is paid as far as the held mils go, and waived beyond; the other held mils become loose
abbrev pub settlement_of : ℕ → ℕ → ℕ → Settlement
settlement_of due nav paid = record {
  due = due;
  paid = paid;
  cash = cash_paid due nav paid;
  waived = due - cash_paid due nav paid;
}

abbrev pub settlement : List Bracket → Letter → ℕ → ℕ → Settlement
settlement front letter nav held = settlement_of (load_due front letter) nav (mils_to_pay (load_due front letter) nav held)

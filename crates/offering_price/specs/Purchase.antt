-- What a purchase costs. The load is a percentage of the offering price, as the table of front-end loads of Form N-1A,
-- Item 12(a), states it; money and NAV are whole cents, shares whole mils, rates basis points.
use Rattle.std.specs.Prelude.{ℕ, ◌-◌, ◌*◌, min, ◌==◌, if◌then◌else◌, Option, Some, None}
use Rattle.money_units.specs.Rounding.{half}
use Rattle.offering_price.specs.declared.purchase.Split.{Split}

-- the offering price: the NAV over what is left of a whole after the load
abbrev pub offering_price : ℕ → ℕ → ℕ
offering_price nav rate = half (10000 * nav) (10000 - rate)

-- the mils that a gross buys at an offering price
abbrev pub mils_bought : ℕ → ℕ → ℕ
mils_bought gross price = half (1000 * gross) price

-- what comes to the class: the value of the mils, and never more than was paid
abbrev pub proceeds_of : ℕ → ℕ → ℕ → ℕ → ℕ
proceeds_of gross nav rate mils = if rate == 0 then gross else min gross (half (mils * nav) 1000)

-- a gross divided at a price into shares, proceeds and charge
abbrev pub split_at_price : ℕ → ℕ → ℕ → ℕ → Split
split_at_price gross nav rate price = record {
  rate = rate;
  price = price;
  mils = mils_bought gross price;
  proceeds = proceeds_of gross nav rate (mils_bought gross price);
  charge = gross - proceeds_of gross nav rate (mils_bought gross price);
}

-- the split of a purchase, where a mil results
abbrev pub split_of : ℕ → ℕ → ℕ → Option Split
split_of gross nav rate =
    if mils_bought gross (offering_price nav rate) == 0 then None
    else Some (split_at_price gross nav rate (offering_price nav rate))

-- What holds of the split of a purchase.
use Rattle.std.proofs.Common.{◌≡◌, ℕ, ◌+◌, ◌-◌, ◌*◌, ◌≤◌, min, Bool, true, false, if◌then◌else◌, ◌==◌, Some, None, ◌⊎◌, ap, subst, arith, refl, inl, inr}
use Rattle.std.proofs.Math.Nat.{mul-le-mul_left}
use Rattle.std.proofs.lemmas.Bool.{cases_lt}
use Rattle.money_units.specs.Rounding.{half}
use Rattle.money_units.proofs.RoundingFacts.{half-least, half-most, half-falls, half-positive}
use Rattle.offering_price.specs.declared.purchase.Split.{Split}
use Rattle.offering_price.specs.Purchase.{offering_price, mils_bought, proceeds_of, split_of, split_at_price}

-- what is left of a whole after the load
abbrev rest : ℕ → ℕ
rest rate = 10000 - rate

pub price-positive : (nav rate : ℕ) → 1 ≤ nav → rate ≤ 850 → 1 ≤ offering_price nav rate
price-positive nav rate some ceiling = half-positive (10000 * nav) (rest rate) (omega arith) (omega arith)

pub price-rises : (nav low high : ℕ) → low ≤ high → high ≤ 850 → offering_price nav low ≤ offering_price nav high
price-rises nav low high order ceiling = half-falls (10000 * nav) (rest high) (rest low) (omega arith) (omega arith)

pub mils-fall : (gross low high : ℕ) → 1 ≤ low → low ≤ high → mils_bought gross high ≤ mils_bought gross low
mils-fall gross low high some order = half-falls (1000 * gross) low high some order

-- the three roundings of a purchase with a load, multiplied so that they add up: the price, the mils and their value
record Roundings (gross nav left price mils value : ℕ) : Type 0 where
  pub of_price : gross * (2 * (price * left)) ≤ gross * (2 * (10000 * nav) + left)
  pub of_mils : (10 * nav) * (2 * (1000 * gross)) ≤ (10 * nav) * (2 * (mils * price) + price)
  pub of_value : (10 * price) * (2 * (mils * nav)) ≤ (10 * price) * (2 * (value * 1000) + 1000)

roundings : (gross nav left price mils value : ℕ) → 1 ≤ price → price ≡ half (10000 * nav) left
    → mils ≡ half (1000 * gross) price → value ≡ half (mils * nav) 1000 → Roundings gross nav left price mils value
roundings gross nav left price mils value some is_price is_mils is_value = record {
  of_price = mul-le-mul_left gross (rw is_price (half-least (10000 * nav) left));
  of_mils = mul-le-mul_left (10 * nav) (rw is_mils (omega (arith, half-most (1000 * gross) price some)));
  of_value = mul-le-mul_left (10 * price) (rw is_value (omega (arith, half-most (mils * nav) 1000 (omega arith))));
}

-- the charge on a purchase with a load, multiplied out
loaded : (gross nav rate left price mils value charge highest : ℕ) → Roundings gross nav left price mils value
    → left + rate ≡ 10000 → charge + value ≡ gross → rate ≤ highest
    → 10000 * (price * charge) ≤ price * (gross * highest) + 5000 * price + 5 * (price * nav) + 5000 * gross
loaded gross nav rate left price mils value charge highest r parts whole order =
    let by_parts : (gross * price) * (left + rate) ≡ (gross * price) * 10000 = ap (λ n. (gross * price) * n) parts in
    let by_whole : (20000 * price) * (charge + value) ≡ (20000 * price) * gross = ap (λ n. (20000 * price) * n) whole in
    let by_order : (gross * price) * rate ≤ (gross * price) * highest = mul-le-mul_left (gross * price) order in
    let by_left : gross * left ≤ gross * 10000 = mul-le-mul_left gross (omega arith) in
    omega (arith, r.of_price, r.of_mils, r.of_value, by_parts, by_whole, by_order, by_left)

-- a split is its gross divided at the offering price
when-some : (b : Bool) (x split : Split) → (if b then None else Some x) ≡ Some split → x ≡ split
when-some true x split h = cc
when-some false x split h = cc

pub divided-split_of : (gross nav rate : ℕ) (split : Split) → split_of gross nav rate ≡ Some split
    → split_at_price gross nav rate (offering_price nav rate) ≡ split
divided-split_of gross nav rate split h =
    when-some (mils_bought gross (offering_price nav rate) == 0) (split_at_price gross nav rate (offering_price nav rate)) split h

no-charge : (price charge bound : ℕ) → charge ≡ 0 → 10000 * (price * charge) ≤ bound
no-charge price charge bound none = rw none (omega arith)

-- there is no charge, or the charge is what the value of the mils leaves of the gross
charge-by : (free : Bool) (gross value : ℕ)
    → (gross - (if free then gross else min gross value) ≡ 0) ⊎ ((gross - (if free then gross else min gross value)) + value ≡ gross)
charge-by true gross value = inl (omega arith)
charge-by false gross value =
    elim (cases_lt value gross) [ inl above ↦ inr (omega arith) | inr below ↦ inl (omega arith) ]

charge-cases : (gross nav rate mils : ℕ)
    → (gross - proceeds_of gross nav rate mils ≡ 0) ⊎ ((gross - proceeds_of gross nav rate mils) + half (mils * nav) 1000 ≡ gross)
charge-cases gross nav rate mils = charge-by (rate == 0) gross (half (mils * nav) 1000)

-- the bound on the charge of a purchase by a rate that isn't below its own
pub charge-bound : (gross nav rate highest : ℕ) (split : Split) → 1 ≤ nav → rate ≤ 850 → rate ≤ highest
    → split_of gross nav rate ≡ Some split
    → 10000 * (split.price * split.charge)
    ≤ split.price * (gross * highest) + 5000 * split.price + 5 * (split.price * nav) + 5000 * gross
charge-bound gross nav rate highest split some ceiling order h =
    let price = offering_price nav rate in
    let mils = mils_bought gross price in
    let charge = gross - proceeds_of gross nav rate mils in
    let P : Split → Type 0 = λ (s : Split). 10000 * (s.price * s.charge)
    ≤ s.price * (gross * highest) + 5000 * s.price + 5 * (s.price * nav) + 5000 * gross in
    let of_price : 1 ≤ price = price-positive nav rate some ceiling in
    subst P (divided-split_of gross nav rate split h)
    (elim (charge-cases gross nav rate mils) [
      | inl none ↦ no-charge price charge (price * (gross * highest) + 5000 * price + 5 * (price * nav) + 5000 * gross) none
      | inr part ↦
          loaded gross nav rate (10000 - rate) price mils (half (mils * nav) 1000) charge highest
          (roundings gross nav (10000 - rate) price mils (half (mils * nav) 1000) of_price refl refl refl) (omega arith) part order
    ])

-- The value of mils rises with them, and its greatest.
use Rattle.std.proofs.Common.{ℕ, ◌*◌, ◌≤◌, arith}
use Rattle.std.proofs.Math.Nat.{mul-le-mul_left}
use Rattle.money_units.proofs.RoundingFacts.{half-rises, half-le}
use Rattle.share_lots.specs.Values.{value_at}

pub value_at-rises : (nav a b : ℕ) → a ≤ b → value_at nav a ≤ value_at nav b
value_at-rises nav a b h = half-rises (a * nav) (b * nav) 1000 (omega arith) (omega (arith, mul-le-mul_left {m = a} {n = b} nav h))

pub value_at-bound : (nav mils : ℕ) → nav ≤ 10000000 → mils ≤ 1000000000000 → value_at nav mils ≤ 10000000000000000
value_at-bound nav mils low few =
    half-le (mils * nav) 1000 10000000000000000 (omega arith) (omega (arith, mul-le-mul_left {m = nav} {n = 10000000} mils low, mul-le-mul_left {m = mils} {n = 1000000000000} 10000000 few))

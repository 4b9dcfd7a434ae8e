-- Rounding of money and shares. A fraction is a pair of whole numbers: a over b, with b at least 1.
use Rattle.std.specs.Prelude.{ℕ, suc, ◌+◌, ◌-◌, ◌*◌, ◌/◌, ℤ, pos, negsuc, neg_ℤ}

-- a over b to the nearest whole number, and up where it lies halfway between two
abbrev pub half : ℕ → ℕ → ℕ
half a b = (2 * a + b) / (2 * b)

-- a over b to the next whole number that isn't below it
abbrev pub ceil_div : ℕ → ℕ → ℕ
ceil_div a b = (a + (b - 1)) / b

-- `half` of the size of a, with the sign of a: a loss rounds as the gain of the same size does
abbrev pub signed_half : ℤ → ℕ → ℤ
signed_half (pos n) b = pos (half n b)
signed_half (negsuc n) b = neg_ℤ (pos (half (suc n) b))

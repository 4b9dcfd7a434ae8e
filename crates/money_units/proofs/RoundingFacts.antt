-- Laws of `half` and `ceil_div` over plain numbers.
use Rattle.std.proofs.Common.{◌≡◌, ℕ, zero, suc, ◌+◌, ◌-◌, ◌*◌, ◌/◌, ◌<◌, ◌≤◌, arith}
use Rattle.std.proofs.Math.Nat.{div-lt_iff_lt-mul, le-div_iff_mul-le, div-mul-le_self, lt-div-mul-add, mul-le-mul_left}
use Rattle.money_units.specs.Rounding.{half, ceil_div}

-- a quotient lies below y where the numerator lies below y times the denominator, and is at least y where it doesn't
quotient-lt : (x k y : ℕ) → 0 < k → x < y * k → x / k < y
quotient-lt x k y positive h = (div-lt_iff_lt-mul {k = k} {x = x} {y = y} positive).1 h

quotient-ge : (x k y : ℕ) → 0 < k → y * k ≤ x → y ≤ x / k
quotient-ge x k y positive h = (le-div_iff_mul-le {k = k} {x = y} {y = x} positive).1 h

-- what `half` gives, times b, misses a by at most half of b
pub half-least : (a b : ℕ) → 2 * (half a b * b) ≤ 2 * a + b
half-least a b = omega (arith, div-mul-le_self (2 * a + b) (2 * b))

pub half-most : (a b : ℕ) → 1 ≤ b → 2 * a + b < 2 * (half a b * b) + 2 * b
half-most a b positive =
    let h : 0 < 2 * b = omega arith in omega (arith, lt-div-mul-add {a = 2 * a + b} {b = 2 * b} h)

-- bounds of `half` from bounds of its numerator
pub half-lt : (a b c : ℕ) → 1 ≤ b → 2 * a + b < 2 * (c * b) → half a b < c
half-lt a b c positive h = quotient-lt (2 * a + b) (2 * b) c (omega arith) (omega arith)

pub half-ge : (a b c : ℕ) → 1 ≤ b → 2 * (c * b) ≤ 2 * a + b → c ≤ half a b
half-ge a b c positive h = quotient-ge (2 * a + b) (2 * b) c (omega arith) (omega arith)

pub half-le : (a b c : ℕ) → 1 ≤ b → a ≤ c * b → half a b ≤ c
half-le a b c positive h =
    let below : half a b < c + 1 = half-lt a b (c + 1) positive (omega arith) in omega arith

pub half-unique : (a b c : ℕ) → 1 ≤ b → 2 * (c * b) ≤ 2 * a + b → 2 * a + b < 2 * (c * b) + 2 * b → half a b ≡ c
half-unique a b c positive least most =
    let above : c ≤ half a b = half-ge a b c positive least in
    let below : half a b < c + 1 = half-lt a b (c + 1) positive (omega arith) in
    omega arith

-- a multiple of b is exact
pub half-mul : (c b : ℕ) → 1 ≤ b → half (c * b) b ≡ c
half-mul c b positive = half-unique (c * b) b c positive (omega arith) (omega arith)

pub half-zero : (b : ℕ) → 1 ≤ b → half 0 b ≡ 0
half-zero b positive = half-unique 0 b 0 positive (omega arith) (omega arith)

-- it rises with its numerator, and falls as its denominator rises
pub half-rises : (a c b : ℕ) → 1 ≤ b → a ≤ c → half a b ≤ half c b
half-rises a c b positive h = half-ge c b (half a b) positive (omega (arith, half-least a b))

falls-at : (q a b d : ℕ) → b ≤ d → 2 * (q * d) ≤ 2 * a + d → 2 * (q * b) ≤ 2 * a + b
falls-at zero a b d h least = omega arith
falls-at (suc p) a b d h least = omega (arith, mul-le-mul_left {m = b} {n = d} p h)

pub half-falls : (a b d : ℕ) → 1 ≤ b → b ≤ d → half a d ≤ half a b
half-falls a b d positive h = half-ge a b (half a d) positive (falls-at (half a d) a b d h (half-least a d))

-- it is at least 1 exactly where a is at least half of b
pub half-positive : (a b : ℕ) → 1 ≤ b → b ≤ 2 * a → 1 ≤ half a b
half-positive a b positive h = half-ge a b 1 positive (omega arith)

pub half-none : (a b : ℕ) → 1 ≤ b → 2 * a < b → half a b ≡ 0
half-none a b positive h = half-unique a b 0 positive (omega arith) (omega arith)

-- what `ceil_div` gives, times b, is at least a, and passes it by less than b
pub ceil-least : (a b : ℕ) → 1 ≤ b → a ≤ ceil_div a b * b
ceil-least a b positive =
    let h : 0 < b = omega arith in omega (arith, lt-div-mul-add {a = a + (b - 1)} {b = b} h)

pub ceil-most : (a b : ℕ) → 1 ≤ b → ceil_div a b * b < a + b
ceil-most a b positive = omega (arith, div-mul-le_self (a + (b - 1)) b)

pub ceil-le : (a b c : ℕ) → 1 ≤ b → a ≤ c * b → ceil_div a b ≤ c
ceil-le a b c positive h =
    let below : ceil_div a b < c + 1 = quotient-lt (a + (b - 1)) b (c + 1) (omega arith) (omega arith) in omega arith

pub ceil-ge : (a b c : ℕ) → 1 ≤ b → c * b < a + b → c ≤ ceil_div a b
ceil-ge a b c positive h = quotient-ge (a + (b - 1)) b c (omega arith) (omega arith)

pub ceil-mul : (c b : ℕ) → 1 ≤ b → ceil_div (c * b) b ≡ c
ceil-mul c b positive =
    let below : ceil_div (c * b) b ≤ c = ceil-le (c * b) b c positive (omega arith) in
    let above : c ≤ ceil_div (c * b) b = ceil-ge (c * b) b c positive (omega arith) in
    omega arith

pub ceil-rises : (a c b : ℕ) → 1 ≤ b → a ≤ c → ceil_div a b ≤ ceil_div c b
ceil-rises a c b positive h = ceil-ge c b (ceil_div a b) positive (omega (arith, ceil-most a b positive))

-- The order of keys of two numbers, by the first and then by the second.
use Rattle.std.proofs.Common.{arith, false, nat_lt, true, ◌&&◌, ◌==◌, ◌||◌, ◌≡◌, ℕ}
use Rattle.std.proofs.lemmas.Bool.Decides.{nat_tests}

-- of two keys one is before the other, or they are the same
pub keys-either : (a b c d : ℕ) → (nat_lt a c || (a == c && nat_lt b d)) ≡ false → (a == c && b == d) ≡ false → (nat_lt c a || (c == a && nat_lt d b)) ≡ true
keys-either a b c d = grind (arith, nat_tests)

pub keys-next : (a b c d e f : ℕ) → (nat_lt a c || (a == c && nat_lt b d)) ≡ true → (nat_lt c e || (c == e && nat_lt d f)) ≡ true → (nat_lt a e || (a == e && nat_lt b f)) ≡ true
keys-next a b c d e f = grind (arith, nat_tests)

pub keys-back : (a b c d : ℕ) → (nat_lt a c || (a == c && nat_lt b d)) ≡ true → (nat_lt c a || (c == a && nat_lt d b)) ≡ false
keys-back a b c d = grind (arith, nat_tests)

pub keys-apart : (a b c d : ℕ) → (nat_lt a c || (a == c && nat_lt b d)) ≡ true → (a == c && b == d) ≡ false
keys-apart a b c d = grind (arith, nat_tests)

pub keys-apart-later : (a b c d : ℕ) → (nat_lt a c || (a == c && nat_lt b d)) ≡ true → (c == a && d == b) ≡ false
keys-apart-later a b c d = grind (arith, nat_tests)

pub keys-itself : (a b : ℕ) → (nat_lt a a || (a == a && nat_lt b b)) ≡ false
keys-itself a b = grind (arith, nat_tests)

pub keys-same : (a b : ℕ) → (a == a && b == b) ≡ true
keys-same a b = grind (arith, nat_tests)

-- the same key stands before what the key stands before
pub keys-in-stead : (a b c d e f : ℕ) → (a == c && b == d) ≡ true → (nat_lt a e || (a == e && nat_lt b f)) ≡ true → (nat_lt c e || (c == e && nat_lt d f)) ≡ true
keys-in-stead a b c d e f = grind (arith, nat_tests)

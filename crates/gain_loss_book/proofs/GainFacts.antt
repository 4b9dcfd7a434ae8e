-- The gain of a class within the limits of a correction.
use Rattle.std.proofs.Common.{FitsSigned, ap, arith, nat_abs, neg_ℤ, negsuc, of_z, pos, refl, suc, to_z, to_z-of_z, zero, ℕ, ℤ, ◌*ℤ◌, ◌*◌, ◌+◌, ◌-ℤ◌, ◌^◌, ◌∙◌, ◌≡◌, ◌≤◌}
use Rattle.std.specs.Int.{w128}
use Rattle.std.proofs.Math.Nat.{mul-le-mul}
use Rattle.std.proofs.lemmas.Int.{fits_signed_from_abs, ints, unsigned_abs-mul}
use Rattle.money_units.specs.Rounding.{half, signed_half}
use Rattle.register_machine.specs.corrections.Gains.{gain_by}
use Rattle.gain_loss_book.specs.ClassGains.{most_mils}
use Rattle.gain_loss_book.specs.Posted.{most_cash}

abs-neg : (n : ℕ) → nat_abs (neg_ℤ (pos n)) ≡ n
abs-neg zero = refl
abs-neg (suc n) = refl

half-small : (n : ℕ) → half n 1000 ≤ n
half-small n = omega arith

-- a rounded thousandth is no larger
half-size : (z : ℤ) → nat_abs (signed_half z 1000) ≤ nat_abs z
half-size (pos n) = half-small n
half-size (negsuc n) = omega (arith, abs-neg (half (suc n) 1000), half-small (suc n))

small-fits : (z : ℤ) → nat_abs z ≤ most_mils * 10 ^ 7 → FitsSigned w128 z
small-fits z small = fits_signed_from_abs w128 z (omega arith)

difference-small : (a b : ℤ) → nat_abs (a -ℤ b) ≤ nat_abs a + nat_abs b
difference-small a b = grind (arith, ints)

pub gain-is : (cash mils n h : ℤ) (nav : ℕ) → FitsSigned w128 cash → FitsSigned w128 mils → n ≡ pos nav → nat_abs cash ≤ most_cash → nat_abs mils ≤ most_mils → nav ≤ 10000000 → h ≡ signed_half (to_z w128 (of_z w128 (to_z w128 (of_z w128 mils) *ℤ to_z w128 (of_z w128 n)))) 1000 → to_z w128 (of_z w128 (to_z w128 (of_z w128 cash) -ℤ to_z w128 (of_z w128 h))) ≡ gain_by cash mils nav
gain-is cash mils n h nav cash_fits mils_fits nav_is cash_small mils_small nav_small is =
    let product = mils *ℤ pos nav in
    let nav_fits : FitsSigned w128 (pos nav) = small-fits (pos nav) (omega arith) in
    let sizes : nat_abs product ≡ nat_abs mils * nav = unsigned_abs-mul mils (pos nav) in
    let product_small : nat_abs product ≤ most_mils * 10 ^ 7 = omega (arith, sizes, mul-le-mul {n₁ = nat_abs mils} {m₁ = nav} {n₂ = most_mils} {m₂ = 10000000} mils_small nav_small) in
    let product_fits : FitsSigned w128 product = small-fits product product_small in
    let nav_read : to_z w128 (of_z w128 n) ≡ pos nav = ap (λ z. to_z w128 (of_z w128 z)) nav_is ∙ to_z-of_z nav_fits in
    let value : h ≡ signed_half product 1000 =
    is
    ∙ (ap (λ m. signed_half (to_z w128 (of_z w128 (m *ℤ to_z w128 (of_z w128 n)))) 1000) (to_z-of_z mils_fits)
    ∙ (ap (λ m. signed_half (to_z w128 (of_z w128 (mils *ℤ m))) 1000) nav_read
    ∙ ap (λ m. signed_half m 1000) (to_z-of_z product_fits))) in
    let value_small : nat_abs (signed_half product 1000) ≤ most_mils * 10 ^ 7 = omega (arith, half-size product, product_small) in
    let value_read : to_z w128 (of_z w128 h) ≡ signed_half product 1000 = ap (λ z. to_z w128 (of_z w128 z)) value ∙ to_z-of_z (small-fits (signed_half product 1000) value_small) in
    let gain_fits : FitsSigned w128 (cash -ℤ signed_half product 1000) =
    fits_signed_from_abs w128 (cash -ℤ signed_half product 1000) (omega (arith, difference-small cash (signed_half product 1000), value_small, cash_small)) in
    ap (λ z. to_z w128 (of_z w128 (z -ℤ to_z w128 (of_z w128 h)))) (to_z-of_z cash_fits)
    ∙ (ap (λ z. to_z w128 (of_z w128 (cash -ℤ z))) value_read
    ∙ to_z-of_z gain_fits)

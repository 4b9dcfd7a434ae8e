-- Laws of the text forms over plain lists of bytes.
use Rattle.std.proofs.Common.{◌≡◌, ℕ, zero, suc, ◌+◌, ◌-◌, ◌*◌, ◌/◌, ◌%◌, ◌^◌, ◌<◌, ◌≤◌, true, not, ◌&&◌, List, [], ◌∷◌, ◌++◌, length, take, drop, get_or, eqb, Some, length-append, ◌∙◌, ◌||◌, decimal, refl, ap, arith, rules}
use Rattle.std.proofs.lemmas.Bool.{and_parts, eqb-true}
use Rattle.std.proofs.lemmas.Bool.Decides.{nat_tests}
use Rattle.std.proofs.lemmas.Int.Digits.{digits_value_more}
use Rattle.std.proofs.lemmas.Str.{digit_value_digit}
use Rattle.std.proofs.lemmas.Str.Parse.{IsNumeralModel, numerals_by_value, digits_value_short, digits_value-take-le, digit_at}
use Rattle.std.proofs.lemmas.Fmt.{decimal_digit, decimal_nonempty, first_decimal, digits_decimal, digits_value-decimal, length-decimal-le}
use Rattle.std.proofs.lemmas.Nat.{pow-add}
use Rattle.std.proofs.Math.Nat.{mul-le-mul_right, pow-le-pow_right}
use Rattle.std.proofs.Math.ListN.{length-drop}
use Rattle.std.proofs.Math.Seq.{take-append_seam, drop-append-add, get_or-append_seam}
use Rattle.std.specs.List.{list_all}
use Rattle.std.specs.Char.{is_ascii_digit, digit_value}
use Rattle.std.specs.Int.{IsInRange}
use Rattle.std.specs.Str.Parse.{digits_value}
use Rattle.money_units.specs.Texts.{is_whole, is_fixed, fixed, point_of, number, money, shares, last_digit, number_text, money_text, shares_text}

-- texts of digits and the numbers that they write, in the words of std
pub numerals : IsNumeralModel (λ ds. list_all is_ascii_digit ds ≡ true) (digits_value 10)
numerals = numerals_by_value (λ ds. list_all is_ascii_digit ds ≡ true) (search rules)

-- one more digit
pub value-more : (ds : List ℕ) (i : ℕ) → list_all is_ascii_digit ds ≡ true → i < length ds
    → digits_value 10 (take (i + 1) ds) ≡ digits_value 10 (take i ds) * 10 + (get_or ds i 0 - 48)
value-more ds i digits inside =
    let in_range : IsInRange 48 57 (get_or ds i 0) = digit_at ds i (numerals.to ds digits) inside in
    omega (arith, digits_value_more 10 ds i inside, digit_value_digit (get_or ds i 0) in_range)

-- the number so far is below the whole one, which has few digits
pub value-fits : (ds : List ℕ) (i : ℕ) → list_all is_ascii_digit ds ≡ true → i < length ds → length ds ≤ 19
    → digits_value 10 (take i ds) * 10 + (get_or ds i 0 - 48) < 10 ^ 19
value-fits ds i digits inside few =
    omega (arith, value-more ds i digits inside, digits_value-take-le 10 ds (i + 1) (omega arith), digits_value_short numerals ds 19 digits few)

-- two runs of digits side by side
side-by-side : (u v scale most places : ℕ) → scale ≡ 10 ^ places → u < 10 ^ most → v < 10 ^ places → most + places ≤ 19
    → u * scale + v < 10 ^ 19
side-by-side u v scale most places scaled left right fits =
    let grows : (u + 1) * 10 ^ places ≤ 10 ^ most * 10 ^ places = mul-le-mul_right (10 ^ places) (omega arith) in
    let least : 10 ^ (most + places) ≤ 10 ^ 19 = pow-le-pow_right (omega arith) fits in
    rw scaled (omega (arith, grows, least, pow-add 10 most places))

-- the parts of a text in the form
pub record HasParts (most places : ℕ) (text : List ℕ) : Type 0 where
  pub units : is_whole most (take (point_of places text) text) ≡ true
  pub dot : get_or text (point_of places text) 0 ≡ 46
  pub part : list_all is_ascii_digit (drop (point_of places text + 1) text) ≡ true

pub parts-is_fixed : (most places : ℕ) (text : List ℕ) → is_fixed most places text ≡ true → HasParts most places text
parts-is_fixed most places text h =
    let both = and_parts (is_whole most (take (point_of places text) text) && eqb (get_or text (point_of places text) 0) 46) _ h in
    let first = and_parts (is_whole most (take (point_of places text) text)) _ both.0 in
    record { units = first.0; dot = eqb-true _ _ first.1; part = both.1 }

pub record IsWhole (most : ℕ) (text : List ℕ) : Type 0 where
  pub digits : list_all is_ascii_digit text ≡ true
  pub nonempty : 0 < length text
  pub few : length text ≤ most

pub whole-parts : (most : ℕ) (text : List ℕ) → is_whole most text ≡ true → IsWhole most text
whole-parts most text h = record {
  digits = grind (arith, nat_tests);
  nonempty = grind (arith, nat_tests);
  few = grind (arith, nat_tests);
}

-- the value of such a text has at most 19 digits
pub fixed-fits : (most places : ℕ) (text : List ℕ) → is_fixed most places text ≡ true → most + places ≤ 19
    → digits_value 10 (take (point_of places text) text) * 10 ^ places + digits_value 10 (drop (point_of places text + 1) text) < 10 ^ 19
fixed-fits most places text h fits =
    let parts = parts-is_fixed most places text h in
    let units : IsWhole most (take (point_of places text) text) = whole-parts most (take (point_of places text) text) parts.units in
    let short : length (drop (point_of places text + 1) text) ≤ places = simp length-drop (omega arith) in
    side-by-side _ _ (10 ^ places) most places refl
    (digits_value_short numerals (take (point_of places text) text) most units.digits units.few)
    (digits_value_short numerals (drop (point_of places text + 1) text) places parts.part short) fits

-- a digit as a byte
last-digit : (n : ℕ) → is_ascii_digit (48 + n % 10) ≡ true
last-digit n = let small : n % 10 < 10 = omega arith in grind (arith, nat_tests)

last-value : (n : ℕ) → digit_value (48 + n % 10) ≡ n % 10
last-value n =
    let small : n % 10 < 10 = omega arith in
    let in_range : IsInRange 48 57 (48 + n % 10) = (omega arith, omega arith) in
    omega (arith, digit_value_digit (48 + n % 10) in_range)

-- the decimal text of a number is the form of it
first-digit : (n : ℕ) → n < 2 ^ 64 → (not (eqb (get_or (decimal n) 0 0) 48) || eqb (length (decimal n)) 1) ≡ true
first-digit zero h = rw (decimal_digit 0 (omega arith)) refl
first-digit (suc n) h = let above : 48 < get_or (decimal (suc n)) 0 0 = first_decimal (suc n) (omega arith) h in grind (arith, nat_tests)

pub is_whole-decimal : (most n : ℕ) → 0 < most → n < 10 ^ most → n < 2 ^ 64 → is_whole most (decimal n) ≡ true
is_whole-decimal most n some small fits =
    let digits : list_all is_ascii_digit (decimal n) ≡ true = digits_decimal numerals n fits in
    let nonempty : 0 < length (decimal n) = decimal_nonempty n fits in
    let few : length (decimal n) ≤ most = length-decimal-le most n some small fits in
    let first = first-digit n fits in
    rw (digits, first) (grind (arith, nat_tests))

-- a whole number, a point and digits make the form of that many places
is_fixed-join : (most : ℕ) (ds ps : List ℕ) → is_whole most ds ≡ true → list_all is_ascii_digit ps ≡ true
    → is_fixed most (length ps) (ds ++ 46 ∷ ps) ≡ true
is_fixed-join most ds ps front back =
    let point : length (ds ++ 46 ∷ ps) - (length ps + 1) ≡ length ds = simp length-append (omega arith) in
    rw (point, take-append_seam ds (46 ∷ ps), get_or-append_seam ds 46 ps 0, drop-append-add ds (46 ∷ ps) 1, front, back) refl

fixed-join : (most : ℕ) (ds ps : List ℕ) → is_whole most ds ≡ true → list_all is_ascii_digit ps ≡ true
    → fixed most (length ps) (ds ++ 46 ∷ ps) ≡ Some (digits_value 10 ds * 10 ^ length ps + digits_value 10 ps)
fixed-join most ds ps front back =
    let point : length (ds ++ 46 ∷ ps) - (length ps + 1) ≡ length ds = simp length-append (omega arith) in
    let form = is_fixed-join most ds ps front back in
    rw (form, point, take-append_seam ds (46 ∷ ps), drop-append-add ds (46 ∷ ps) 1) refl

-- reading what was printed gives the value back
pub number-number_text : (n : ℕ) → n < 10 ^ 19 → number (number_text n) ≡ Some n
number-number_text n small =
    let fits : n < 2 ^ 64 = omega arith in
    rw (is_whole-decimal 19 n (omega arith) small fits, digits_value-decimal numerals n fits) refl

two-digits : (n : ℕ) → list_all is_ascii_digit (last_digit (n / 10) ∷ last_digit n ∷ []) ≡ true
two-digits n = rw (last-digit (n / 10), last-digit n) refl

three-digits : (n : ℕ) → list_all is_ascii_digit (last_digit (n / 100) ∷ last_digit (n / 10) ∷ last_digit n ∷ []) ≡ true
three-digits n = rw (last-digit (n / 100), last-digit (n / 10), last-digit n) refl

pub money-money_text : (n : ℕ) → n < 10 ^ 15 → money (money_text n) ≡ Some n
money-money_text n small =
    let fits : n / 100 < 2 ^ 64 = omega arith in
    let front = is_whole-decimal 13 (n / 100) (omega arith) (omega arith) fits in
    fixed-join 13 (decimal (n / 100)) (last_digit (n / 10) ∷ last_digit n ∷ []) front (two-digits n)
    ∙ rw (digits_value-decimal numerals (n / 100) fits, last-value (n / 10), last-value n) (ap Some (omega arith))

pub shares-shares_text : (n : ℕ) → n < 10 ^ 16 → shares (shares_text n) ≡ Some n
shares-shares_text n small =
    let fits : n / 1000 < 2 ^ 64 = omega arith in
    let front = is_whole-decimal 13 (n / 1000) (omega arith) (omega arith) fits in
    fixed-join 13 (decimal (n / 1000)) (last_digit (n / 100) ∷ last_digit (n / 10) ∷ last_digit n ∷ []) front (three-digits n)
    ∙ rw (digits_value-decimal numerals (n / 1000) fits, last-value (n / 100), last-value (n / 10), last-value n) (ap Some (omega arith))

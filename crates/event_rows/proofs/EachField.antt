-- Each field is exact.
use Rattle.std.proofs.Common.{◌≡◌, ℕ, zero, suc, ◌+◌, ◌*◌, ◌/◌, ◌%◌, ◌^◌, ◌<◌, ◌≤◌, Bool, true, false, cond, eqb, ltb, List, [], ◌∷◌, ◌++◌, length, take, drop, Option, Some, None, refl, sym, ap, subst, ◌∙◌, append_assoc, arith, inl, inr}
use Rattle.std.specs.Prelude.{option_and_then, nat_le, ◌&&◌}
use Rattle.std.specs.List.{flat_map}
use Rattle.std.specs.Int.{Width, w16, w32, w64, byte_len, from_be_bytes, to_be_bytes}
use Rattle.std.proofs.lemmas.Bool.{cases_lt, ltb-false, le-ltb, eqb-true, leb-true, le-leb}
use Rattle.std.proofs.lemmas.List.{take_at, drop_at, take-append-drop, length-append, length-take, get_or-drop, get_or-take, get_or_past}
use Rattle.std.proofs.lemmas.Option.{same_Some}
use Rattle.std.proofs.lemmas.Nat.{be_bytes_2, be_bytes_4, be_bytes_8, from_be_bytes-to_be_bytes_2, from_be_bytes-to_be_bytes_4, from_be_bytes-to_be_bytes_8}
use Rattle.agent_events.specs.declared.order.Bearer.{Bearer}
use Rattle.agent_events.specs.Fields.{is_label, is_zone_text, is_household_key, is_dealer_key}
use Rattle.event_rows.specs.Exact.{IsBytes, IsField}
use Rattle.event_rows.specs.Ranges.{Between, IsIdentifier, IsIdentifierOrNone, IsReference, IsMoment, IsDay, IsAmount, IsMinimum, IsNav, IsQuantity, IsDividendRate, IsCorrectedRate, IsTimeOfDay, IsWindow, IsBps, Passes, AreListed, IsBearer}
use Rattle.event_rows.specs.FieldReading.{kept, number_at, is_between, number_between, bytes_at, items_at, list_at}
use Rattle.event_rows.specs.Readers.{is_one, whole_of, flag_at, sixteen_at, text_at, identifier_at, identifier_or_none_at, reference_at, moment_at, day_at, amount_at, minimum_at, nav_at, quantity_at, dividend_rate_at, corrected_rate_at, time_of_day_at, window_at, rate_at, name_at, zone_at, household_key_at, dealer_key_at, bearer_behind, bearer_at}
use Rattle.event_rows.specs.Spelling.{two_bytes, four_bytes, eight_bytes, sixteen_bytes, flag, text, list_bytes, bearer}
use Rattle.event_rows.proofs.Fields.{IsBytes-rest, read_some, map_some, both, shaped, tested, in_words, byte_field, tagged, chosen, items_take, items_again}

IsBytes-drop : (n : ℕ) (bytes : List ℕ) → IsBytes bytes → IsBytes (drop n bytes)
IsBytes-drop n bytes h i = rw get_or-drop (h (n + i))

IsBytes-take : (n : ℕ) (bytes : List ℕ) → IsBytes bytes → IsBytes (take n bytes)
IsBytes-take n bytes h i =
    elim (cases_lt i n) [
      | inl lt ↦ rw (get_or-take n bytes i 0 lt) (h i)
      | inr le ↦ rw (get_or_past (take n bytes) i 0 (omega (arith, length-take n bytes))) (omega arith)
    ]

-- a width of numbers, and the numbers that it has
pub record IsWide (w : Width) (limit : ℕ) : Type 0 where
  pub len : (n : ℕ) → length (to_be_bytes w n) ≡ byte_len w
  pub back : (bytes : List ℕ) → length bytes ≡ byte_len w → IsBytes bytes → to_be_bytes w (from_be_bytes w bytes) ≡ bytes
  pub again : (n : ℕ) → n < limit → from_be_bytes w (to_be_bytes w n) ≡ n
  pub below : (bytes : List ℕ) → IsBytes bytes → from_be_bytes w bytes < limit

pub wide16 : IsWide w16 (2 ^ 16)
wide16 = record {
  len = λ n. refl;
  back = λ bytes len fits. be_bytes_2 bytes _ len fits refl;
  again = λ n lt. from_be_bytes-to_be_bytes_2 n lt;
  below = λ bytes fits. omega (arith, fits 0, fits 1);
}

pub wide32 : IsWide w32 (2 ^ 32)
wide32 = record {
  len = λ n. refl;
  back = λ bytes len fits. be_bytes_4 bytes _ len fits refl;
  again = λ n lt. from_be_bytes-to_be_bytes_4 n lt;
  below = λ bytes fits. omega (arith, fits 0, fits 1, fits 2, fits 3);
}

pub wide64 : IsWide w64 (2 ^ 64)
wide64 = record {
  len = λ n. refl;
  back = λ bytes len fits. be_bytes_8 bytes _ len fits refl;
  again = λ n lt. from_be_bytes-to_be_bytes_8 n lt;
  below = λ bytes fits. omega (arith, fits 0, fits 1, fits 2, fits 3, fits 4, fits 5, fits 6, fits 7);
}

-- enough bytes are there
enough : {A : Type 0} (b : Bool) (x y : A) → cond b None (Some x) ≡ Some y → (b ≡ false) × (x ≡ y)
enough true x y e = absurd cc
enough false x y e = (refl, cc)

pub number_field : (w : Width) (limit : ℕ) → IsWide w limit → IsField (to_be_bytes w) (λ n. n < limit) (number_at w)
unfolding number_at
number_field w limit wide = record {
  takes = λ bytes n rest fits e.
      let g = enough (ltb (length bytes) (byte_len w)) (from_be_bytes w (take (byte_len w) bytes), drop (byte_len w) bytes) (n, rest) e in
      let long : byte_len w ≤ length bytes = ltb-false _ _ g.0 in
      let n-is : from_be_bytes w (take (byte_len w) bytes) ≡ n = ap (λ (p : ℕ × List ℕ). p.0) g.1 in
      let rest-is : drop (byte_len w) bytes ≡ rest = ap (λ (p : ℕ × List ℕ). p.1) g.1 in
      let front : to_be_bytes w n ≡ take (byte_len w) bytes = rw (← n-is) (wide.back (take (byte_len w) bytes) (omega (arith, length-take (byte_len w) bytes)) (IsBytes-take (byte_len w) bytes fits)) in
      (rw (front, ← rest-is) (sym (take-append-drop (byte_len w) bytes)), rw (← n-is) (wide.below (take (byte_len w) bytes) (IsBytes-take (byte_len w) bytes fits)));
  again = λ n rest lt.
      let len = wide.len n in
      let long : ltb (length (to_be_bytes w n ++ rest)) (byte_len w) ≡ false = le-ltb _ _ (omega (arith, length-append (to_be_bytes w n) rest)) in
      rw (long, take_at (to_be_bytes w n) rest (byte_len w) len, drop_at (to_be_bytes w n) rest (byte_len w) len, wide.again n lt) refl;
}

-- a number in its range
between_from : (low high n : ℕ) → is_between low high n ≡ true → Between low high n
between_from low high n e = grind (arith, leb-true)

between_to : (low high n : ℕ) → Between low high n → is_between low high n ≡ true
between_to low high n fits = rw (le-leb low n fits.0, le-leb n high fits.1) refl

pub ranged_field : (w : Width) (limit : ℕ) → IsWide w limit → (low high : ℕ) → high < limit → IsField (to_be_bytes w) (Between low high) (number_between w low high)
ranged_field w limit wide low high small =
    in_words (λ n fits. between_from low high n fits.1) (λ n fits. (omega (arith, fits.1, small), between_to low high n fits)) (tested (is_between low high) (number_field w limit wide))

-- the parts of a test
pub left_true : (a b : Bool) → (a && b) ≡ true → a ≡ true
left_true true b e = refl
left_true false b e = absurd cc

pub right_true : (a b : Bool) → (a && b) ≡ true → b ≡ true
right_true true b e = e
right_true false b e = absurd cc

-- ---- numbers

ranged32 : (low high : ℕ) → high < 2 ^ 32 → IsField four_bytes (Between low high) (number_between w32 low high)
unfolding four_bytes
ranged32 low high small = ranged_field w32 (2 ^ 32) wide32 low high small

ranged64 : (low high : ℕ) → high < 2 ^ 64 → IsField eight_bytes (Between low high) (number_between w64 low high)
unfolding eight_bytes
ranged64 low high small = ranged_field w64 (2 ^ 64) wide64 low high small

ranged16 : (low high : ℕ) → high < 2 ^ 16 → IsField two_bytes (Between low high) (number_between w16 low high)
unfolding two_bytes
ranged16 low high small = ranged_field w16 (2 ^ 16) wide16 low high small

pub four_field : IsField four_bytes (λ n. n < 2 ^ 32) (number_at w32)
unfolding four_bytes
four_field = number_field w32 (2 ^ 32) wide32

pub eight_field : IsField eight_bytes (λ n. n < 2 ^ 64) (number_at w64)
unfolding eight_bytes
eight_field = number_field w64 (2 ^ 64) wide64

pub identifier_field : IsField four_bytes IsIdentifier identifier_at
unfolding identifier_at
identifier_field = ranged32 1 4294967295 (omega arith)

pub identifier_or_none_field : IsField four_bytes IsIdentifierOrNone identifier_or_none_at
unfolding identifier_or_none_at
identifier_or_none_field = ranged32 0 4294967295 (omega arith)

pub reference_field : IsField eight_bytes IsReference reference_at
unfolding reference_at
reference_field = ranged64 1 9999999999999999999 (omega arith)

pub moment_field : IsField eight_bytes IsMoment moment_at
unfolding moment_at
moment_field = ranged64 0 7258118399 (omega arith)

pub day_field : IsField four_bytes IsDay day_at
unfolding day_at
day_field = ranged32 0 84005 (omega arith)

pub amount_field : IsField eight_bytes IsAmount amount_at
unfolding amount_at
amount_field = ranged64 1 1000000000000 (omega arith)

pub minimum_field : IsField eight_bytes IsMinimum minimum_at
unfolding minimum_at
minimum_field = ranged64 0 1000000000000 (omega arith)

pub nav_field : IsField eight_bytes IsNav nav_at
unfolding nav_at
nav_field = ranged64 1 10000000 (omega arith)

pub quantity_field : IsField eight_bytes IsQuantity quantity_at
unfolding quantity_at
quantity_field = ranged64 1 1000000000000 (omega arith)

pub dividend_rate_field : IsField eight_bytes IsDividendRate dividend_rate_at
unfolding dividend_rate_at
dividend_rate_field = ranged64 1 1000000000 (omega arith)

pub corrected_rate_field : IsField eight_bytes IsCorrectedRate corrected_rate_at
unfolding corrected_rate_at
corrected_rate_field = ranged64 0 1000000000 (omega arith)

pub time_of_day_field : IsField two_bytes IsTimeOfDay time_of_day_at
unfolding time_of_day_at
time_of_day_field = ranged16 0 1439 (omega arith)

pub window_field : IsField four_bytes IsWindow window_at
unfolding window_at
window_field = ranged32 0 86400 (omega arith)

pub rate_field : IsField two_bytes IsBps rate_at
unfolding rate_at
rate_field = ranged16 0 65535 (omega arith)

-- ---- a flag

bit : Bool → ℕ
bit answer = cond answer 1 0

bit_fits : (answer : Bool) → (bit answer < 256) × (nat_le (bit answer) 1 ≡ true)
unfolding bit
bit_fits true = (omega arith, refl)
bit_fits false = (omega arith, refl)

bit_back : (answer : Bool) → is_one (bit answer) ≡ answer
unfolding bit
bit_back true = refl
bit_back false = refl

bit_forth : (n : ℕ) → nat_le n 1 ≡ true → bit (is_one n) ≡ n
unfolding bit
bit_forth zero small = refl
bit_forth (suc zero) small = refl
bit_forth (suc (suc n)) small = absurd (omega (arith, leb-true (suc (suc n)) 1 small))

pub flag_field : IsField flag (λ answer. Unit {0}) flag_at
unfolding flag flag_at bit
flag_field =
    in_words (λ answer fits. tt) (λ answer fits. bit_fits answer)
    (shaped is_one bit (λ answer fits. bit_back answer) (λ n fits. bit_forth n fits.1) (tested (λ n. nat_le n 1) byte_field))

-- ---- sixteen bytes

halves : ℕ → ℕ × ℕ
halves n = (n / 18446744073709551616, n % 18446744073709551616)

halves_fit : (n : ℕ) → n < 2 ^ 128 → ((halves n).0 < 2 ^ 64) × ((halves n).1 < 2 ^ 64)
unfolding halves
halves_fit n small = (omega arith, omega arith)

halves_back : (n : ℕ) → whole_of (halves n) ≡ n
unfolding halves
halves_back n = omega arith

halves_forth : (p : ℕ × ℕ) → p.1 < 2 ^ 64 → halves (whole_of p) ≡ p
unfolding halves
halves_forth p small =
    let high : (18446744073709551616 * p.0 + p.1) / 18446744073709551616 ≡ p.0 = omega arith in
    let low : (18446744073709551616 * p.0 + p.1) % 18446744073709551616 ≡ p.1 = omega arith in
    rw (high, low) refl

halves_whole : (n : ℕ) → ((halves n).0 < 2 ^ 64) × ((halves n).1 < 2 ^ 64) → n < 2 ^ 128
unfolding halves
halves_whole n fits = omega (arith, fits.0, fits.1)

pub sixteen_field : IsField sixteen_bytes (λ n. n < 2 ^ 128) sixteen_at
unfolding sixteen_bytes sixteen_at halves
sixteen_field =
    in_words (λ n fits. halves_whole n fits) (λ n fits. halves_fit n fits)
    (shaped whole_of halves (λ n fits. halves_back n) (λ p fits. halves_forth p fits.1) (both eight_field eight_field))

-- ---- a text behind its length

two_field : IsField two_bytes (λ n. n < 2 ^ 16) (number_at w16)
unfolding two_bytes
two_field = number_field w16 (2 ^ 16) wide16

text_takes : (bytes letters rest : List ℕ) → IsBytes bytes → text_at bytes ≡ Some (letters, rest) → (bytes ≡ text letters ++ rest) × (length letters ≤ 65535)
unfolding text_at text
text_takes bytes letters rest fits e =
    let b = read_some (number_at w16 bytes) (λ n. cond (ltb (length n.1) n.0) None (Some (take n.0 n.1, drop n.0 n.1))) (letters, rest) e in
    let n = b.0 in
    let one = two_field.takes bytes n.0 n.1 fits b.1 in
    let g = enough (ltb (length n.1) n.0) (take n.0 n.1, drop n.0 n.1) (letters, rest) b.2 in
    let long : n.0 ≤ length n.1 = ltb-false _ _ g.0 in
    let len : length (take n.0 n.1) ≡ n.0 = omega (arith, length-take n.0 n.1) in
    let parts : bytes ≡ (two_bytes n.0 ++ take n.0 n.1) ++ drop n.0 n.1 = one.0 ∙ ap (λ (x : List ℕ). two_bytes n.0 ++ x) (sym (take-append-drop n.0 n.1)) ∙ sym (append_assoc (two_bytes n.0) (take n.0 n.1) (drop n.0 n.1)) in
    let whole : bytes ≡ (two_bytes (length (take n.0 n.1)) ++ take n.0 n.1) ++ drop n.0 n.1 = subst (λ (k : ℕ). bytes ≡ (two_bytes k ++ take n.0 n.1) ++ drop n.0 n.1) (sym len) parts in
    subst (λ (p : List ℕ × List ℕ). (bytes ≡ (two_bytes (length p.0) ++ p.0) ++ p.1) × (length p.0 ≤ 65535)) g.1 (whole, omega (arith, one.1))

text_again : (letters rest : List ℕ) → length letters ≤ 65535 → text_at (text letters ++ rest) ≡ Some (letters, rest)
unfolding text_at text
text_again letters rest lt =
    let small : length letters < 2 ^ 16 = omega arith in
    let long : ltb (length (letters ++ rest)) (length letters) ≡ false = le-ltb _ _ (omega (arith, length-append letters rest)) in
    let regrouped : (two_bytes (length letters) ++ letters) ++ rest ≡ two_bytes (length letters) ++ (letters ++ rest) = append_assoc (two_bytes (length letters)) letters rest in
    ap (λ (x : List ℕ). option_and_then (λ n. bytes_at n.0 n.1) (number_at w16 x)) regrouped
    ∙ rw (two_field.again (length letters) (letters ++ rest) small, long, take_at letters rest (length letters) refl, drop_at letters rest (length letters) refl) refl

pub text_field : IsField text (λ letters. length letters ≤ 65535) text_at
text_field = record { takes = text_takes; again = text_again }

-- a text that passes a test which bounds its length
pub form_field : (test : List ℕ → Bool) → ((letters : List ℕ) → test letters ≡ true → length letters ≤ 65535) → IsField text (Passes test) (kept test text_at)
form_field test short = in_words (λ letters fits. fits.1) (λ letters fits. (short letters fits, fits)) (tested test text_field)

short_label : (letters : List ℕ) → is_label letters ≡ true → length letters ≤ 65535
short_label letters e = omega (arith, leb-true (length letters) 40 (right_true (nat_le 1 (length letters)) _ (left_true _ _ e)))

short_zone : (letters : List ℕ) → is_zone_text letters ≡ true → length letters ≤ 65535
short_zone letters e = omega (arith, leb-true (length letters) 64 (left_true _ _ (right_true (nat_le 1 (length letters)) _ e)))

short_household : (letters : List ℕ) → is_household_key letters ≡ true → length letters ≤ 65535
short_household letters e = omega (arith, leb-true (length letters) 58 (left_true _ _ (right_true (nat_le 10 (length letters)) _ (right_true _ _ e))))

short_dealer : (letters : List ℕ) → is_dealer_key letters ≡ true → length letters ≤ 65535
short_dealer letters e = omega (arith, leb-true (length letters) 58 (left_true _ _ (right_true (nat_le 10 (length letters)) _ (right_true _ _ e))))

pub name_field : IsField text (Passes is_label) name_at
unfolding name_at
name_field = form_field is_label short_label

pub zone_field : IsField text (Passes is_zone_text) zone_at
unfolding zone_at
zone_field = form_field is_zone_text short_zone

pub household_key_field : IsField text (Passes is_household_key) household_key_at
unfolding household_key_at
household_key_field = form_field is_household_key short_household

pub dealer_key_field : IsField text (Passes is_dealer_key) dealer_key_at
unfolding dealer_key_at
dealer_key_field = form_field is_dealer_key short_dealer

-- ---- a list behind its count

list_takes : {A : Type 0} {s : A → List ℕ} {f : A → Type 0} {r : List ℕ → Option (A × List ℕ)} → IsField s f r
    → (bytes : List ℕ) (xs : List A) (rest : List ℕ) → IsBytes bytes → list_at r bytes ≡ Some (xs, rest) → (bytes ≡ list_bytes s xs ++ rest) × AreListed f xs
unfolding list_at list_bytes
list_takes {s = s} {f = f} {r = r} field bytes xs rest fits e =
    let b = read_some (number_at w16 bytes) (λ n. items_at r n.0 n.1) (xs, rest) e in
    let one = two_field.takes bytes b.0.0 b.0.1 fits b.1 in
    let two = items_take field b.0.0 b.0.1 xs rest (IsBytes-rest bytes (two_bytes b.0.0) b.0.1 one.0 fits) b.2 in
    let whole : bytes ≡ (two_bytes b.0.0 ++ flat_map s xs) ++ rest = one.0 ∙ ap (λ (x : List ℕ). two_bytes b.0.0 ++ x) two.0 ∙ sym (append_assoc (two_bytes b.0.0) (flat_map s xs) rest) in
    (subst (λ (k : ℕ). bytes ≡ (two_bytes k ++ flat_map s xs) ++ rest) (sym two.1) whole, (omega (arith, two.1, one.1), two.2))

list_again : {A : Type 0} {s : A → List ℕ} {f : A → Type 0} {r : List ℕ → Option (A × List ℕ)} → IsField s f r
    → (xs : List A) (rest : List ℕ) → AreListed f xs → list_at r (list_bytes s xs ++ rest) ≡ Some (xs, rest)
unfolding list_at list_bytes
list_again {s = s} {r = r} field xs rest fits =
    let small : length xs < 2 ^ 16 = omega (arith, fits.0) in
    let regrouped : (two_bytes (length xs) ++ flat_map s xs) ++ rest ≡ two_bytes (length xs) ++ (flat_map s xs ++ rest) = append_assoc (two_bytes (length xs)) (flat_map s xs) rest in
    ap (λ (x : List ℕ). option_and_then (λ n. items_at r n.0 n.1) (number_at w16 x)) regrouped
    ∙ rw (two_field.again (length xs) (flat_map s xs ++ rest) small) (items_again field xs rest fits.1)

pub listed_field : {A : Type 0} {s : A → List ℕ} {f : A → Type 0} {r : List ℕ → Option (A × List ℕ)} → IsField s f r → IsField (list_bytes s) (AreListed f) (list_at r)
listed_field field = record { takes = list_takes field; again = list_again field }

-- ---- who bears a loss

bearer_tag : Bearer → ℕ
bearer_tag Bearer.Fund = 0
bearer_tag Bearer.Agent = 1
bearer_tag (Bearer.Dealer dealer) = 2

bearer_rest : Bearer → List ℕ
bearer_rest Bearer.Fund = []
bearer_rest Bearer.Agent = []
bearer_rest (Bearer.Dealer dealer) = four_bytes dealer

BearerFrom : ℕ → List ℕ → Bearer → List ℕ → Type 0
BearerFrom n bytes x rest = (bytes ≡ bearer_rest x ++ rest) × IsBearer x × (bearer_tag x ≡ n)

bearer_small : (x : Bearer) → IsBearer x → bearer_tag x < 256
unfolding bearer_tag
bearer_small Bearer.Fund fits = omega arith
bearer_small Bearer.Agent fits = omega arith
bearer_small (Bearer.Dealer dealer) fits = omega arith

bearer_takes : (n : ℕ) (bytes : List ℕ) (x : Bearer) (rest : List ℕ) → IsBytes bytes → bearer_behind n bytes ≡ Some (x, rest) → BearerFrom n bytes x rest
unfolding bearer_tag bearer_rest BearerFrom
bearer_takes n bytes x rest fits e =
    chosen (eqb n 0) _ _ (x, rest) (BearerFrom n bytes x rest) e
    (λ is found. subst (λ (y : Bearer × List ℕ). BearerFrom n bytes y.0 y.1) (same_Some (Bearer.Fund, bytes) (x, rest) found) (refl, tt, sym (eqb-true n 0 is)))
    (λ e. chosen (eqb n 1) _ _ (x, rest) (BearerFrom n bytes x rest) e
    (λ is found. subst (λ (y : Bearer × List ℕ). BearerFrom n bytes y.0 y.1) (same_Some (Bearer.Agent, bytes) (x, rest) found) (refl, tt, sym (eqb-true n 1 is)))
    (λ e. chosen (eqb n 2) _ _ (x, rest) (BearerFrom n bytes x rest) e
    (λ is found.
    let a = map_some (identifier_at bytes) (λ (y : ℕ × List ℕ). (Bearer.Dealer y.0, y.1)) (x, rest) found in
    let one = identifier_field.takes bytes a.0.0 a.0.1 fits a.1 in
    subst (λ (y : Bearer × List ℕ). BearerFrom n bytes y.0 y.1) a.2 (one.0, one.1, sym (eqb-true n 2 is)))
    (λ e. absurd cc)))

bearer_again : (x : Bearer) (rest : List ℕ) → IsBearer x → bearer_behind (bearer_tag x) (bearer_rest x ++ rest) ≡ Some (x, rest)
unfolding bearer_tag bearer_rest
bearer_again Bearer.Fund rest fits = refl
bearer_again Bearer.Agent rest fits = refl
bearer_again (Bearer.Dealer dealer) rest fits = rw (identifier_field.again dealer rest fits) refl

bearer_words : (x : Bearer) → bearer_tag x ∷ bearer_rest x ≡ bearer x
unfolding bearer bearer_tag bearer_rest
bearer_words Bearer.Fund = refl
bearer_words Bearer.Agent = refl
bearer_words (Bearer.Dealer dealer) = refl

-- a field by another word for its spelling
pub respelled : {A : Type 0} {s t : A → List ℕ} {f : A → Type 0} {r : List ℕ → Option (A × List ℕ)} → ((x : A) → s x ≡ t x) → IsField s f r → IsField t f r
respelled {s = s} {t = t} {r = r} same field = record {
  takes = λ bytes x rest fits e. let one = field.takes bytes x rest fits e in (one.0 ∙ ap (λ (y : List ℕ). y ++ rest) (same x), one.1);
  again = λ x rest fits. ap (λ (y : List ℕ). r (y ++ rest)) (sym (same x)) ∙ field.again x rest fits;
}

pub bearer_field : IsField bearer IsBearer bearer_at
unfolding bearer_at BearerFrom
bearer_field = respelled bearer_words (tagged bearer_tag bearer_rest IsBearer bearer_behind bearer_small bearer_takes bearer_again)

-- A sheet stands in the place of its number.
use Rattle.std.proofs.Common.{◌≡◌, ℕ, zero, suc, ◌+◌, ◌-◌, ◌<◌, ◌==◌, List, [], ◌∷◌, ◌++◌, length, get_or, take, slice_get, None, inl, inr, refl, sym, ap, subst, ◌∙◌, arith, length-append}
use Rattle.std.proofs.lemmas.List.{length-map, get_or-take}
use Rattle.std.proofs.lemmas.Bool.{cases_lt}
use Rattle.fund_calendar.proofs.LookUpLemmas.{find_at, find_none, eq_true, eq_false}
use Rattle.forward_price.specs.declared.price_sheet.Sheet.{Sheet}
use Rattle.forward_price.specs.PriceTables.{AreNumbered, sheet_numbered, sheets_with_nav, corrected_sheet}
use Rattle.forward_price.proofs.PatchFacts.{number-kept}

pub none_numbered : AreNumbered []
none_numbered = record { each = λ k d l. absurd (omega arith) }

pub numbered_at : (sheets : List Sheet) (number : ℕ) → AreNumbered sheets → 0 < number → slice_get sheets (number - 1) ≡ sheet_numbered sheets number
numbered_at sheets number are some =
    sym (find_at (λ s. s.number == number) sheets (number - 1)
    (λ k d lt short. eq_false (get_or sheets k d).number number (λ same. (let is = are.each k d short in omega arith)))
    (λ d short. eq_true (get_or sheets (number - 1) d).number number (let is = are.each (number - 1) d short in omega arith)))

pub numbered_zero : (sheets : List Sheet) (number : ℕ) → AreNumbered sheets → number ≡ 0 → sheet_numbered sheets number ≡ None
numbered_zero sheets number are none =
    find_none (λ s. s.number == number) sheets (λ k d short. eq_false (get_or sheets k d).number number (λ same. (let is = are.each k d short in omega arith)))

get_left : (xs : List Sheet) (y d : Sheet) (k : ℕ) → k < length xs → get_or (xs ++ y ∷ []) k d ≡ get_or xs k d
get_left [] y d k l = absurd (omega arith)
get_left (x ∷ xs) y d zero l = refl
get_left (x ∷ xs) y d (suc k) l = get_left xs y d k (omega arith)

get_last : (xs : List Sheet) (y d : Sheet) (k : ℕ) → k ≡ length xs → get_or (xs ++ y ∷ []) k d ≡ y
get_last xs y d k e = subst (λ n. get_or (xs ++ y ∷ []) n d ≡ y) (sym e) (go xs)
  where
    go : (xs : List Sheet) → get_or (xs ++ y ∷ []) (length xs) d ≡ y
    go [] = refl
    go (x ∷ xs) = go xs

pub numbered_more : (sheets : List Sheet) (s : Sheet) → AreNumbered sheets → s.number ≡ length sheets + 1 → AreNumbered (sheets ++ s ∷ [])
numbered_more sheets s are next = record {
  each = λ k d l. elim (cases_lt k (length sheets)) [
    | inl lt ↦ ap (λ x. x.number) (get_left sheets s d k lt) ∙ are.each k d lt
    | inr ge ↦ (
        let last : k ≡ length sheets = omega (arith, length-append sheets (s ∷ [])) in
        ap (λ x. x.number) (get_last sheets s d k last) ∙ next ∙ ap (λ n. n + 1) (sym last)
        )
  ];
}

-- a place in front of a list is a place of the list
pub within : {X : Type 0} (xs : List X) (n k : ℕ) → k < length (take n xs) → k < n
within [] zero k l = absurd (omega arith)
within [] (suc n) k l = absurd (omega arith)
within (x ∷ xs) zero k l = absurd (omega arith)
within (x ∷ xs) (suc n) zero l = omega arith
within (x ∷ xs) (suc n) (suc k) l = (let rest = within xs n k (omega arith) in omega arith)

pub long : {X : Type 0} (xs : List X) (n k : ℕ) → k < length (take n xs) → k < length xs
long [] zero k l = l
long [] (suc n) k l = l
long (x ∷ xs) zero k l = absurd (omega arith)
long (x ∷ xs) (suc n) zero l = omega arith
long (x ∷ xs) (suc n) (suc k) l = (let rest = long xs n k (omega arith) in omega arith)

pub numbered_less : (sheets : List Sheet) (n : ℕ) → AreNumbered sheets → AreNumbered (take n sheets)
numbered_less sheets n are = record {
  each = λ k d l.
      let short = within sheets n k l in
      ap (λ x. x.number) (get_or-take n sheets k d short) ∙ are.each k d (long sheets n k l);
}

-- a corrected sheet stands in its place
pub map_get : (class number nav : ℕ) (xs : List Sheet) (i : ℕ) (d : Sheet) → i < length xs → get_or (sheets_with_nav class number nav xs) i d ≡ corrected_sheet class number nav (get_or xs i d)
map_get class number nav [] i d l = absurd (omega arith)
map_get class number nav (x ∷ xs) zero d l = refl
map_get class number nav (x ∷ xs) (suc i) d l = map_get class number nav xs i d (omega arith)

pub numbered_corrected : (class number nav : ℕ) (sheets : List Sheet) → AreNumbered sheets → AreNumbered (sheets_with_nav class number nav sheets)
numbered_corrected class number nav sheets are = record {
  each = λ k d l.
      let short : k < length sheets = subst (λ n. k < n) (length-map sheets (corrected_sheet class number nav)) l in
      ap (λ s. s.number) (map_get class number nav sheets k d short) ∙ number-kept class number nav (get_or sheets k d) ∙ are.each k d short;
}

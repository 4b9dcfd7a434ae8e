-- What the sheet at hand has of the sheet as it was published.
use Rattle.std.proofs.Common.{List, None, Option, Some, ap, cond, find, is_some, map, option_and_then, false, option_map, refl, sym, true, unwrap_or, ℕ, ◌==◌, ◌∙◌, ◌≡◌}
use Rattle.std.proofs.lemmas.Bool.{true≢false}
use Rattle.fund_calendar.proofs.LookUpLemmas.{list_any-find}
use Rattle.forward_price.proofs.PatchFacts.{numbered-corrected, lists-kept}
use Rattle.forward_price.specs.PriceTables.{corrected_price, sheets_on_trial, price_on, sheet_numbered, with_prices}
use Rattle.forward_price.specs.Sheets.{lists_class, nav_on}
use Rattle.forward_price.specs.declared.price_sheet.Patch.{Patch}
use Rattle.forward_price.specs.declared.price_sheet.Sheet.{Sheet}
use Rattle.household_fold.specs.Facts.{FactsFit, Known, no_sheet, on_trial, sheet_at_hand, sheets_known}

-- the sheet of a number under a correction on trial
pub numbered-patched : (patch : Option Patch) (sheets : List Sheet) (number : ℕ) → sheet_numbered (sheets_on_trial patch sheets) number ≡ option_map (on_trial patch) (sheet_numbered sheets number)
numbered-patched None sheets number = itself (sheet_numbered sheets number)
  where
    itself : (o : Option Sheet) → o ≡ option_map (on_trial None) o
    itself None = refl
    itself (Some s) = refl
numbered-patched (Some patch) sheets number = numbered-corrected patch.class patch.sheet patch.nav number sheets

-- it is the published one with the correction
pub at_hand : (known : Known) (s : Sheet) → Some s ≡ sheet_numbered known.table.sheets known.sheet → sheet_at_hand known ≡ on_trial known.patch s
at_hand known s found =
    ap (λ o. unwrap_or o no_sheet) (numbered-patched known.patch known.table.sheets known.sheet ∙ ap (option_map (on_trial known.patch)) (sym found))

-- there is one
pub at_hand_found : (known : Known) → FactsFit known → sheet_numbered (sheets_known known) known.sheet ≡ Some (sheet_at_hand known)
at_hand_found known fit = by (sheet_numbered (sheets_known known) known.sheet) (ap is_some (numbered-patched known.patch known.table.sheets known.sheet) ∙ kept (sheet_numbered known.table.sheets known.sheet) ∙ fit.sheet)
  where
    kept : (o : Option Sheet) → is_some (option_map (on_trial known.patch) o) ≡ is_some o
    kept None = refl
    kept (Some s) = refl

    by : (o : Option Sheet) → is_some o ≡ true → o ≡ Some (unwrap_or o no_sheet)
    by None e = absurd (true≢false (sym e))
    by (Some s) e = refl

-- the correction leaves all but prices
kept : {X : Type 0} (read : Sheet → X) → ((s : Sheet) (prices : List (ℕ × ℕ)) → read (with_prices s prices) ≡ read s) → (patch : Option Patch) (s : Sheet) → read (on_trial patch s) ≡ read s
kept read stays None s = refl
kept read stays (Some patch) s =
    elim (s.number == patch.sheet) as (λ b. read (cond b (with_prices s (map (corrected_price patch.class patch.nav) s.prices)) s) ≡ read s) [
      | true ↦ stays s (map (corrected_price patch.class patch.nav) s.prices)
      | false ↦ refl
    ]

pub read_at_hand : {X : Type 0} (read : Sheet → X) → ((s : Sheet) (prices : List (ℕ × ℕ)) → read (with_prices s prices) ≡ read s) → (known : Known) (s : Sheet) → Some s ≡ sheet_numbered known.table.sheets known.sheet → read s ≡ read (sheet_at_hand known)
read_at_hand read stays known s found = sym (ap read (at_hand known s found) ∙ kept read stays known.patch s)

pub lists_at_hand : (known : Known) (s : Sheet) (class : ℕ) → Some s ≡ sheet_numbered known.table.sheets known.sheet → lists_class s.prices class ≡ lists_class (sheet_at_hand known).prices class
lists_at_hand known s class found = sym (ap (λ sheet. lists_class sheet.prices class) (at_hand known s found) ∙ same known.patch)
  where
    same : (patch : Option Patch) → lists_class (on_trial patch s).prices class ≡ lists_class s.prices class
    same None = refl
    same (Some patch) = lists-kept patch.class patch.sheet patch.nav class s

-- the price on it
pub price_at_hand : (known : Known) (class : ℕ) → FactsFit known → price_on (sheets_known known) known.sheet class ≡ nav_on (sheet_at_hand known).prices class
price_at_hand known class fit = ap (option_and_then (λ s. nav_on s.prices class)) (at_hand_found known fit)

pub listed_price : (prices : List (ℕ × ℕ)) (class : ℕ) → lists_class prices class ≡ true → is_some (nav_on prices class) ≡ true
listed_price prices class e = some_map (find (λ price. price.0 == class) prices) ∙ sym (list_any-find (λ price. price.0 == class) prices) ∙ e
  where
    some_map : (o : Option (ℕ × ℕ)) → is_some (option_map (λ price. price.1) o) ≡ is_some o
    some_map None = refl
    some_map (Some p) = refl

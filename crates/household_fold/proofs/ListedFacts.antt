-- The prices that the sheet at hand lists.
use Rattle.std.proofs.Common.{All, false, List, None, Option, Some, [], ap, cond, drop, fold, get_or, length, map, refl, subst, sym, true, ℕ, ◌+◌, ◌<◌, ◌==◌, ◌∙◌, ◌∷◌, ◌≡◌}
use Rattle.std.proofs.lemmas.Bool.{eq-eqb, eqb-true}
use Rattle.std.proofs.lemmas.List.{at_drop_more}
use Rattle.std.proofs.lemmas.List.Folds.{list_any_at}
use Rattle.fund_calendar.proofs.LookUpLemmas.{find_passes}
use Rattle.forward_price.specs.PriceTables.{corrected_price, with_prices, sheet_numbered}
use Rattle.forward_price.specs.declared.price_sheet.Patch.{Patch}
use Rattle.forward_price.specs.declared.price_sheet.Sheet.{Sheet}
use Rattle.register_machine.specs.replay.Trades.{Day}
use Rattle.household_fold.specs.Dividends.{class_known, price_on_trial}
use Rattle.household_fold.specs.Facts.{IsListed, Known, on_trial, sheet_at_hand, book_of_facts}
use Rattle.household_fold.specs.Numbers.{AreNumbersWithin}
use Rattle.household_fold.proofs.DividendFacts.{classes-grow}
use Rattle.household_fold.proofs.LotNumbers.{numbers-before}
use Rattle.household_fold.proofs.SheetFacts.{at_hand, lists_at_hand}

map-same : {X : Type 0} (xs : List X) → map (λ x. x) xs ≡ xs
map-same [] = refl
map-same (x ∷ xs) = ap (λ ys. x ∷ ys) (map-same xs)

trial-prices : (patch : Option Patch) (s : Sheet) (number : ℕ) → s.number ≡ number → map (price_on_trial patch number) s.prices ≡ (on_trial patch s).prices
trial-prices None s number same = map-same s.prices
trial-prices (Some patch) s number same =
    elim (s.number == patch.sheet) as (λ b. (s.number == patch.sheet) ≡ b → map (price_on_trial (Some patch) number) s.prices ≡ (cond b (with_prices s (map (corrected_price patch.class patch.nav) s.prices)) s).prices) [
      | true ↦ λ e. ap (λ b. map (λ price. cond b (corrected_price patch.class patch.nav price) price) s.prices) (ap (λ n. n == patch.sheet) (sym same) ∙ e)
      | false ↦ λ e. ap (λ b. map (λ price. cond b (corrected_price patch.class patch.nav price) price) s.prices) (ap (λ n. n == patch.sheet) (sym same) ∙ e) ∙ map-same s.prices
    ] refl

pub prices-at_hand : (known : Known) (s : Sheet) → Some s ≡ sheet_numbered known.table.sheets known.sheet → map (price_on_trial known.patch known.sheet) s.prices ≡ (sheet_at_hand known).prices
prices-at_hand known s found =
    trial-prices known.patch s known.sheet (eqb-true s.number known.sheet (find_passes (λ (sheet : Sheet). sheet.number == known.sheet) known.table.sheets s (sym found)))
    ∙ ap (λ (sheet : Sheet). sheet.prices) (sym (at_hand known s found))

pub all-listed : (known : Known) (s : Sheet) → Some s ≡ sheet_numbered known.table.sheets known.sheet → All (λ price. IsListed known price.0) s.prices
all-listed known s found k d short =
    let class = (get_or s.prices k d).0 in
    sym (lists_at_hand known s class found)
    ∙ list_any_at (λ (price : ℕ × ℕ). price.0 == class) s.prices k d short (eq-eqb class class refl)

-- the fold over the prices of the sheet goes on over the rest of those that were published
pub prices-drop : (known : Known) (f : ℕ × ℕ → ℕ × ℕ) (day : Day) (prices : List (ℕ × ℕ)) (i : ℕ) (price : ℕ × ℕ) → i < length prices
    → fold (class_known known) day (map f (drop i prices)) ≡ fold (class_known known) (class_known known day (f (get_or prices i price))) (map f (drop (i + 1) prices))
prices-drop known f day prices i price short = at_drop_more (λ (rest : List (ℕ × ℕ)). fold (class_known known) day (map f rest)) prices i price short

-- a bound on numbers at the end is one behind the next class
pub numbers-at_price : (known : Known) (f : ℕ × ℕ → ℕ × ℕ) (day later : Day) (prices : List (ℕ × ℕ)) (i : ℕ) (price at : ℕ × ℕ)
    → i < length prices → price ≡ get_or prices i price → at ≡ f price → fold (class_known known) day (map f (drop i prices)) ≡ later
    → AreNumbersWithin later.register → AreNumbersWithin (class_known known day at).register
numbers-at_price known f day later prices i price at short is at_is end within =
    let here : at ≡ f (get_or prices i price) = at_is ∙ ap f is in
    let all = sym end ∙ prices-drop known f day prices i price short in
    let rest = subst (λ (d : Day). AreNumbersWithin d.register) all within in
    let next = class_known known day (f (get_or prices i price)) in
    subst (λ (p : ℕ × ℕ). AreNumbersWithin (class_known known day p).register) (sym here)
    (numbers-before next.register (fold (class_known known) next (map f (drop (i + 1) prices))).register
    (classes-grow (book_of_facts known).rates (sheet_at_hand known) next (map f (drop (i + 1) prices))) rest)

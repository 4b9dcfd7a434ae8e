-- A sheet that comes behind the others, and isn't earlier, changes nothing that they read: no price before their moments, and no
-- order of theirs.
use Rattle.std.proofs.Common.{All, Bool, List, None, Option, Some, [], ap, arith, cond, false, filter, fold, option_map, refl, true, ℕ, ◌&&◌, ◌++◌, ◌==◌, ◌∙◌, ◌∷◌, ◌≡◌, ◌≤◌}
use Rattle.std.proofs.lemmas.List.Elements.{All-head, All-tail, All-weaker, filter_agree}
use Rattle.std.proofs.lemmas.List.Sums.{fold-append}
use Rattle.std.specs.Option.{option_map_or}
use Rattle.std.specs.Prelude.{nat_lt, option_and_then}
use Rattle.agent_events.specs.declared.order.OrderRow.{OrderRow}
use Rattle.forward_price.proofs.PricingFacts.{lt_fact}
use Rattle.forward_price.specs.Choices.{best, best_so_far, found_or_better}
use Rattle.forward_price.specs.PriceTables.{is_before, is_earlier, is_later, next_sheet, price_before, prices_order, sheet_before}
use Rattle.forward_price.specs.Sheets.{lists_class, nav_on}
use Rattle.forward_price.specs.declared.price_sheet.Sheet.{Sheet}
use Rattle.register_laws.proofs.OrdersStanding.{standing_on}
use Rattle.register_laws.proofs.Tests.{is-false}
use Rattle.register_machine.specs.pricing.CorrectedOrders.{stands}
use Rattle.register_machine.specs.pricing.OrderClasses.{classes_in}
use Rattle.register_machine.specs.replay.Replay.{is_priced_on, priced_in}

-- ---- the best of a list with one more

best-more : {X : Type 0} (passes : X → Bool) (better : X → X → Bool) (xs : List X) (x : X) → best passes better (xs ++ x ∷ []) ≡ best_so_far passes better (best passes better xs) x
best-more passes better xs x = fold-append (best_so_far passes better) None xs (x ∷ [])

-- what is found has what all have that pass
abbrev pub HasIfFound : {X : Type 0} → (X → Type 0) → Option X → Type 0
HasIfFound P None = Unit {0}
HasIfFound P (Some x) = P x

pub best-has : {X : Type 0} (P : X → Type 0) (passes : X → Bool) (better : X → X → Bool) (found : Option X) (xs : List X) → All (λ x. passes x ≡ true → P x) xs → HasIfFound P found → HasIfFound P (fold (best_so_far passes better) found xs)
best-has P passes better found [] all fine = fine
best-has {X = X} P passes better found (x ∷ xs) all fine =
    best-has P passes better (best_so_far passes better found x) xs (All-tail (λ x. passes x ≡ true → P x) x xs all) (by (passes x) refl found fine)
  where
    here : passes x ≡ true → P x
    here = All-head (λ x. passes x ≡ true → P x) x xs all

    prefer : passes x ≡ true → (b : Bool) (y : X) → P y → HasIfFound P (cond b (Some x) (Some y))
    prefer is true y fine = here is
    prefer is false y fine = fine

    by : (b : Bool) → passes x ≡ b → (found : Option X) → HasIfFound P found → HasIfFound P (cond b (found_or_better better found x) found)
    by true is None fine = here is
    by true is (Some y) fine = prefer is (better x y) y fine
    by false is found fine = fine

not-before : (a b : ℕ) → b ≤ a → nat_lt a b ≡ false
not-before a b le = is-false (nat_lt a b) (λ is. let less = lt_fact a b is in omega (arith, less, le))

-- one that doesn't pass
passed-over : {X : Type 0} (passes : X → Bool) (better : X → X → Bool) (found : Option X) (x : X) → passes x ≡ false → best_so_far passes better found x ≡ found
passed-over passes better found x off = ap (λ b. cond b (found_or_better better found x) found) off

-- ---- prices before a moment

pub price-before-more : (sheets : List Sheet) (new : Sheet) (class : ℕ) (moment : ℕ) → moment ≤ new.moment → price_before (sheets ++ new ∷ []) class moment ≡ price_before sheets class moment
price-before-more sheets new class moment le =
    ap (λ found. option_and_then (λ (s : Sheet). nav_on s.prices class) found)
    (best-more (is_before class moment) is_later sheets new
    ∙ passed-over (is_before class moment) is_later (sheet_before sheets class moment) new
    (ap (λ b. b && lists_class new.prices class) (not-before new.moment moment le)))

-- ---- the orders of a sheet

-- the number of a sheet that was found
abbrev is_numbered : ℕ → Option Sheet → Bool
is_numbered number found = option_map_or (λ n. n == number) (option_map (λ (sheet : Sheet). sheet.number) found) false

next-more : (sheets : List Sheet) (new : Sheet) (asked : List ℕ) (receipt : ℕ) (number : ℕ) → All (λ (s : Sheet). s.moment ≤ new.moment) sheets → (new.number == number) ≡ false → is_numbered number (next_sheet (sheets ++ new ∷ []) asked receipt) ≡ is_numbered number (next_sheet sheets asked receipt)
next-more sheets new asked receipt number past other =
    ap (is_numbered number) (best-more (prices_order asked receipt) is_earlier sheets new)
    ∙ by (prices_order asked receipt new) (next_sheet sheets asked receipt)
    (best-has (λ (s : Sheet). s.moment ≤ new.moment) (prices_order asked receipt) is_earlier None sheets (All-weaker (λ (s : Sheet). s.moment ≤ new.moment) (λ (s : Sheet). prices_order asked receipt s ≡ true → s.moment ≤ new.moment) (λ s le _. le) sheets past) tt)
  where
    by : (b : Bool) (found : Option Sheet) → HasIfFound (λ (s : Sheet). s.moment ≤ new.moment) found → is_numbered number (cond b (found_or_better is_earlier found new) found) ≡ is_numbered number found
    by true None fine = other
    by true (Some y) fine = ap (λ c. is_numbered number (cond c (Some new) (Some y))) (not-before new.moment y.moment fine)
    by false found fine = refl

pub standing-more : (sheets : List Sheet) (new : Sheet) (number : ℕ) (orders : List OrderRow) → All (λ (s : Sheet). s.moment ≤ new.moment) sheets → (new.number == number) ≡ false → standing_on (sheets ++ new ∷ []) orders number ≡ standing_on sheets orders number
standing-more sheets new number orders past other =
    filter_agree (λ row. is_priced_on number (priced_in (sheets ++ new ∷ []) row)) (λ row. is_priced_on number (priced_in sheets row))
    (λ row. next-more sheets new (classes_in row.order.body) row.receipt number past other)
    (filter stands orders)

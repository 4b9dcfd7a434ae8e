-- The latest net asset value is that of the sheet that was found, under a correction on trial too.
use Rattle.std.proofs.Common.{Bool, List, None, Option, Some, [], ap, arith, cond, false, fold, inl, inr, length, map, option_and_then, option_map, refl, sym, true, unwrap_or, suc, ℕ, ◌+◌, ◌-◌, ◌<◌, ◌∙◌, ◌∷◌, ◌≡◌, ◌⊎◌}
use Rattle.std.specs.List.{slice_get}
use Rattle.std.proofs.lemmas.Bool.{true≢false}
use Rattle.std.specs.Option.{option_map_or}
use Rattle.std.proofs.lemmas.Option.{get_or_from_slice_get, slice_get_within}
use Rattle.forward_price.proofs.NumberFacts.{numbered_at}
use Rattle.forward_price.proofs.PatchFacts.{lists-kept, numbered-corrected}
use Rattle.forward_price.specs.PriceTables.{AreNumbered, sheets_with_nav, corrected_sheet, sheets_on_trial, price_on, sheet_numbered}
use Rattle.forward_price.specs.Sheets.{lists_class, nav_on}
use Rattle.forward_price.specs.declared.price_sheet.Patch.{Patch}
use Rattle.forward_price.specs.declared.price_sheet.Sheet.{Sheet}
use Rattle.register_machine.specs.corrections.Gains.{latest_nav}
use Rattle.register_machine.specs.journal.Choices.{last_of}
use Rattle.register_machine.specs.replay.Trades.{nav_of}

abbrev last_step : {X : Type 0} → (X → Bool) → Option X → X → Option X
last_step test found x = cond (test x) (Some x) found

-- where the last one that passes stands
last-place : {X : Type 0} (test : X → Bool) (xs : List X) (found : Option X) (x : X) → fold (last_step test) found xs ≡ Some x → (found ≡ Some x) ⊎ ((i : ℕ) × (slice_get xs i ≡ Some x))
last-place test [] found x is = inl is
last-place {X} test (y ∷ ys) found x is = by_rest (last-place test ys (last_step test found y) x is)
  where
    here : (b : Bool) → cond b (Some y) found ≡ Some x → (found ≡ Some x) ⊎ ((i : ℕ) × (slice_get (y ∷ ys) i ≡ Some x))
    here true e = inr (0, e)
    here false e = inl e

    by_rest : ((last_step test found y ≡ Some x) ⊎ ((i : ℕ) × (slice_get ys i ≡ Some x))) → (found ≡ Some x) ⊎ ((i : ℕ) × (slice_get (y ∷ ys) i ≡ Some x))
    by_rest (inl e) = here (test y) e
    by_rest (inr (i, e)) = inr (suc i, e)

-- a sheet that is among numbered sheets is found by its number
numbered-place : (sheets : List Sheet) → AreNumbered sheets → (s : Sheet) → ((i : ℕ) × (slice_get sheets i ≡ Some s)) → sheet_numbered sheets s.number ≡ Some s
numbered-place sheets numbered s (i, at) =
    let there : i < length sheets = slice_get_within sheets i s at in
    let number : s.number ≡ i + 1 = ap (λ (x : Sheet). x.number) (sym (get_or_from_slice_get sheets i s s at)) ∙ numbered.each i s there in
    let before : s.number - 1 ≡ i = omega arith in
    sym (numbered_at sheets s.number numbered (omega arith)) ∙ (ap (slice_get sheets) before ∙ at)

latest-found : (sheets : List Sheet) (class : ℕ) → AreNumbered sheets → (s : Sheet) → last_of (λ sheet. lists_class sheet.prices class) sheets ≡ Some s → sheet_numbered sheets s.number ≡ Some s
latest-found sheets class numbered s found =
    numbered-place sheets numbered s (elim (last-place (λ (sheet : Sheet). lists_class sheet.prices class) sheets None s found) [ inl e ↦ absurd (none_some e) | inr at ↦ at ])
  where
    none_some : ◌≡◌ {A = Option Sheet} None (Some s) → ⊥
    none_some e = cc

-- the last one of what is edited where the test stays
last-kept : {X : Type 0} (f : X → X) (test : X → Bool) → ((x : X) → test (f x) ≡ test x) → (xs : List X) (found : Option X) → fold (last_step test) (option_map f found) (map f xs) ≡ option_map f (fold (last_step test) found xs)
last-kept f test kept [] found = refl
last-kept f test kept (x ∷ xs) found =
    ap (λ o. fold (last_step test) o (map f xs)) (one (test (f x)) (test x) (kept x)) ∙ last-kept f test kept xs (last_step test found x)
  where
    one : (a b : Bool) → a ≡ b → cond a (Some (f x)) (option_map f found) ≡ option_map f (cond b (Some x) found)
    one true true e = refl
    one true false e = absurd (true≢false e)
    one false true e = absurd (true≢false (sym e))
    one false false e = refl

abbrev nav_found : ℕ → Option Sheet → ℕ
nav_found class found = option_map_or (λ sheet. nav_of sheet class) found 0

pub nav-by_number : (patch : Option Patch) (sheets : List Sheet) (class : ℕ) → AreNumbered sheets → (s : Sheet) → last_of (λ sheet. lists_class sheet.prices class) sheets ≡ Some s → latest_nav (sheets_on_trial patch sheets) class ≡ unwrap_or (price_on (sheets_on_trial patch sheets) s.number class) 0
nav-by_number None sheets class numbered s found =
    ap (nav_found class) found
    ∙ sym (ap (λ (o : Option Sheet). unwrap_or (option_and_then (λ sheet. nav_on sheet.prices class) o) 0) (latest-found sheets class numbered s found))
nav-by_number (Some patch) sheets class numbered s found =
    let edit = corrected_sheet patch.class patch.sheet patch.nav in
    let latest : last_of (λ sheet. lists_class sheet.prices class) (sheets_with_nav patch.class patch.sheet patch.nav sheets) ≡ Some (edit s) =
    last-kept edit (λ (sheet : Sheet). lists_class sheet.prices class) (lists-kept patch.class patch.sheet patch.nav class) sheets None ∙ ap (option_map edit) found in
    let numbered_so : sheet_numbered (sheets_with_nav patch.class patch.sheet patch.nav sheets) s.number ≡ Some (edit s) =
    numbered-corrected patch.class patch.sheet patch.nav s.number sheets ∙ ap (option_map edit) (latest-found sheets class numbered s found) in
    ap (nav_found class) latest
    ∙ sym (ap (λ (o : Option Sheet). unwrap_or (option_and_then (λ sheet. nav_on sheet.prices class) o) 0) numbered_so)

pub nav-on_none : (patch : Option Patch) (sheets : List Sheet) (class : ℕ) → last_of (λ sheet. lists_class sheet.prices class) sheets ≡ None → latest_nav (sheets_on_trial patch sheets) class ≡ 0
nav-on_none None sheets class found = ap (nav_found class) found
nav-on_none (Some patch) sheets class found =
    let edit = corrected_sheet patch.class patch.sheet patch.nav in
    ap (nav_found class) (last-kept edit (λ (sheet : Sheet). lists_class sheet.prices class) (lists-kept patch.class patch.sheet patch.nav class) sheets None ∙ ap (option_map edit) found)

-- A correction on trial, in the words of the price table.
use Rattle.std.proofs.Common.{◌≡◌, ℕ, Bool, true, false, ◌&&◌, ◌==◌, List, [], ◌∷◌, Option, Some, None, option_map, option_and_then, ◌⊎◌, inl, inr, refl, sym, ap, ◌∙◌}
use Rattle.std.proofs.lemmas.Bool.Decides.{Decides-eqb}
use Rattle.forward_price.specs.declared.price_sheet.Sheet.{Sheet}
use Rattle.forward_price.specs.declared.price_sheet.Patch.{Patch}
use Rattle.forward_price.specs.Sheets.{nav_on}
use Rattle.forward_price.specs.PriceTables.{Table, with_correction, sheet_numbered, price_on, sheets_on_trial, patched_nav, trial_nav}
use Rattle.forward_price.proofs.PatchFacts.{price-patched}

tested : (b : Bool) → (b ≡ true) ⊎ (b ≡ false)
tested true = inl refl
tested false = inr refl

differs : (a b : ℕ) → (a ≡ b → ⊥) → (a == b) ≡ false
differs a b apart = elim (tested (a == b)) [ inl same ↦ absurd (apart ((Decides-eqb a b).0 same)) | inr other ↦ other ]

and_none : (b : Bool) → (b && false) ≡ false
and_none true = refl
and_none false = refl

pub numbered-is : (sheets : List Sheet) (number : ℕ) (s : Sheet) → sheet_numbered sheets number ≡ Some s → s.number ≡ number
numbered-is [] number s e = cc
numbered-is (x ∷ xs) number s e = elim (tested (x.number == number)) [
  | inl here ↦ (let same : x ≡ s = (let f = rw here at e in cc) in ap (λ z. z.number) (sym same) ∙ (Decides-eqb x.number number).0 here)
  | inr apart ↦ numbered-is xs number s (rw apart at e)
]

trial_apart : (patch : Patch) (s : Sheet) (class : ℕ) (o : Option ℕ) → ((s.number == patch.sheet) && (class == patch.class)) ≡ false → option_map (trial_nav (Some patch) s class) o ≡ o
trial_apart patch s class None apart = refl
trial_apart patch s class (Some n) apart = ap Some (rw apart refl)

same_nav : (patch : Patch) (s : Sheet) (class : ℕ) → ((s.number == patch.sheet) && (class == patch.class)) ≡ false → patched_nav (Some patch) s class ≡ nav_on s.prices class
same_nav patch s class apart = trial_apart patch s class (nav_on s.prices class) apart

read_as_is : (patch : Patch) (class number : ℕ) (found : Option Sheet) → ((s : Sheet) → found ≡ Some s → ((s.number == patch.sheet) && (class == patch.class)) ≡ false) → option_and_then (λ s. patched_nav (Some patch) s class) found ≡ option_and_then (λ s. nav_on s.prices class) found
read_as_is patch class number None apart = refl
read_as_is patch class number (Some s) apart = same_nav patch s class (apart s refl)

pub other_class : (patch : Patch) (sheets : List Sheet) (number class : ℕ) → (class ≡ patch.class → ⊥) → price_on (sheets_on_trial (Some patch) sheets) number class ≡ price_on sheets number class
other_class patch sheets number class apart =
    price-patched (Some patch) sheets number class
    ∙ read_as_is patch class number (sheet_numbered sheets number) (λ s e. rw (differs class patch.class apart) (and_none (s.number == patch.sheet)))

pub other_sheet : (patch : Patch) (sheets : List Sheet) (number class : ℕ) → (number ≡ patch.sheet → ⊥) → price_on (sheets_on_trial (Some patch) sheets) number class ≡ price_on sheets number class
other_sheet patch sheets number class apart =
    price-patched (Some patch) sheets number class
    ∙ read_as_is patch class number (sheet_numbered sheets number) (λ s e. rw (differs s.number patch.sheet (λ same. apart (sym (numbered-is sheets number s e) ∙ same))) refl)

pub as_made : (patch : Patch) (t : Table) (number class : ℕ) → price_on (sheets_on_trial (Some patch) t.sheets) number class ≡ price_on (with_correction t patch.class patch.sheet patch.nav).sheets number class
as_made patch t number class = refl

-- A complete list of an expected sheet isn't empty.
use Rattle.std.proofs.Common.{◌≡◌, ℕ, suc, ◌<◌, Bool, true, false, cond, not, ◌&&◌, ◌||◌, ◌==◌, nat_lt, List, [], ◌∷◌, ◌++◌, length, Some, None, All, Contains, ◌⊎◌, inl, inr, refl, sym, subst, ◌∙◌, ap, arith}
use Rattle.std.specs.List.{list_any}
use Rattle.std.proofs.lemmas.Bool.{and_parts, true≢false}
use Rattle.std.proofs.lemmas.Bool.Decides.{Decides-eqb}
use Rattle.std.proofs.lemmas.List.Elements.{All-contains, Contains-append_left}
use Rattle.forward_price.specs.declared.price_sheet.Opening.{Opening}
use Rattle.forward_price.specs.Sheets.{lists_class}
use Rattle.forward_price.specs.Choices.{IsChoice}
use Rattle.forward_price.specs.PriceTables.{Table, is_sheet_at}
use Rattle.forward_price.specs.Turns.{is_offered_at, must_list, is_wrong, class_numbers, price_numbers, wrong_class, is_awaited, is_sooner, expected_of, pricing_pairs}
use Rattle.forward_price.proofs.ChoiceFacts.{best-choice, or_true}
use Rattle.forward_price.proofs.TurnFacts.{less-order, sooner-order}

tested : (b : Bool) → (b ≡ true) ⊎ (b ≡ false)
tested true = inl refl
tested false = inr refl

-- a class of the calendar that was opened before the moment must be listed
offered_class : (calendar : ℕ) (moment : ℕ) (classes : List Opening) → list_any (is_offered_at calendar moment) classes ≡ true → (n : ℕ) × (Contains (class_numbers classes) n) × (must_list classes calendar moment n ≡ true)
offered_class calendar moment [] e = absurd (true≢false (sym e))
offered_class calendar moment (x ∷ xs) e = elim (tested (is_offered_at calendar moment x)) [
  | inl here ↦ (x.class, (0, omega arith, refl), rw ((Decides-eqb x.class x.class).1 refl, here) refl)
  | inr apart ↦
      let rest = offered_class calendar moment xs (rw apart at e) in
      (rest.0, (suc rest.1.0, omega (arith, rest.1.1), rest.1.2), ap (λ b. ((x.class == rest.0) && is_offered_at calendar moment x) || b) rest.2 ∙ or_true ((x.class == rest.0) && is_offered_at calendar moment x))
]

-- none is wrong
pub none_wrong : (classes : List Opening) (calendar : ℕ) (moment : ℕ) (prices : List (ℕ × ℕ)) → wrong_class classes calendar moment prices ≡ None → All (λ number. is_wrong classes calendar moment prices number ≡ false) (class_numbers classes ++ price_numbers prices)
none_wrong classes calendar moment prices e =
    subst (IsChoice (is_wrong classes calendar moment prices) nat_lt (class_numbers classes ++ price_numbers prices)) e
    (best-choice (is_wrong classes calendar moment prices) nat_lt less-order (class_numbers classes ++ price_numbers prices))

listed_then : (prices : List (ℕ × ℕ)) (n : ℕ) (must : Bool) → must ≡ true → cond (lists_class prices n) (not must) must ≡ false → 0 < length prices
listed_then [] n must t e = absurd (true≢false (sym t ∙ e))
listed_then (p ∷ ps) n must t e = omega arith

-- what is expected was offered
expected_offered : (t : Table) (pair : ℕ × ℕ) → expected_of t ≡ Some pair → list_any (is_offered_at pair.1 pair.0) t.classes ≡ true
expected_offered t pair e =
    let is = subst (IsChoice (is_awaited t.classes t.sheets) is_sooner (pricing_pairs t.calendars)) e (best-choice (is_awaited t.classes t.sheets) is_sooner sooner-order (pricing_pairs t.calendars)) in
    (and_parts (list_any (is_offered_at pair.1 pair.0) t.classes) (not (list_any (is_sheet_at pair.1 pair.0) t.sheets)) is.here).0

pub some_listed : (t : Table) (calendar : ℕ) (moment : ℕ) (prices : List (ℕ × ℕ)) → expected_of t ≡ Some (moment, calendar) → wrong_class t.classes calendar moment prices ≡ None → 0 < length prices
some_listed t calendar moment prices expected complete =
    let offered = offered_class calendar moment t.classes (expected_offered t (moment, calendar) expected) in
    let right = none_wrong t.classes calendar moment prices complete in
    let fine = All-contains (λ number. is_wrong t.classes calendar moment prices number ≡ false) (class_numbers t.classes ++ price_numbers prices) offered.0 right (Contains-append_left (class_numbers t.classes) (price_numbers prices) offered.0 offered.1) in
    listed_then prices offered.0 (must_list t.classes calendar moment offered.0) offered.2 fine

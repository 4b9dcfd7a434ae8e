-- What keeps a price book orderly, and what leaves the sheet of a priced order as it is.
use Rattle.std.proofs.Common.{nat_lt, ◌≡◌, ℕ, zero, suc, ◌-◌, ◌<◌, ◌≤◌, Bool, true, false, cond, not, ◌&&◌, ◌==◌, List, [], ◌∷◌, ◌++◌, length, take, Option, Some, None, option_map, All, Contains, ◌⊎◌, inl, inr, refl, sym, ap, subst, ◌∙◌, arith, length-append}
use Rattle.std.proofs.lemmas.Bool.{and_parts, true≢false}
use Rattle.std.proofs.lemmas.Bool.Decides.{Decides-eqb}
use Rattle.std.proofs.lemmas.List.Sums.{fold-append}
use Rattle.std.proofs.lemmas.List.Elements.{All-contains, Contains-append_left, Contains-append_right}
use Rattle.forward_price.specs.declared.price_sheet.Opening.{Opening}
use Rattle.forward_price.specs.declared.price_sheet.Sheet.{Sheet}
use Rattle.forward_price.specs.Sheets.{lists_class, lists_all}
use Rattle.forward_price.specs.Choices.{IsBest, IsChoice, best_so_far}
use Rattle.forward_price.specs.PriceTables.{Table, prices_order, is_earlier, next_sheet, NextPrice, sheet_published, with_published, sheets_with_nav, corrected_sheet}
use Rattle.forward_price.specs.Turns.{pricing_pairs, is_awaited, is_wrong, class_numbers, price_numbers, must_list, wrong_class}
use Rattle.forward_price.specs.Orderly.{IsOrderly, IsInTurn}
use Rattle.forward_price.proofs.ChoiceFacts.{best-choice}
use Rattle.forward_price.proofs.TurnFacts.{less-order, expected_best}
use Rattle.forward_price.proofs.CompleteFacts.{none_wrong}
use Rattle.forward_price.proofs.PricingFacts.{next_sheet-next, lt_fact}
use Rattle.forward_price.proofs.PatchFacts.{best-kept, number-kept, moment-kept, lists-kept}
use Rattle.forward_price.proofs.OrderlyFacts.{all_to, same_opening, must_opening, listed_opening, first_asked}

tested : (b : Bool) → (b ≡ true) ⊎ (b ≡ false)
tested true = inl refl
tested false = inr refl

-- a complete list names the classes that must be named, and no others
named : (prices : List (ℕ × ℕ)) (n : ℕ) → lists_class prices n ≡ true → Contains (price_numbers prices) n
named [] n e = absurd (true≢false (sym e))
named (p ∷ ps) n e = elim (tested (p.0 == n)) [
  | inl here ↦ (0, omega arith, (Decides-eqb p.0 n).0 here)
  | inr apart ↦ (let rest = named ps n (rw apart at e) in (suc rest.0, omega (arith, rest.1), rest.2))
]

classed : (classes : List Opening) (x : Opening) → Contains classes x → Contains (class_numbers classes) x.class
classed [] x (k, l, e) = absurd (omega arith)
classed (y ∷ ys) x (zero, l, e) = (0, omega arith, ap (λ o. o.class) e)
classed (y ∷ ys) x (suc k, l, e) = (let rest = classed ys x (k, omega arith, e) in (suc rest.0, omega (arith, rest.1), rest.2))

right_then : (lists must : Bool) → cond lists (not must) must ≡ false → lists ≡ must
right_then true true e = refl
right_then true false e = absurd (true≢false e)
right_then false true e = absurd (true≢false e)
right_then false false e = refl

pub complete_all : (classes : List Opening) (calendar : ℕ) (moment : ℕ) (prices : List (ℕ × ℕ)) → wrong_class classes calendar moment prices ≡ None → (n : ℕ) → lists_class prices n ≡ must_list classes calendar moment n
complete_all classes calendar moment prices e n = elim (tested (lists_class prices n)) [
  | inl lists ↦ right (Contains-append_right (class_numbers classes) (price_numbers prices) n (named prices n lists))
  | inr passes ↦ elim (tested (must_list classes calendar moment n)) [
    | inl must ↦ right (Contains-append_left (class_numbers classes) (price_numbers prices) n (let x = must_opening classes calendar moment n must in subst (Contains (class_numbers classes)) x.2 (classed classes x.0 x.1)))
    | inr free ↦ passes ∙ sym free
  ]
]
  where
    right : Contains (class_numbers classes ++ price_numbers prices) n → lists_class prices n ≡ must_list classes calendar moment n
    right in' = right_then (lists_class prices n) (must_list classes calendar moment n) (All-contains (λ number. is_wrong classes calendar moment prices number ≡ false) (class_numbers classes ++ price_numbers prices) n (none_wrong classes calendar moment prices e) in')

wrong_choice : (classes : List Opening) (calendar : ℕ) (moment : ℕ) (prices : List (ℕ × ℕ)) → IsChoice (is_wrong classes calendar moment prices) nat_lt (class_numbers classes ++ price_numbers prices) (wrong_class classes calendar moment prices)
wrong_choice classes calendar moment prices = best-choice (is_wrong classes calendar moment prices) nat_lt less-order (class_numbers classes ++ price_numbers prices)

pub least_wrong : (classes : List Opening) (calendar : ℕ) (moment : ℕ) (prices : List (ℕ × ℕ)) (class : ℕ) → wrong_class classes calendar moment prices ≡ Some class → IsBest (is_wrong classes calendar moment prices) nat_lt (class_numbers classes ++ price_numbers prices) class
least_wrong classes calendar moment prices class e =
    subst (IsChoice (is_wrong classes calendar moment prices) nat_lt (class_numbers classes ++ price_numbers prices)) e (wrong_choice classes calendar moment prices)

fine_then : (lists must : Bool) → lists ≡ must → cond lists (not must) must ≡ true → ⊥
fine_then true true e f = true≢false (sym f)
fine_then true false e f = true≢false e
fine_then false true e f = true≢false (sym e)
fine_then false false e f = true≢false (sym f)

pub none_wrong_from : (classes : List Opening) (calendar : ℕ) (moment : ℕ) (prices : List (ℕ × ℕ)) → ((n : ℕ) → lists_class prices n ≡ must_list classes calendar moment n) → wrong_class classes calendar moment prices ≡ None
none_wrong_from classes calendar moment prices fine = go (wrong_class classes calendar moment prices) refl
  where
    go : (o : Option ℕ) → wrong_class classes calendar moment prices ≡ o → o ≡ None
    go None e = refl
    go (Some n) e = absurd (fine_then (lists_class prices n) (must_list classes calendar moment n) (fine n) (least_wrong classes calendar moment prices n e).here)

-- a later sheet leaves the sheet of a priced order as it is
later_stays : (t : Table) (calendar : ℕ) (moment : ℕ) (prices : List (ℕ × ℕ)) (asked : List ℕ) (receipt : ℕ) (s : Sheet) → IsOrderly t → IsInTurn t calendar moment prices → 0 < length asked → NextPrice t.sheets asked receipt s → lists_all prices asked ≡ true → nat_lt moment s.moment ≡ true → ⊥
later_stays t calendar moment prices asked receipt s orderly turn some next lists earlier =
    let a = first_asked asked some in
    let is = expected_best t (moment, calendar) turn.expected in
    let x = listed_opening t s a.0 orderly next.among (all_to (λ class. lists_class s.prices class) asked a.0 next.lists a.1) in
    let y = must_opening t.classes calendar moment a.0 (sym (complete_all t.classes calendar moment prices turn.complete a.0) ∙ all_to (λ class. lists_class prices class) asked a.0 lists a.1) in
    let same = same_opening t.classes y.0 x.0 orderly.classes_differ y.1 x.1 (y.2 ∙ sym x.2) in
    let of : calendar ≡ s.calendar = sym y.3 ∙ ap (λ o. o.calendar) same ∙ x.3 in
    let passed = All-contains (λ sheet. All (λ pair. pair.1 ≡ sheet.calendar → pair.0 ≤ sheet.moment → is_awaited t.classes t.sheets pair ≡ false) (pricing_pairs t.calendars)) t.sheets s orderly.none_passed next.among in
    let upto : moment ≤ s.moment = (let less = lt_fact moment s.moment earlier in omega arith) in
    let not_awaited = All-contains (λ pair. pair.1 ≡ s.calendar → pair.0 ≤ s.moment → is_awaited t.classes t.sheets pair ≡ false) (pricing_pairs t.calendars) (moment, calendar) passed is.among of upto in
    true≢false (sym is.here ∙ not_awaited)

stays_by : (asked : List ℕ) (receipt : ℕ) (s p : Sheet) → (lists_all p.prices asked ≡ true → nat_lt p.moment s.moment ≡ true → ⊥) → best_so_far (prices_order asked receipt) is_earlier (Some s) p ≡ Some s
stays_by asked receipt s p never = elim (tested (prices_order asked receipt p)) [
  | inl passes ↦ rw passes (
      elim (tested (is_earlier p s)) [
        | inl earlier ↦ absurd (never (and_parts (nat_lt receipt p.moment) (lists_all p.prices asked) passes).1 earlier)
        | inr later ↦ rw later refl
      ])
  | inr fails ↦ rw fails refl
]

pub priced_stays : (t : Table) (calendar : ℕ) (moment : ℕ) (prices : List (ℕ × ℕ)) (asked : List ℕ) (receipt : ℕ) (s : Sheet) → IsOrderly t → IsInTurn t calendar moment prices → 0 < length asked → next_sheet t.sheets asked receipt ≡ Some s → next_sheet (with_published t calendar moment prices).sheets asked receipt ≡ Some s
priced_stays t calendar moment prices asked receipt s orderly turn some e =
    let p = sheet_published t calendar moment prices in
    fold-append (best_so_far (prices_order asked receipt) is_earlier) None t.sheets (p ∷ [])
    ∙ ap (λ found. best_so_far (prices_order asked receipt) is_earlier found p) e
    ∙ stays_by asked receipt s p (later_stays t calendar moment prices asked receipt s orderly turn some (next_sheet-next t.sheets asked receipt s e))

-- a correction leaves the number of the sheet as it is
same_lists : (class number nav : ℕ) (asked : List ℕ) (s : Sheet) → lists_all (corrected_sheet class number nav s).prices asked ≡ lists_all s.prices asked
same_lists class number nav [] s = refl
same_lists class number nav (a ∷ more) s =
    ap (λ b. b && lists_all (corrected_sheet class number nav s).prices more) (lists-kept class number nav a s)
    ∙ ap (λ b. lists_class s.prices a && b) (same_lists class number nav more s)

same_number : (class number nav : ℕ) (found : Option Sheet) → option_map (λ sheet. sheet.number) (option_map (corrected_sheet class number nav) found) ≡ option_map (λ sheet. sheet.number) found
same_number class number nav None = refl
same_number class number nav (Some s) = ap Some (number-kept class number nav s)

pub corrected_stays : (class number nav : ℕ) (sheets : List Sheet) (asked : List ℕ) (receipt : ℕ) → option_map (λ sheet. sheet.number) (next_sheet (sheets_with_nav class number nav sheets) asked receipt) ≡ option_map (λ sheet. sheet.number) (next_sheet sheets asked receipt)
corrected_stays class number nav sheets asked receipt =
    ap (option_map (λ sheet. sheet.number))
    (best-kept (corrected_sheet class number nav) (prices_order asked receipt) is_earlier
    (λ s. ap (λ m. nat_lt receipt m && lists_all (corrected_sheet class number nav s).prices asked) (moment-kept class number nav s) ∙ ap (λ b. nat_lt receipt s.moment && b) (same_lists class number nav asked s))
    (λ s u. ap (λ m. nat_lt m (corrected_sheet class number nav u).moment) (moment-kept class number nav s) ∙ ap (λ m. nat_lt s.moment m) (moment-kept class number nav u)) sheets)
    ∙ same_number class number nav (next_sheet sheets asked receipt)

-- the last sheet is taken back whole
take_back : {X : Type 0} (xs : List X) (x : X) → take (length (xs ++ x ∷ []) - 1) (xs ++ x ∷ []) ≡ xs
take_back [] x = refl
take_back (y ∷ ys) x =
    let long : length ((y ∷ ys) ++ x ∷ []) - 1 ≡ suc (length (ys ++ x ∷ []) - 1) = omega (arith, length-append ys (x ∷ [])) in
    ap (λ n. take n (y ∷ (ys ++ x ∷ []))) long ∙ ap (λ rest. y ∷ rest) (take_back ys x)

pub published_back : (sheets : List Sheet) (p : Sheet) → take (length (sheets ++ p ∷ []) - 1) (sheets ++ p ∷ []) ≡ sheets
published_back sheets p = take_back sheets p

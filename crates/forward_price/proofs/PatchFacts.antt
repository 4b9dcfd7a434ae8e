-- A correction on trial is read for its class and sheet alone.
use Rattle.std.proofs.Common.{◌≡◌, ℕ, nat_lt, ◌<◌, Bool, true, false, cond, not, ◌&&◌, ◌||◌, ◌==◌, List, [], ◌∷◌, map, fold, find, Option, Some, None, option_map, option_and_then, refl, sym, ap, ◌∙◌, inl, inr, ◌⊎◌, length}
use Rattle.std.specs.List.{list_any}
use Rattle.std.proofs.lemmas.List.Elements.{All-weaker}
use Rattle.fund_calendar.specs.PricingDays.{Listing}
use Rattle.forward_price.specs.declared.price_sheet.Opening.{Opening}
use Rattle.forward_price.specs.Turns.{NoneAwaitedTo, is_awaited, is_offered_at, pricing_pairs}
use Rattle.std.proofs.lemmas.List.{length-map}
use Rattle.std.proofs.lemmas.Bool.Decides.{Decides-eqb}
use Rattle.forward_price.specs.declared.price_sheet.Sheet.{Sheet}
use Rattle.forward_price.specs.declared.price_sheet.Patch.{Patch}
use Rattle.forward_price.specs.Sheets.{nav_on, lists_class}
use Rattle.forward_price.specs.Choices.{best_so_far, best}
use Rattle.forward_price.specs.PriceTables.{is_sheet_at, corrected_price, with_prices, corrected_sheet, sheets_with_nav, sheets_on_trial, patched_nav, sheet_numbered, sheet_before, is_before, is_later, price_on, price_before}

tested : (b : Bool) → (b ≡ true) ⊎ (b ≡ false)
tested true = inl refl
tested false = inr refl

same_number : (a b : ℕ) → (a == b) ≡ true → a ≡ b
same_number a b e = (Decides-eqb a b).0 e

-- the class of a price stays
price-class : (class nav : ℕ) (price : ℕ × ℕ) → (corrected_price class nav price).0 ≡ price.0
price-class class nav price = elim (price.0 == class) as (λ b. (cond b (price.0, nav) price).0 ≡ price.0) [ true ↦ refl | false ↦ refl ]

price-nav : (class nav asked : ℕ) (price : ℕ × ℕ) → price.0 ≡ asked → (corrected_price class nav price).1 ≡ cond (asked == class) nav price.1
price-nav class nav asked price e =
    rw (← e) (elim (price.0 == class) as (λ b. (cond b (price.0, nav) price).1 ≡ cond b nav price.1) [ true ↦ refl | false ↦ refl ])

pub nav_on-corrected : (class nav asked : ℕ) (prices : List (ℕ × ℕ)) → nav_on (map (corrected_price class nav) prices) asked ≡ option_map (λ n. cond (asked == class) nav n) (nav_on prices asked)
nav_on-corrected class nav asked [] = refl
nav_on-corrected class nav asked (p ∷ ps) =
    elim (tested (p.0 == asked)) [
      | inl here ↦ rw (price-class class nav p, here) (ap Some (price-nav class nav asked p (same_number p.0 asked here)))
      | inr apart ↦ rw (price-class class nav p, apart) (nav_on-corrected class nav asked ps)
    ]

lists_class-corrected : (class nav asked : ℕ) (prices : List (ℕ × ℕ)) → lists_class (map (corrected_price class nav) prices) asked ≡ lists_class prices asked
lists_class-corrected class nav asked [] = refl
lists_class-corrected class nav asked (p ∷ ps) =
    rw (price-class class nav p) (ap (λ b. (p.0 == asked) || b) (lists_class-corrected class nav asked ps))

-- what of a sheet stays
sheet-kept : {X : Type 0} (read : Sheet → X) → ((s : Sheet) (prices : List (ℕ × ℕ)) → read (with_prices s prices) ≡ read s) → (class number nav : ℕ) (s : Sheet) → read (corrected_sheet class number nav s) ≡ read s
sheet-kept read stays class number nav s =
    elim (s.number == number) as (λ b. read (cond b (with_prices s (map (corrected_price class nav) s.prices)) s) ≡ read s) [
      | true ↦ stays s (map (corrected_price class nav) s.prices)
      | false ↦ refl
    ]

pub number-kept : (class number nav : ℕ) (s : Sheet) → (corrected_sheet class number nav s).number ≡ s.number
number-kept = sheet-kept (λ s. s.number) (λ s prices. refl)

pub moment-kept : (class number nav : ℕ) (s : Sheet) → (corrected_sheet class number nav s).moment ≡ s.moment
moment-kept = sheet-kept (λ s. s.moment) (λ s prices. refl)

pub calendar-kept : (class number nav : ℕ) (s : Sheet) → (corrected_sheet class number nav s).calendar ≡ s.calendar
calendar-kept = sheet-kept (λ s. s.calendar) (λ s prices. refl)

pub lists-kept : (class number nav asked : ℕ) (s : Sheet) → lists_class (corrected_sheet class number nav s).prices asked ≡ lists_class s.prices asked
lists-kept class number nav asked s =
    elim (s.number == number) as (λ b. lists_class (cond b (with_prices s (map (corrected_price class nav) s.prices)) s).prices asked ≡ lists_class s.prices asked) [
      | true ↦ lists_class-corrected class nav asked s.prices
      | false ↦ refl
    ]

pub length-kept : (class number nav : ℕ) (s : Sheet) → length (corrected_sheet class number nav s).prices ≡ length s.prices
length-kept class number nav s =
    elim (s.number == number) as (λ b. length (cond b (with_prices s (map (corrected_price class nav) s.prices)) s).prices ≡ length s.prices) [
      | true ↦ length-map s.prices (corrected_price class nav)
      | false ↦ refl
    ]

-- the net asset value on a corrected sheet
nav-patched : (patch : Patch) (s : Sheet) (class : ℕ) → nav_on (corrected_sheet patch.class patch.sheet patch.nav s).prices class ≡ option_map (λ n. cond ((s.number == patch.sheet) && (class == patch.class)) patch.nav n) (nav_on s.prices class)
nav-patched patch s class =
    elim (s.number == patch.sheet) as (λ b. nav_on (cond b (with_prices s (map (corrected_price patch.class patch.nav) s.prices)) s).prices class ≡ option_map (λ n. cond (b && (class == patch.class)) patch.nav n) (nav_on s.prices class)) [
      | true ↦ nav_on-corrected patch.class patch.nav class s.prices
      | false ↦ sym (itself (nav_on s.prices class))
    ]
  where
    itself : (o : Option ℕ) → option_map (λ n. n) o ≡ o
    itself None = refl
    itself (Some n) = refl

-- a search by what stays
find-kept : {X : Type 0} (f : X → X) (p : X → Bool) → ((x : X) → p (f x) ≡ p x) → (xs : List X) → find p (map f xs) ≡ option_map f (find p xs)
find-kept f p kept [] = refl
find-kept f p kept (x ∷ xs) =
    rw (kept x) (elim (p x) as (λ b. cond b (Some (f x)) (find p (map f xs)) ≡ option_map f (cond b (Some x) (find p xs))) [ true ↦ refl | false ↦ find-kept f p kept xs ])

-- a choice by what stays
considered-kept : {X : Type 0} (f : X → X) (p : X → Bool) (better : X → X → Bool) → ((x : X) → p (f x) ≡ p x) → ((x y : X) → better (f x) (f y) ≡ better x y) → (found : Option X) (x : X) → best_so_far p better (option_map f found) (f x) ≡ option_map f (best_so_far p better found x)
considered-kept f p better kept ranks None x =
    rw (kept x) (elim (p x) as (λ b. cond b (Some (f x)) None ≡ option_map f (cond b (Some x) None)) [ true ↦ refl | false ↦ refl ])
considered-kept f p better kept ranks (Some t) x =
    rw (kept x, ranks x t) (elim (p x) as (λ b. cond b (cond (better x t) (Some (f x)) (Some (f t))) (Some (f t)) ≡ option_map f (cond b (cond (better x t) (Some x) (Some t)) (Some t))) [
      | true ↦ (elim (better x t) as (λ b. cond b (Some (f x)) (Some (f t)) ≡ option_map f (cond b (Some x) (Some t))) [ true ↦ refl | false ↦ refl ])
      | false ↦ refl
    ])

fold-kept : {X : Type 0} (f : X → X) (p : X → Bool) (better : X → X → Bool) → ((x : X) → p (f x) ≡ p x) → ((x y : X) → better (f x) (f y) ≡ better x y) → (xs : List X) (found : Option X) → fold (best_so_far p better) (option_map f found) (map f xs) ≡ option_map f (fold (best_so_far p better) found xs)
fold-kept f p better kept ranks [] found = refl
fold-kept f p better kept ranks (x ∷ xs) found =
    ap (λ o. fold (best_so_far p better) o (map f xs)) (considered-kept f p better kept ranks found x) ∙ fold-kept f p better kept ranks xs (best_so_far p better found x)

pub best-kept : {X : Type 0} (f : X → X) (p : X → Bool) (better : X → X → Bool) → ((x : X) → p (f x) ≡ p x) → ((x y : X) → better (f x) (f y) ≡ better x y) → (xs : List X) → best p better (map f xs) ≡ option_map f (best p better xs)
best-kept f p better kept ranks xs = fold-kept f p better kept ranks xs None

pub numbered-corrected : (class number nav asked : ℕ) (sheets : List Sheet) → sheet_numbered (sheets_with_nav class number nav sheets) asked ≡ option_map (corrected_sheet class number nav) (sheet_numbered sheets asked)
numbered-corrected class number nav asked sheets =
    find-kept (corrected_sheet class number nav) (λ s. s.number == asked) (λ s. ap (λ n. n == asked) (number-kept class number nav s)) sheets

before-kept : (class number nav asked : ℕ) (moment : ℕ) (s : Sheet) → is_before asked moment (corrected_sheet class number nav s) ≡ is_before asked moment s
before-kept class number nav asked moment s =
    ap (λ m. nat_lt m moment && lists_class (corrected_sheet class number nav s).prices asked) (moment-kept class number nav s)
    ∙ ap (λ b. nat_lt s.moment moment && b) (lists-kept class number nav asked s)

later-kept : (class number nav : ℕ) (s t : Sheet) → is_later (corrected_sheet class number nav s) (corrected_sheet class number nav t) ≡ is_later s t
later-kept class number nav s t =
    ap (λ m. nat_lt (corrected_sheet class number nav t).moment m) (moment-kept class number nav s)
    ∙ ap (λ m. nat_lt m s.moment) (moment-kept class number nav t)

pub before-corrected : (class number nav asked : ℕ) (moment : ℕ) (sheets : List Sheet) → sheet_before (sheets_with_nav class number nav sheets) asked moment ≡ option_map (corrected_sheet class number nav) (sheet_before sheets asked moment)
before-corrected class number nav asked moment sheets =
    best-kept (corrected_sheet class number nav) (is_before asked moment) is_later (before-kept class number nav asked moment) (later-kept class number nav) sheets

-- the price of what was found under the correction
read_patched : (patch : Patch) (class : ℕ) (found : Option Sheet) → option_and_then (λ s. nav_on s.prices class) (option_map (corrected_sheet patch.class patch.sheet patch.nav) found) ≡ option_and_then (λ s. patched_nav (Some patch) s class) found
read_patched patch class None = refl
read_patched patch class (Some s) = nav-patched patch s class

read_plain : (class : ℕ) (found : Option Sheet) → option_and_then (λ s. nav_on s.prices class) found ≡ option_and_then (λ s. patched_nav None s class) found
read_plain class None = refl
read_plain class (Some s) = itself (nav_on s.prices class)
  where
    itself : (o : Option ℕ) → o ≡ option_map (λ n. n) o
    itself None = refl
    itself (Some n) = refl

pub price-patched : (patch : Option Patch) (sheets : List Sheet) (number class : ℕ) → price_on (sheets_on_trial patch sheets) number class ≡ option_and_then (λ s. patched_nav patch s class) (sheet_numbered sheets number)
price-patched None sheets number class = read_plain class (sheet_numbered sheets number)
price-patched (Some patch) sheets number class =
    ap (option_and_then (λ s. nav_on s.prices class)) (numbered-corrected patch.class patch.sheet patch.nav number sheets)
    ∙ read_patched patch class (sheet_numbered sheets number)

pub before-patched : (patch : Option Patch) (sheets : List Sheet) (class : ℕ) (moment : ℕ) → price_before (sheets_on_trial patch sheets) class moment ≡ option_and_then (λ s. patched_nav patch s class) (sheet_before sheets class moment)
before-patched None sheets class moment = read_plain class (sheet_before sheets class moment)
before-patched (Some patch) sheets class moment =
    ap (option_and_then (λ s. nav_on s.prices class)) (before-corrected patch.class patch.sheet patch.nav class moment sheets)
    ∙ read_patched patch class (sheet_before sheets class moment)

at-kept : (class number nav calendar : ℕ) (moment : ℕ) (s : Sheet) → is_sheet_at calendar moment (corrected_sheet class number nav s) ≡ is_sheet_at calendar moment s
at-kept class number nav calendar moment s =
    ap (λ c. (c == calendar) && ((corrected_sheet class number nav s).moment == moment)) (calendar-kept class number nav s)
    ∙ ap (λ m. (s.calendar == calendar) && (m == moment)) (moment-kept class number nav s)

published-kept : (class number nav calendar : ℕ) (moment : ℕ) (sheets : List Sheet) → list_any (is_sheet_at calendar moment) (sheets_with_nav class number nav sheets) ≡ list_any (is_sheet_at calendar moment) sheets
published-kept class number nav calendar moment [] = refl
published-kept class number nav calendar moment (s ∷ ss) =
    ap (λ b. b || list_any (is_sheet_at calendar moment) (sheets_with_nav class number nav ss)) (at-kept class number nav calendar moment s)
    ∙ ap (λ b. is_sheet_at calendar moment s || b) (published-kept class number nav calendar moment ss)

pub awaited-kept : (class number nav : ℕ) (classes : List Opening) (sheets : List Sheet) (pair : ℕ × ℕ) → is_awaited classes (sheets_with_nav class number nav sheets) pair ≡ is_awaited classes sheets pair
awaited-kept class number nav classes sheets pair =
    ap (λ b. list_any (is_offered_at pair.1 pair.0) classes && not b) (published-kept class number nav pair.1 pair.0 sheets)

pub none_awaited-kept : (class number nav : ℕ) (calendars : List Listing) (classes : List Opening) (sheets : List Sheet) (passed : ℕ) → NoneAwaitedTo calendars classes sheets passed → NoneAwaitedTo calendars classes (sheets_with_nav class number nav sheets) passed
none_awaited-kept class number nav calendars classes sheets passed none = record {
  later = All-weaker (λ pair. is_awaited classes sheets pair ≡ true → passed < pair.0) (λ pair. is_awaited classes (sheets_with_nav class number nav sheets) pair ≡ true → passed < pair.0) (λ pair h now. h (sym (awaited-kept class number nav classes sheets pair) ∙ now)) (pricing_pairs calendars) none.later;
}

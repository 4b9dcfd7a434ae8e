-- The expected sheet: the least awaited pair, calendar by calendar.
use Rattle.std.proofs.Common.{◌≡◌, ℕ, zero, suc, ◌+◌, ◌<◌, ◌≤◌, ◌-◌, ◌==◌, nat_lt, Bool, true, false, cond, not, ◌&&◌, ◌||◌, List, [], ◌∷◌, ◌++◌, map, take, length, get_or, find, Option, Some, None, IfSome, IfNone, All, Contains, ◌⊎◌, inl, inr, refl, sym, ap, subst, ◌∙◌, arith, append-nil, option_map, option_and_then}
use Rattle.std.proofs.lemmas.Bool.{cases_lt, ltb-true, ltb-false, and_parts, and_from, true≢false}
use Rattle.std.proofs.lemmas.Bool.Decides.{nat_tests, Decides-eqb, Decides-ltb}
use Rattle.std.proofs.lemmas.List.{take_more}
use Rattle.std.proofs.lemmas.List.Elements.{All-map, All-weaker}
use Rattle.std.specs.List.{list_any}
use Rattle.std.proofs.lemmas.List.Folds.{list_any-append}
use Rattle.std.proofs.lemmas.Grind.{flat_map-append}
use Rattle.fund_calendar.proofs.ListFacts.{All-left, All-right, All-unmap}
use Rattle.fund_calendar.specs.declared.pricing_day.PricingDay.{PricingDay}
use Rattle.fund_calendar.specs.PricingDays.{Listing, first_above, IsLeastAbove, HasNoneAbove}
use Rattle.forward_price.specs.declared.price_sheet.Opening.{Opening}
use Rattle.forward_price.specs.declared.price_sheet.Sheet.{Sheet}
use Rattle.forward_price.specs.Choices.{IsBest, IsChoice, best}
use Rattle.forward_price.specs.PriceTables.{Table, is_sheet_at, is_earlier, is_later}
use Rattle.forward_price.specs.Turns.{is_due, calendar_in, due_on, due_of, moments_of, IsDue, NoneDue, NoneAwaitedTo, is_offered_at, is_awaited, is_sooner, pricing_pair, pairs_of, pricing_pairs, expected_of, IsExpected, NoneExpected}
use Rattle.forward_price.proofs.ChoiceFacts.{IsOrder, IsTotal, best-choice, same_choice}

nat_apart : (a b : ℕ) → nat_lt a b ≡ true → nat_lt b a ≡ false
nat_apart a b h = grind (arith, nat_tests)

nat_behind : (a b c : ℕ) → nat_lt a b ≡ false → nat_lt b c ≡ false → nat_lt a c ≡ false
nat_behind a b c h k = grind (arith, nat_tests)

pub nat_same : (a b : ℕ) → nat_lt a b ≡ false → nat_lt b a ≡ false → a ≡ b
nat_same a b h k = grind (arith, nat_tests)

pub less-order : IsOrder nat_lt
less-order = record { apart = nat_apart; behind = nat_behind }

pub earlier-order : IsOrder is_earlier
earlier-order = record { apart = λ a b h. nat_apart a.moment b.moment h; behind = λ a b c h k. nat_behind a.moment b.moment c.moment h k }

pub later-order : IsOrder is_later
later-order = record { apart = λ a b h. nat_apart b.moment a.moment h; behind = λ a b c h k. nat_behind c.moment b.moment a.moment k h }

-- what a pair's order tells
abbrev pub Tells : ℕ × ℕ → ℕ × ℕ → Bool → Type 0
Tells a b true = (a.0 < b.0) ⊎ ((a.0 ≡ b.0) × (a.1 < b.1))
Tells a b false = (b.0 < a.0) ⊎ ((a.0 ≡ b.0) × (b.1 ≤ a.1))

tells : (a b : ℕ × ℕ) → Tells a b (is_sooner a b)
tells (m, c) (n, d) = by (nat_lt m n) (m == n) (nat_lt c d) refl refl refl
  where
    differ : (m == n) ≡ false → m ≡ n → ⊥
    differ f same = true≢false (sym ((Decides-eqb m n).1 same) ∙ f)

    by : (x y z : Bool) → nat_lt m n ≡ x → (m == n) ≡ y → nat_lt c d ≡ z → Tells (m, c) (n, d) (x || (y && z))
    by true y z e f g = inl (ltb-true m n e)
    by false true true e f g = inr ((Decides-eqb m n).0 f, (Decides-ltb c d).0 g)
    by false true false e f g = inr ((Decides-eqb m n).0 f, ltb-false c d g)
    by false false z e f g = elim (cases_lt n m) [
      | inl lt ↦ inl lt
      | inr ge ↦ (let low = ltb-false m n e in absurd (differ f (omega arith)))
    ]

pub told : (a b : ℕ × ℕ) (t : Bool) → is_sooner a b ≡ t → Tells a b t
told a b t e = subst (Tells a b) e (tells a b)

-- a test that can't be true
pub never : (b : Bool) → (b ≡ true → ⊥) → b ≡ false
never true f = absurd (f refl)
never false f = refl

both_ways : (a b : ℕ × ℕ) → Tells a b true → Tells b a true → ⊥
both_ways a b (inl p) (inl q) = omega arith
both_ways a b (inl p) (inr q) = let same = q.0 in omega arith
both_ways a b (inr p) (inl q) = let same = p.0 in omega arith
both_ways a b (inr p) (inr q) = let less = p.1 in let more = q.1 in omega arith

round : (a b c : ℕ × ℕ) → Tells a b false → Tells b c false → Tells a c true → ⊥
round a b c (inl p) (inl q) (inl r) = omega arith
round a b c (inl p) (inl q) (inr r) = let same = r.0 in omega arith
round a b c (inl p) (inr q) (inl r) = let same = q.0 in omega arith
round a b c (inl p) (inr q) (inr r) = let same = q.0 in let again = r.0 in omega arith
round a b c (inr p) (inl q) (inl r) = let same = p.0 in omega arith
round a b c (inr p) (inl q) (inr r) = let same = p.0 in let again = r.0 in omega arith
round a b c (inr p) (inr q) (inl r) = let same = p.0 in let again = q.0 in omega arith
round a b c (inr p) (inr q) (inr r) = let one = p.1 in let two = q.1 in let three = r.1 in omega arith

pub sooner-order : IsOrder is_sooner
sooner-order = record {
  apart = λ a b h. never (is_sooner b a) (λ k. both_ways a b (told a b true h) (told b a true k));
  behind = λ a b c h k. never (is_sooner a c) (λ m. round a b c (told a b false h) (told b c false k) (told a c true m));
}

same_pair : (a b : ℕ × ℕ) → Tells a b false → Tells b a false → a ≡ b
same_pair (m, c) (n, d) (inl p) (inl q) = absurd (omega arith)
same_pair (m, c) (n, d) (inl p) (inr q) = let same = q.0 in absurd (omega arith)
same_pair (m, c) (n, d) (inr p) (inl q) = let same = p.0 in absurd (omega arith)
same_pair (m, c) (n, d) (inr p) (inr q) =
    let one = p.1 in let two = q.1 in let numbers : c ≡ d = omega arith in
    ap (λ z. (z, c)) p.0 ∙ ap (λ k. (n, k)) numbers

pub sooner-total : IsTotal is_sooner
sooner-total a b h k = same_pair a b (told a b false h) (told b a false k)

-- the pair of a listed moment
pair_found : (number : ℕ) (days : List PricingDay) (z m : ℕ) → first_above days z ≡ Some m → Contains (map (pricing_pair number) days) (m, number)
pair_found number [] z m e = cc
pair_found number (x ∷ xs) z m e =
    elim (nat_lt z x.moment) as (λ b. option_map (λ (d : PricingDay). d.moment) (cond b (Some x) (find (λ d. nat_lt z d.moment) xs)) ≡ Some m → Contains (map (pricing_pair number) (x ∷ xs)) (m, number)) [
      | true ↦ λ h. (let same : x.moment ≡ m = cc in subst (λ n. Contains (map (pricing_pair number) (x ∷ xs)) (n, number)) same (head (pricing_pair number x) (map (pricing_pair number) xs)))
      | false ↦ λ h. tail (pricing_pair number x) (m, number) (map (pricing_pair number) xs) (pair_found number xs z m h)
    ] e
  where
    head : (p : ℕ × ℕ) (ps : List (ℕ × ℕ)) → Contains (p ∷ ps) p
    head p ps = (0, omega arith, refl)

    tail : (p q : ℕ × ℕ) (ps : List (ℕ × ℕ)) → Contains ps q → Contains (p ∷ ps) q
    tail p q ps (k, l, e) = (suc k, omega arith, e)

-- none of the moments up to here is awaited
abbrev pub NoneUpTo : (ℕ × ℕ → Bool) → Listing → ℕ → Type 0
NoneUpTo passes c at = All (λ e. e.moment ≤ at → passes (pricing_pair c.number e) ≡ false) c.days

-- the first listed moment above those that aren't awaited
pub first_awaited-found : (passes : ℕ × ℕ → Bool) (c : Listing) (at m : ℕ) → NoneUpTo passes c at → first_above c.days at ≡ Some m → IsLeastAbove c.days at m → passes (m, c.number) ≡ true → IsBest passes is_sooner (pairs_of c) (m, c.number)
first_awaited-found passes c at m none found least here = record {
  among = pair_found c.number c.days at m found;
  here = here;
  best = All-map (λ o. passes o ≡ true → is_sooner o (m, c.number) ≡ false) (pricing_pair c.number) c.days (λ k d short pass. not_sooner (get_or c.days k d) (none k d short) (least.least k d short) pass);
}
  where
    not_sooner : (e : PricingDay) → (e.moment ≤ at → passes (pricing_pair c.number e) ≡ false) → (at < e.moment → m ≤ e.moment) → passes (pricing_pair c.number e) ≡ true → is_sooner (pricing_pair c.number e) (m, c.number) ≡ false
    not_sooner e before after pass =
        elim (cases_lt at e.moment) [
          | inl above ↦ (let later = after above in never (is_sooner (pricing_pair c.number e) (m, c.number)) (λ sooner. refused later (told (pricing_pair c.number e) (m, c.number) true sooner)))
          | inr upto ↦ absurd (true≢false (sym pass ∙ before upto))
        ]
      where
        refused : m ≤ e.moment → Tells (pricing_pair c.number e) (m, c.number) true → ⊥
        refused later (inl p) = omega arith
        refused later (inr p) = let less = p.1 in omega arith

pub first_awaited-none : (passes : ℕ × ℕ → Bool) (c : Listing) (at : ℕ) → NoneUpTo passes c at → HasNoneAbove c.days at → All (λ pair. passes pair ≡ false) (pairs_of c)
first_awaited-none passes c at none all =
    All-map (λ pair. passes pair ≡ false) (pricing_pair c.number) c.days (λ k d short. none k d short (all k d short))

-- one more calendar
pub pairs_more : (calendars : List Listing) (i : ℕ) (c : Listing) → i < length calendars → pricing_pairs (take (i + 1) calendars) ≡ pricing_pairs (take i calendars) ++ pairs_of (get_or calendars i c)
pairs_more calendars i c h =
    ap pricing_pairs (take_more calendars i c h)
    ∙ flat_map-append pairs_of (take i calendars) (get_or calendars i c ∷ [])
    ∙ ap (λ ps. pricing_pairs (take i calendars) ++ ps) (append-nil (pairs_of (get_or calendars i c)))

chosen : (t : Table) → IsChoice (is_awaited t.classes t.sheets) is_sooner (pricing_pairs t.calendars) (expected_of t)
chosen t = best-choice (is_awaited t.classes t.sheets) is_sooner sooner-order (pricing_pairs t.calendars)

pub expected_best : (t : Table) (pair : ℕ × ℕ) → expected_of t ≡ Some pair → IsBest (is_awaited t.classes t.sheets) is_sooner (pricing_pairs t.calendars) pair
expected_best t pair e = subst (IsChoice (is_awaited t.classes t.sheets) is_sooner (pricing_pairs t.calendars)) e (chosen t)

pub if_expected : (t : Table) (r : Option (ℕ × ℕ)) → r ≡ expected_of t → IfSome r (λ pair. IsExpected t pair)
if_expected t None e = tt
if_expected t (Some pair) e = subst (IsChoice (is_awaited t.classes t.sheets) is_sooner (pricing_pairs t.calendars)) (sym e) (chosen t)

pub if_none_expected : (t : Table) (r : Option (ℕ × ℕ)) → r ≡ expected_of t → IfNone r (NoneExpected t)
if_none_expected t None e = subst (IsChoice (is_awaited t.classes t.sheets) is_sooner (pricing_pairs t.calendars)) (sym e) (chosen t)
if_none_expected t (Some pair) e = tt

-- the moments of a listing that are found are listed
moment_found : (days : List PricingDay) (z m : ℕ) → first_above days z ≡ Some m → Contains (map (λ (e : PricingDay). e.moment) days) m
moment_found [] z m e = cc
moment_found (x ∷ xs) z m e =
    elim (nat_lt z x.moment) as (λ b. option_map (λ (d : PricingDay). d.moment) (cond b (Some x) (find (λ d. nat_lt z d.moment) xs)) ≡ Some m → Contains (map (λ (e : PricingDay). e.moment) (x ∷ xs)) m) [
      | true ↦ λ h. (let same : x.moment ≡ m = cc in subst (λ n. Contains (map (λ (e : PricingDay). e.moment) (x ∷ xs)) n) same (0, omega arith, refl))
      | false ↦ λ h. tail x.moment m (map (λ (e : PricingDay). e.moment) xs) (moment_found xs z m h)
    ] e
  where
    tail : (p q : ℕ) (ps : List ℕ) → Contains ps q → Contains (p ∷ ps) q
    tail p q ps (k, l, e) = (suc k, omega arith, e)

fact_test : (a b : ℕ) → a < b → nat_lt a b ≡ true
fact_test a b h = grind (arith, nat_tests)

above_test : (a b : ℕ) → b ≤ a → nat_lt a b ≡ false
above_test a b h = grind (arith, nat_tests)

-- the first moment above the receipt and the openings is the least that is due
due_found : (passes : ℕ → Bool) (days : List PricingDay) (after m : ℕ) → ((z : ℕ) → nat_lt after z ≡ passes z) → first_above days after ≡ Some m → IsLeastAbove days after m → IsBest passes nat_lt (map (λ (e : PricingDay). e.moment) days) m
due_found passes days after m same found least = record {
  among = moment_found days after m found;
  here = sym (same m) ∙ fact_test after m least.above_it;
  best = All-map (λ o. passes o ≡ true → nat_lt o m ≡ false) (λ (e : PricingDay). e.moment) days (λ k d short pass. above_test (get_or days k d).moment m (least.least k d short (ltb-true after (get_or days k d).moment (same (get_or days k d).moment ∙ pass))));
}

due_none : (passes : ℕ → Bool) (days : List PricingDay) (after : ℕ) → ((z : ℕ) → nat_lt after z ≡ passes z) → HasNoneAbove days after → All (λ z. passes z ≡ false) (map (λ (e : PricingDay). e.moment) days)
due_none passes days after same none =
    All-map (λ z. passes z ≡ false) (λ (e : PricingDay). e.moment) days (λ k d short. sym (same (get_or days k d).moment) ∙ above_test after (get_or days k d).moment (none k d short))

due_choice : (passes : ℕ → Bool) (days : List PricingDay) (after : ℕ) (r : Option ℕ) → ((z : ℕ) → nat_lt after z ≡ passes z) → r ≡ first_above days after → IfSome r (IsLeastAbove days after) → IfNone r (HasNoneAbove days after) → IsChoice passes nat_lt (map (λ (e : PricingDay). e.moment) days) r
due_choice passes days after None same first least none = due_none passes days after same none
due_choice passes days after (Some m) same first least none = due_found passes days after m same (sym first) least

pub due-is : (passes : ℕ → Bool) (days : List PricingDay) (after : ℕ) (r : Option ℕ) → ((z : ℕ) → nat_lt after z ≡ passes z) → r ≡ first_above days after → IfSome r (IsLeastAbove days after) → IfNone r (HasNoneAbove days after) → r ≡ best passes nat_lt (map (λ (e : PricingDay). e.moment) days)
due-is passes days after r same first least none =
    same_choice passes nat_lt nat_same (map (λ (e : PricingDay). e.moment) days) r (best passes nat_lt (map (λ (e : PricingDay). e.moment) days)) (due_choice passes days after r same first least none) (best-choice passes nat_lt less-order (map (λ (e : PricingDay). e.moment) days))

-- what holds of all pairs holds of one calendar's days
pub pairs_at : (P : ℕ × ℕ → Type 0) (calendars : List Listing) (i : ℕ) (c : Listing) → i < length calendars → All P (pricing_pairs calendars) → All P (pairs_of (get_or calendars i c))
pairs_at P [] i c h all = absurd (omega arith)
pairs_at P (x ∷ xs) zero c h all = All-left P (pairs_of x) (pricing_pairs xs) all
pairs_at P (x ∷ xs) (suc i) c h all = pairs_at P xs i c (omega arith) (All-right P (pairs_of x) (pricing_pairs xs) all)

-- none of the moments passed is awaited
pub none_up_to : (passes : ℕ × ℕ → Bool) (c : Listing) (passed : ℕ) → All (λ pair. passes pair ≡ true → passed < pair.0) (pairs_of c) → NoneUpTo passes c passed
none_up_to passes c passed all =
    All-weaker (λ e. passes (pricing_pair c.number e) ≡ true → passed < e.moment) (λ e. e.moment ≤ passed → passes (pricing_pair c.number e) ≡ false)
    (λ e later upto. never (passes (pricing_pair c.number e)) (λ pass. (let above = later pass in omega arith))) c.days
    (All-unmap (λ pair. passes pair ≡ true → passed < pair.0) (pricing_pair c.number) c.days all)

-- an awaited moment is after the opening of a class, so that it isn't the first of all
none_offered : (classes : List Opening) (calendar moment : ℕ) → moment ≡ 0 → list_any (is_offered_at calendar moment) classes ≡ false
none_offered [] calendar moment first = refl
none_offered (x ∷ xs) calendar moment first =
    rw (never (is_offered_at calendar moment x) (λ e. let less = ltb-true x.opened moment (and_parts (x.calendar == calendar) (nat_lt x.opened moment) e).1 in omega arith), none_offered xs calendar moment first) refl

pub awaited_after_start : (classes : List Opening) (sheets : List Sheet) (pair : ℕ × ℕ) → is_awaited classes sheets pair ≡ true → 0 < pair.0
awaited_after_start classes sheets pair e =
    let offered = (and_parts (list_any (is_offered_at pair.1 pair.0) classes) (not (list_any (is_sheet_at pair.1 pair.0) sheets)) e).0 in
    elim (cases_lt 0 pair.0) [
      | inl after ↦ after
      | inr first ↦ absurd (true≢false (sym offered ∙ none_offered classes pair.1 pair.0 (omega arith)))
    ]

pub none_passed : (calendars : List Listing) (classes : List Opening) (sheets : List Sheet) → NoneAwaitedTo calendars classes sheets 0
none_passed calendars classes sheets = record {
  later = λ k d short. awaited_after_start classes sheets (get_or (pricing_pairs calendars) k d);
}

-- what stays where a sheet is published
not_first : (a b : Bool) → not (a || b) ≡ true → not a ≡ true
not_first true b h = h
not_first false b h = refl

pub awaited_before : (classes : List Opening) (sheets : List Sheet) (s : Sheet) (pair : ℕ × ℕ) → is_awaited classes (sheets ++ s ∷ []) pair ≡ true → is_awaited classes sheets pair ≡ true
awaited_before classes sheets s pair e =
    let there = list_any (is_sheet_at pair.1 pair.0) sheets in
    let offered = list_any (is_offered_at pair.1 pair.0) classes in
    let more = list_any-append (is_sheet_at pair.1 pair.0) sheets (s ∷ []) in
    let parts = and_parts offered (not (list_any (is_sheet_at pair.1 pair.0) (sheets ++ s ∷ []))) e in
    and_from offered (not there) parts.0 (not_first there (list_any (is_sheet_at pair.1 pair.0) (s ∷ [])) (subst (λ b. not b ≡ true) more parts.1))

not_sooner_than : (o pair : ℕ × ℕ) → 0 < o.0 → Tells o pair false → pair.0 - 1 < o.0
not_sooner_than o pair after (inl p) = omega arith
not_sooner_than o pair after (inr p) = let same = p.0 in omega arith

-- none up to the expected moment is awaited once its sheet is published
pub none_after_publish : (t : Table) (pair : ℕ × ℕ) (s : Sheet) → expected_of t ≡ Some pair → NoneAwaitedTo t.calendars t.classes (t.sheets ++ s ∷ []) (pair.0 - 1)
none_after_publish t pair s e =
    let is = subst (IsChoice (is_awaited t.classes t.sheets) is_sooner (pricing_pairs t.calendars)) e (chosen t) in
    record {
      later = All-weaker (λ o. is_awaited t.classes t.sheets o ≡ true → is_sooner o pair ≡ false) (λ o. is_awaited t.classes (t.sheets ++ s ∷ []) o ≡ true → pair.0 - 1 < o.0) (λ o h now. not_sooner_than o pair (awaited_after_start t.classes (t.sheets ++ s ∷ []) o now) (told o pair false (h (awaited_before t.classes t.sheets s o now)))) (pricing_pairs t.calendars) is.best;
    }

-- the due moment that is computed is the least
due_chosen : (t : Table) (asked : List ℕ) (receipt : ℕ) (c : Listing) → IsChoice (is_due t.classes asked receipt) nat_lt (moments_of c) (due_on t.classes asked receipt c)
due_chosen t asked receipt c = best-choice (is_due t.classes asked receipt) nat_lt less-order (moments_of c)

pub if_due : (t : Table) (asked : List ℕ) (receipt : ℕ) (r : Option ℕ) → r ≡ due_of t asked receipt → IfSome r (IsDue t asked receipt)
if_due t asked receipt r e = go (calendar_in t.calendars t.classes asked) refl r e
  where
    go : (o : Option Listing) → calendar_in t.calendars t.classes asked ≡ o → (r : Option ℕ) → r ≡ option_and_then (due_on t.classes asked receipt) o → IfSome r (IsDue t asked receipt)
    go o f None e = tt
    go None f (Some m) e = cc
    go (Some c) f (Some m) e = (c, f, subst (IsChoice (is_due t.classes asked receipt) nat_lt (moments_of c)) (sym e) (due_chosen t asked receipt c))

pub if_none_due : (t : Table) (asked : List ℕ) (receipt : ℕ) (r : Option ℕ) → r ≡ due_of t asked receipt → IfNone r (NoneDue t asked receipt)
if_none_due t asked receipt (Some m) e = tt
if_none_due t asked receipt None e =
    λ c of. subst (IsChoice (is_due t.classes asked receipt) nat_lt (moments_of c)) (sym (e ∙ ap (option_and_then (due_on t.classes asked receipt)) of)) (due_chosen t asked receipt c)

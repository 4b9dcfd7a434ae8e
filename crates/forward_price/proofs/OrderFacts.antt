-- Each call of a price book keeps it orderly.
use Rattle.std.proofs.Common.{◌≡◌, ◌≢◌, ℕ, zero, suc, ◌<◌, ◌≤◌, nat_lt, Bool, true, false, not, ◌&&◌, ◌||◌, ◌==◌, List, [], ◌∷◌, ◌++◌, length, map, get_or, find, filter, None, All, AllPairs, Contains, ◌⊎◌, inl, inr, refl, sym, ap, subst, ◌∙◌, arith, append-nil, length-append}
use Rattle.std.specs.List.{list_any}
use Rattle.std.proofs.lemmas.Bool.{cases_lt, and_parts, and_from, true≢false}
use Rattle.std.proofs.lemmas.Bool.Decides.{Decides-eqb}
use Rattle.std.proofs.lemmas.Grind.{flat_map-append}
use Rattle.std.proofs.lemmas.List.{length-map}
use Rattle.std.proofs.lemmas.List.Quantifiers.{all_pairs_push}
use Rattle.std.proofs.lemmas.List.Folds.{list_any-append}
use Rattle.std.proofs.lemmas.List.Elements.{All-nil, All-push, All-append, All-map, All-filter, All-contains, Contains-append_left, Contains-get_or, Contains-push}
use Rattle.fund_calendar.proofs.ListFacts.{All-left, All-right, All-unmap}
use Rattle.fund_calendar.specs.PricingDays.{Listing}
use Rattle.forward_price.specs.declared.price_sheet.Opening.{Opening}
use Rattle.forward_price.specs.declared.price_sheet.Sheet.{Sheet}
use Rattle.forward_price.specs.Sheets.{lists_class}
use Rattle.forward_price.specs.Choices.{IsBest}
use Rattle.forward_price.specs.PriceTables.{Table, is_sheet_at, sheet_published, with_published, with_calendar, with_class, with_sheets, without_day_of, without_last, with_correction, but_last, closed_in, calendar_numbered, class_opened, sheets_with_nav, corrected_sheet}
use Rattle.forward_price.specs.Turns.{pricing_pair, pairs_of, pricing_pairs, is_offered_at, is_awaited, is_sooner, must_list}
use Rattle.forward_price.specs.Orderly.{IsOrderly, IsInTurn, OpensAfter, AreOnPricingDays}
use Rattle.forward_price.proofs.TurnFacts.{Tells, told, never, awaited_before, expected_best}
use Rattle.forward_price.proofs.PatchFacts.{moment-kept, calendar-kept, lists-kept, awaited-kept}
use Rattle.forward_price.proofs.PricingFacts.{lt_fact}
use Rattle.forward_price.proofs.OrderlyFacts.{pair_calendar, any_from}
use Rattle.forward_price.proofs.KeptFacts.{complete_all, published_back}

tested : (b : Bool) → (b ≡ true) ⊎ (b ≡ false)
tested true = inl refl
tested false = inr refl

pairs_push : {X : Type 0} (R : X → X → Type 0) (xs : List X) (y : X) → AllPairs R xs → ((k : ℕ) (d : X) → k < length xs → R (get_or xs k d) y) → AllPairs R (xs ++ y ∷ [])
pairs_push R xs y all last = all_pairs_push R xs y all last

-- a change of each element in its place
map_get : {X : Type 0} (f : X → X) (xs : List X) (i : ℕ) (d : X) → i < length xs → get_or (map f xs) i d ≡ f (get_or xs i d)
map_get f [] i d l = absurd (omega arith)
map_get f (x ∷ xs) zero d l = refl
map_get f (x ∷ xs) (suc i) d l = map_get f xs i d (omega arith)

pairs_map : {X : Type 0} (R : X → X → Type 0) (f : X → X) (xs : List X) → AllPairs (λ a b. R (f a) (f b)) xs → AllPairs R (map f xs)
pairs_map R f xs all i j d lt l =
    let long : j < length xs = subst (λ n. j < n) (length-map xs f) l in
    let short : i < length xs = omega arith in
    rw (map_get f xs i d short, map_get f xs j d long) (all i j d lt long)

-- where none is found
pub none_parts : {X : Type 0} (p : X → Bool) (x : X) (xs : List X) → find p (x ∷ xs) ≡ None → (p x ≡ false) × (find p xs ≡ None)
none_parts p x xs e = elim (tested (p x)) [
  | inl here ↦ (let f = rw here at e in cc)
  | inr apart ↦ (apart, rw apart at e)
]

none_found : {X : Type 0} (p : X → Bool) (xs : List X) (x : X) → find p xs ≡ None → Contains xs x → p x ≡ false
none_found p [] x e (k, l, s) = absurd (omega arith)
none_found p (y ∷ ys) x e (zero, l, s) = subst (λ z. p z ≡ false) s (none_parts p y ys e).0
none_found p (y ∷ ys) x e (suc k, l, s) = none_found p ys x (none_parts p y ys e).1 (k, omega arith, s)

none_numbered : (calendars : List Listing) (n : ℕ) (c : Listing) → calendar_numbered calendars n ≡ None → Contains calendars c → c.number ≡ n → ⊥
none_numbered calendars n c e in' same =
    true≢false (sym ((Decides-eqb c.number n).1 same) ∙ none_found (λ c. c.number == n) calendars c e in')

none_classed : (classes : List Opening) (n : ℕ) (x : Opening) → class_opened classes n ≡ None → Contains classes x → x.class ≡ n → ⊥
none_classed classes n x e in' same =
    true≢false (sym ((Decides-eqb x.class n).1 same) ∙ none_found (λ class. class.class == n) classes x e in')

pub one_more : (calendars : List Listing) (c : Listing) → pricing_pairs (calendars ++ c ∷ []) ≡ pricing_pairs calendars ++ pairs_of c
one_more calendars c = flat_map-append pairs_of calendars (c ∷ []) ∙ ap (λ ps. pricing_pairs calendars ++ ps) (append-nil (pairs_of c))

pub orderly_at_first : IsOrderly (record { calendars = []; classes = []; sheets = [] })
orderly_at_first = record {
  calendars_differ = λ i j d lt l. absurd (omega arith);
  classes_differ = λ i j d lt l. absurd (omega arith);
  on_pricing_days = All-nil _;
  complete = All-nil _;
  none_passed = All-nil _;
  rises = λ i j d lt l. absurd (omega arith);
}

pub orderly_calendar : (t : Table) (c : Listing) → IsOrderly t → calendar_numbered t.calendars c.number ≡ None → IsOrderly (with_calendar t c)
orderly_calendar t c o new = record {
  calendars_differ = pairs_push (λ a b. a.number ≢ b.number) t.calendars c o.calendars_differ (λ k d l same. none_numbered t.calendars c.number (get_or t.calendars k d) new (Contains-get_or t.calendars k d l) same);
  classes_differ = o.classes_differ;
  on_pricing_days = λ k d l. subst (λ ps. Contains ps ((get_or t.sheets k d).moment, (get_or t.sheets k d).calendar)) (sym (one_more t.calendars c)) (Contains-append_left (pricing_pairs t.calendars) (pairs_of c) _ (o.on_pricing_days k d l));
  complete = o.complete;
  none_passed = λ k d l. here (get_or t.sheets k d) (o.on_pricing_days k d l) (o.none_passed k d l);
  rises = o.rises;
}
  where
    here : (s : Sheet) → Contains (pricing_pairs t.calendars) (s.moment, s.calendar) → All (λ pair. pair.1 ≡ s.calendar → pair.0 ≤ s.moment → is_awaited t.classes t.sheets pair ≡ false) (pricing_pairs t.calendars) → All (λ pair. pair.1 ≡ s.calendar → pair.0 ≤ s.moment → is_awaited t.classes t.sheets pair ≡ false) (pricing_pairs (t.calendars ++ c ∷ []))
    here s on old =
        let P = (λ (pair : ℕ × ℕ). pair.1 ≡ s.calendar → pair.0 ≤ s.moment → is_awaited t.classes t.sheets pair ≡ false) in
        let known = pair_calendar t.calendars (s.moment, s.calendar) o.calendars_differ on in
        subst (All P) (sym (one_more t.calendars c)) (All-append P (pricing_pairs t.calendars) (pairs_of c) old
        (All-map P (pricing_pair c.number) c.days (λ k d l same upto. absurd (none_numbered t.calendars c.number known.0 new known.2 (known.4 ∙ sym same)))))

-- one more class
any_more : {X : Type 0} (p : X → Bool) (xs : List X) (x : X) → p x ≡ false → list_any p (xs ++ x ∷ []) ≡ list_any p xs
any_more p xs x e = list_any-append p xs (x ∷ []) ∙ (rw e (or_none (list_any p xs)))
  where
    or_none : (b : Bool) → (b || false) ≡ b
    or_none true = refl
    or_none false = refl

not_offered : (calendar : ℕ) (opened : ℕ) (n : ℕ) (s : Sheet) (pair : ℕ × ℕ) → (s.calendar ≡ calendar → s.moment ≤ opened) → pair.1 ≡ s.calendar → pair.0 ≤ s.moment → is_offered_at pair.1 pair.0 (record { class = n; calendar = calendar; opened = opened }) ≡ false
not_offered calendar opened n s pair after of upto = never (is_offered_at pair.1 pair.0 (record { class = n; calendar = calendar; opened = opened })) (λ e.
    let parts = and_parts (calendar == pair.1) (nat_lt opened pair.0) e in
    let later = after (sym of ∙ sym ((Decides-eqb calendar pair.1).0 parts.0)) in
    let less : opened < pair.0 = lt_fact opened pair.0 parts.1 in
    omega arith)

pub orderly_class : (t : Table) (n calendar : ℕ) (opened : ℕ) → IsOrderly t → class_opened t.classes n ≡ None → OpensAfter t.sheets calendar opened → IsOrderly (with_class t n calendar opened)
orderly_class t n calendar opened o new after = record {
  calendars_differ = o.calendars_differ;
  classes_differ = pairs_push (λ a b. a.class ≢ b.class) t.classes added o.classes_differ (λ k d l same. none_classed t.classes n (get_or t.classes k d) new (Contains-get_or t.classes k d l) same);
  on_pricing_days = o.on_pricing_days;
  complete = λ k d l number. o.complete k d l number ∙ sym (any_more (λ class. (class.class == number) && is_offered_at (get_or t.sheets k d).calendar (get_or t.sheets k d).moment class) t.classes added (not_named (get_or t.sheets k d) number (after k d l)));
  none_passed = λ k d l i e m of upto. ap (λ b. b && not (list_any (is_sheet_at (get_or (pricing_pairs t.calendars) i e).1 (get_or (pricing_pairs t.calendars) i e).0) t.sheets)) (any_more (is_offered_at (get_or (pricing_pairs t.calendars) i e).1 (get_or (pricing_pairs t.calendars) i e).0) t.classes added (not_offered calendar opened n (get_or t.sheets k d) (get_or (pricing_pairs t.calendars) i e) (after k d l) of upto)) ∙ o.none_passed k d l i e m of upto;
  rises = o.rises;
}
  where
    added : Opening
    added = record { class = n; calendar = calendar; opened = opened }

    not_named : (s : Sheet) (number : ℕ) → (s.calendar ≡ calendar → s.moment ≤ opened) → ((n == number) && is_offered_at s.calendar s.moment (record { class = n; calendar = calendar; opened = opened })) ≡ false
    not_named s number later = rw (not_offered calendar opened n s (s.moment, s.calendar) later refl (omega arith)) (and_none (n == number))
      where
        and_none : (b : Bool) → (b && false) ≡ false
        and_none true = refl
        and_none false = refl

-- a closure
pub closed_number : (calendar day : ℕ) (c : Listing) → (closed_in calendar day c).number ≡ c.number
closed_number calendar day c = elim (tested (c.number == calendar)) [ inl here ↦ rw here refl | inr apart ↦ rw apart refl ]

pub closed_pairs : (P : ℕ × ℕ → Type 0) (calendar day : ℕ) (calendars : List Listing) → All P (pricing_pairs calendars) → All P (pricing_pairs (map (closed_in calendar day) calendars))
closed_pairs P calendar day [] all = all
closed_pairs P calendar day (c ∷ cs) all =
    All-append P (pairs_of (closed_in calendar day c)) (pricing_pairs (map (closed_in calendar day) cs)) (one (All-left P (pairs_of c) (pricing_pairs cs) all)) (closed_pairs P calendar day cs (All-right P (pairs_of c) (pricing_pairs cs) all))
  where
    one : All P (pairs_of c) → All P (pairs_of (closed_in calendar day c))
    one here = elim (tested (c.number == calendar)) [
      | inl same ↦ rw same (All-map P (pricing_pair c.number) (filter (λ e. not (e.day == day)) c.days) (All-filter (λ e. not (e.day == day)) (λ e. P (pricing_pair c.number e)) c.days (All-unmap P (pricing_pair c.number) c.days here)))
      | inr apart ↦ rw apart here
    ]

pub orderly_closure : (t : Table) (calendar day : ℕ) → IsOrderly t → AreOnPricingDays (without_day_of t calendar day).calendars t.sheets → IsOrderly (without_day_of t calendar day)
orderly_closure t calendar day o on = record {
  calendars_differ = pairs_map (λ a b. a.number ≢ b.number) (closed_in calendar day) t.calendars (λ i j d lt l same. o.calendars_differ i j d lt l (sym (closed_number calendar day (get_or t.calendars i d)) ∙ same ∙ closed_number calendar day (get_or t.calendars j d)));
  classes_differ = o.classes_differ;
  on_pricing_days = on;
  complete = o.complete;
  none_passed = λ k d l. closed_pairs (λ pair. pair.1 ≡ (get_or t.sheets k d).calendar → pair.0 ≤ (get_or t.sheets k d).moment → is_awaited t.classes t.sheets pair ≡ false) calendar day t.calendars (o.none_passed k d l);
  rises = o.rises;
}

-- a sheet in its turn
pub orderly_sheet : (t : Table) (calendar : ℕ) (moment : ℕ) (prices : List (ℕ × ℕ)) → IsOrderly t → IsInTurn t calendar moment prices → IsOrderly (with_published t calendar moment prices)
orderly_sheet t calendar moment prices o turn = record {
  calendars_differ = o.calendars_differ;
  classes_differ = o.classes_differ;
  on_pricing_days = All-push (λ s. Contains (pricing_pairs t.calendars) (s.moment, s.calendar)) t.sheets p o.on_pricing_days is.among;
  complete = All-push (λ s. (number : ℕ) → lists_class s.prices number ≡ must_list t.classes s.calendar s.moment number) t.sheets p o.complete (complete_all t.classes calendar moment prices turn.complete);
  none_passed = All-push (λ s. All (λ pair. pair.1 ≡ s.calendar → pair.0 ≤ s.moment → is_awaited t.classes (t.sheets ++ p ∷ []) pair ≡ false) (pricing_pairs t.calendars)) t.sheets p
      (λ k d l i e m of upto. never (is_awaited t.classes (t.sheets ++ p ∷ []) (get_or (pricing_pairs t.calendars) i e)) (λ now. true≢false (sym (awaited_before t.classes t.sheets p (get_or (pricing_pairs t.calendars) i e) now) ∙ o.none_passed k d l i e m of upto)))
      (λ i e m of upto. never (is_awaited t.classes (t.sheets ++ p ∷ []) (get_or (pricing_pairs t.calendars) i e)) (λ now. itself (get_or (pricing_pairs t.calendars) i e) of upto now (told (get_or (pricing_pairs t.calendars) i e) (moment, calendar) false (is.best i e m (awaited_before t.classes t.sheets p (get_or (pricing_pairs t.calendars) i e) now)))));
  rises = pairs_push (λ a b. a.calendar ≡ b.calendar → a.moment < b.moment) t.sheets p o.rises (λ k d l of. elim (cases_lt (get_or t.sheets k d).moment moment) [ inl lt ↦ lt | inr ge ↦ absurd (true≢false (sym is.here ∙ All-contains (λ pair. pair.1 ≡ (get_or t.sheets k d).calendar → pair.0 ≤ (get_or t.sheets k d).moment → is_awaited t.classes t.sheets pair ≡ false) (pricing_pairs t.calendars) (moment, calendar) (o.none_passed k d l) is.among (sym of) ge)) ]);
}
  where
    p : Sheet
    p = sheet_published t calendar moment prices

    is : IsBest (is_awaited t.classes t.sheets) is_sooner (pricing_pairs t.calendars) (moment, calendar)
    is = expected_best t (moment, calendar) turn.expected

    itself : (pair : ℕ × ℕ) → pair.1 ≡ calendar → pair.0 ≤ moment → is_awaited t.classes (t.sheets ++ sheet_published t calendar moment prices ∷ []) pair ≡ true → Tells pair (moment, calendar) false → ⊥
    itself pair of upto now (inl later) = omega arith
    itself pair of upto now (inr same) =
        let q = sheet_published t calendar moment prices in
        let at : is_sheet_at pair.1 pair.0 q ≡ true = and_from (calendar == pair.1) ((moment == pair.0)) ((Decides-eqb calendar pair.1).1 (sym of)) ((Decides-eqb moment pair.0).1 (sym same.0)) in
        let there : list_any (is_sheet_at pair.1 pair.0) (t.sheets ++ q ∷ []) ≡ true = any_from (is_sheet_at pair.1 pair.0) (t.sheets ++ q ∷ []) q (Contains-push t.sheets q) at in
        let parts = and_parts (list_any (is_offered_at pair.1 pair.0) t.classes) (not (list_any (is_sheet_at pair.1 pair.0) (t.sheets ++ q ∷ []))) now in
        true≢false (sym parts.1 ∙ ap not there)

-- the withdrawal of the last sheet
last_or_none : {X : Type 0} (xs : List X) → (xs ≡ []) ⊎ ((ys : List X) × (y : X) × (xs ≡ ys ++ y ∷ []))
last_or_none [] = inl refl
last_or_none (x ∷ xs) = elim (last_or_none xs) [
  | inl none ↦ inr ([], x, ap (λ zs. x ∷ zs) none)
  | inr some ↦ inr (x ∷ some.0, some.1, ap (λ zs. x ∷ zs) some.2)
]

get_left : {X : Type 0} (xs : List X) (y d : X) (k : ℕ) → k < length xs → get_or (xs ++ y ∷ []) k d ≡ get_or xs k d
get_left [] y d k l = absurd (omega arith)
get_left (x ∷ xs) y d zero l = refl
get_left (x ∷ xs) y d (suc k) l = get_left xs y d k (omega arith)

get_last : {X : Type 0} (xs : List X) (y d : X) → get_or (xs ++ y ∷ []) (length xs) d ≡ y
get_last [] y d = refl
get_last (x ∷ xs) y d = get_last xs y d

orderly_less : (calendars : List Listing) (classes : List Opening) (ys : List Sheet) (y : Sheet) → IsOrderly (record { calendars = calendars; classes = classes; sheets = ys ++ y ∷ [] }) → IsOrderly (record { calendars = calendars; classes = classes; sheets = ys })
orderly_less calendars classes ys y o = record {
  calendars_differ = o.calendars_differ;
  classes_differ = o.classes_differ;
  on_pricing_days = All-left (λ s. Contains (pricing_pairs calendars) (s.moment, s.calendar)) ys (y ∷ []) o.on_pricing_days;
  complete = All-left (λ s. (number : ℕ) → lists_class s.prices number ≡ must_list classes s.calendar s.moment number) ys (y ∷ []) o.complete;
  none_passed = λ k d l i e m of upto. here (get_or ys k d) (get_or (pricing_pairs calendars) i e) of upto
      (All-left (λ s. All (λ pair. pair.1 ≡ s.calendar → pair.0 ≤ s.moment → is_awaited classes (ys ++ y ∷ []) pair ≡ false) (pricing_pairs calendars)) ys (y ∷ []) o.none_passed k d l i e m of upto)
      (λ same. subst (λ s. s.moment < y.moment) (get_left ys y d k l) (subst (λ s. (get_or (ys ++ y ∷ []) k d).moment < s.moment) (get_last ys y d) (o.rises k (length ys) d l (omega (arith, length-append ys (y ∷ []))) (ap (λ s. s.calendar) (get_left ys y d k l) ∙ same ∙ ap (λ s. s.calendar) (sym (get_last ys y d))))));
  rises = λ i j d lt l same. subst (λ s. s.moment < (get_or ys j d).moment) (get_left ys y d i (omega arith)) (subst (λ s. (get_or (ys ++ y ∷ []) i d).moment < s.moment) (get_left ys y d j l) (o.rises i j d lt (omega (arith, length-append ys (y ∷ []))) (ap (λ s. s.calendar) (get_left ys y d i (omega arith)) ∙ same ∙ ap (λ s. s.calendar) (sym (get_left ys y d j l)))));
}
  where
    here : (s : Sheet) (pair : ℕ × ℕ) → pair.1 ≡ s.calendar → pair.0 ≤ s.moment → is_awaited classes (ys ++ y ∷ []) pair ≡ false → (s.calendar ≡ y.calendar → s.moment < y.moment) → is_awaited classes ys pair ≡ false
    here s pair of upto passed later = never (is_awaited classes ys pair) (λ now. elim (tested (is_sheet_at pair.1 pair.0 y)) [
      | inl at ↦ (
          let parts = and_parts (y.calendar == pair.1) ((y.moment == pair.0)) at in
          let same : y.calendar ≡ pair.1 = (Decides-eqb y.calendar pair.1).0 parts.0 in
          let moment : y.moment ≡ pair.0 = (Decides-eqb y.moment pair.0).0 parts.1 in
          let less = later (sym of ∙ sym same) in
          omega arith
          )
      | inr apart ↦ true≢false (sym now ∙ ap (λ b. list_any (is_offered_at pair.1 pair.0) classes && not b) (sym (any_more (is_sheet_at pair.1 pair.0) ys y apart)) ∙ passed)
    ])

pub orderly_withdrawal : (t : Table) → IsOrderly t → IsOrderly (without_last t)
orderly_withdrawal t o = elim (last_or_none t.sheets) [
  | inl none ↦ subst (λ sheets. IsOrderly (with_sheets t sheets)) (none ∙ sym (ap but_last none)) o
  | inr some ↦ subst (λ sheets. IsOrderly (with_sheets t sheets)) (sym (ap but_last some.2 ∙ published_back some.0 some.1)) (orderly_less t.calendars t.classes some.0 some.1 (subst (λ sheets. IsOrderly (with_sheets t sheets)) some.2 o))
]

-- a correction
pub orderly_correction : (t : Table) (class number nav : ℕ) → IsOrderly t → IsOrderly (with_correction t class number nav)
orderly_correction t class number nav o = record {
  calendars_differ = o.calendars_differ;
  classes_differ = o.classes_differ;
  on_pricing_days = All-map (λ s. Contains (pricing_pairs t.calendars) (s.moment, s.calendar)) f t.sheets (λ k d l. rw (moment-kept class number nav (get_or t.sheets k d), calendar-kept class number nav (get_or t.sheets k d)) (o.on_pricing_days k d l));
  complete = All-map (λ s. (n : ℕ) → lists_class s.prices n ≡ must_list t.classes s.calendar s.moment n) f t.sheets (λ k d l n. rw (moment-kept class number nav (get_or t.sheets k d), calendar-kept class number nav (get_or t.sheets k d)) (lists-kept class number nav n (get_or t.sheets k d) ∙ o.complete k d l n));
  none_passed = All-map (λ s. All (λ pair. pair.1 ≡ s.calendar → pair.0 ≤ s.moment → is_awaited t.classes (sheets_with_nav class number nav t.sheets) pair ≡ false) (pricing_pairs t.calendars)) f t.sheets (λ k d l i e m of upto. awaited-kept class number nav t.classes t.sheets (get_or (pricing_pairs t.calendars) i e) ∙ o.none_passed k d l i e m (of ∙ calendar-kept class number nav (get_or t.sheets k d)) (subst (λ z. (get_or (pricing_pairs t.calendars) i e).0 ≤ z) (moment-kept class number nav (get_or t.sheets k d)) upto));
  rises = pairs_map (λ a b. a.calendar ≡ b.calendar → a.moment < b.moment) f t.sheets (λ i j d lt l same. rw (moment-kept class number nav (get_or t.sheets i d), moment-kept class number nav (get_or t.sheets j d)) (o.rises i j d lt l (sym (calendar-kept class number nav (get_or t.sheets i d)) ∙ same ∙ calendar-kept class number nav (get_or t.sheets j d))));
}
  where
    f : Sheet → Sheet
    f = corrected_sheet class number nav

-- In an orderly price book the sheet of a priced order is that of its due moment.
use Rattle.std.proofs.Common.{◌≡◌, ◌≢◌, ℕ, zero, suc, ◌<◌, ◌≤◌, nat_lt, Bool, true, false, not, ◌&&◌, ◌||◌, ◌==◌, List, [], ◌∷◌, length, map, get_or, find, Some, option_and_then, All, AllPairs, Contains, ◌⊎◌, inl, inr, refl, sym, ap, subst, ◌∙◌, arith}
use Rattle.std.specs.List.{list_any, list_all}
use Rattle.std.proofs.lemmas.Bool.{and_parts, and_from, true≢false}
use Rattle.std.proofs.lemmas.Bool.Decides.{Decides-eqb}
use Rattle.std.proofs.lemmas.List.Elements.{All-contains, Contains-append_left, Contains-append_right, Contains-append_cases, Contains-get_or}
use Rattle.fund_calendar.specs.declared.pricing_day.PricingDay.{PricingDay}
use Rattle.fund_calendar.specs.PricingDays.{Listing}
use Rattle.forward_price.specs.declared.price_sheet.Opening.{Opening}
use Rattle.forward_price.specs.declared.price_sheet.Sheet.{Sheet}
use Rattle.forward_price.specs.Sheets.{lists_class, lists_all}
use Rattle.forward_price.specs.Choices.{IsBest}
use Rattle.forward_price.specs.PriceTables.{Table, calendar_numbered, is_sheet_at, next_sheet, NextPrice}
use Rattle.forward_price.specs.Turns.{asks_for, opened_by, is_due, calendar_in, due_on, due_of, moments_of, pricing_pair, pairs_of, pricing_pairs, is_offered_at, is_awaited, must_list}
use Rattle.forward_price.specs.Orderly.{IsOrderly}
use Rattle.forward_price.proofs.ChoiceFacts.{best-choice, same_choice}
use Rattle.forward_price.proofs.TurnFacts.{less-order, nat_same}
use Rattle.forward_price.proofs.PricingFacts.{next_sheet-next, lt_fact, lt_test}

tested : (b : Bool) → (b ≡ true) ⊎ (b ≡ false)
tested true = inl refl
tested false = inr refl

clash : {P : Type 0} (b : Bool) → b ≡ true → b ≡ false → P
clash b t f = absurd (true≢false (sym t ∙ f))

-- what a test finds is an element
pub found_in : {X : Type 0} (p : X → Bool) (xs : List X) → list_any p xs ≡ true → (x : X) × (Contains xs x) × (p x ≡ true)
found_in p [] e = absurd (true≢false (sym e))
found_in p (x ∷ xs) e = elim (tested (p x)) [
  | inl here ↦ (x, (0, omega arith, refl), here)
  | inr apart ↦ (let rest = found_in p xs (rw apart at e) in (rest.0, (suc rest.1.0, omega (arith, rest.1.1), rest.1.2), rest.2))
]

or_right : (a b : Bool) → b ≡ true → (a || b) ≡ true
or_right true b e = refl
or_right false b e = e

or_left : (a b : Bool) → a ≡ true → (a || b) ≡ true
or_left a b e = rw e refl

pub any_from : {X : Type 0} (p : X → Bool) (xs : List X) (x : X) → Contains xs x → p x ≡ true → list_any p xs ≡ true
any_from p [] x (k, l, e) h = absurd (omega arith)
any_from p (y ∷ ys) x (zero, l, e) h = or_left (p y) (list_any p ys) (subst (λ z. p z ≡ true) (sym e) h)
any_from p (y ∷ ys) x (suc k, l, e) h = or_right (p y) (list_any p ys) (any_from p ys x (k, omega arith, e) h)

-- a test of all
pub all_from : {X : Type 0} (p : X → Bool) (xs : List X) → ((x : X) → Contains xs x → p x ≡ true) → list_all p xs ≡ true
all_from p [] h = refl
all_from p (x ∷ xs) h =
    and_from (p x) (list_all p xs) (h x (0, omega arith, refl)) (all_from p xs (λ y in'. h y (suc in'.0, omega (arith, in'.1), in'.2)))

pub all_to : {X : Type 0} (p : X → Bool) (xs : List X) (x : X) → list_all p xs ≡ true → Contains xs x → p x ≡ true
all_to p [] x e (k, l, s) = absurd (omega arith)
all_to p (y ∷ ys) x e (zero, l, s) = subst (λ z. p z ≡ true) s (and_parts (p y) (list_all p ys) e).0
all_to p (y ∷ ys) x e (suc k, l, s) = all_to p ys x (and_parts (p y) (list_all p ys) e).1 (k, omega arith, s)

-- two openings of one class are one
pub same_opening : (classes : List Opening) (x y : Opening) → AllPairs (λ a b. a.class ≢ b.class) classes → Contains classes x → Contains classes y → x.class ≡ y.class → x ≡ y
same_opening classes x y differ (i, li, ei) (j, lj, ej) same =
    by i j li lj ei ej
  where
    read : (k : ℕ) (d e : Opening) → k < length classes → get_or classes k d ≡ get_or classes k e
    read k d e l = get_or_any classes k d e l
      where
        get_or_any : (xs : List Opening) (k : ℕ) (d e : Opening) → k < length xs → get_or xs k d ≡ get_or xs k e
        get_or_any [] k d e l = absurd (omega arith)
        get_or_any (z ∷ zs) zero d e l = refl
        get_or_any (z ∷ zs) (suc k) d e l = get_or_any zs k d e (omega arith)

    order : (i j : ℕ) → ((i < j) ⊎ (j < i)) ⊎ (i ≡ j)
    order zero zero = inr refl
    order zero (suc j) = inl (inl (omega arith))
    order (suc i) zero = inl (inr (omega arith))
    order (suc i) (suc j) = elim (order i j) [
      | inl (inl lt) ↦ inl (inl (omega arith))
      | inl (inr gt) ↦ inl (inr (omega arith))
      | inr e ↦ inr (ap suc e)
    ]

    by : (i j : ℕ) → i < length classes → j < length classes → get_or classes i x ≡ x → get_or classes j y ≡ y → x ≡ y
    by i j li lj ei ej = elim (order i j) [
      | inl (inl lt) ↦ absurd (differ i j x lt lj (ap (λ o. o.class) ei ∙ same ∙ ap (λ o. o.class) (sym ej ∙ read j y x lj)))
      | inl (inr gt) ↦ absurd (differ j i y gt li (ap (λ o. o.class) ej ∙ sym same ∙ ap (λ o. o.class) (sym ei ∙ read i x y li)))
      | inr e ↦ sym ei ∙ subst (λ k. get_or classes i x ≡ get_or classes k x) e refl ∙ read j x y lj ∙ ej
    ]

-- the opening of a class that must be listed
pub must_opening : (classes : List Opening) (calendar : ℕ) (moment : ℕ) (n : ℕ) → must_list classes calendar moment n ≡ true → (x : Opening) × (Contains classes x) × (x.class ≡ n) × (x.calendar ≡ calendar) × (nat_lt x.opened moment ≡ true)
must_opening classes calendar moment n e =
    let found = found_in (λ (class : Opening). (class.class == n) && is_offered_at calendar moment class) classes e in
    let x = found.0 in
    let parts = and_parts (x.class == n) (is_offered_at calendar moment x) found.2 in
    let more = and_parts (x.calendar == calendar) (nat_lt x.opened moment) parts.1 in
    (x, found.1, (Decides-eqb x.class n).0 parts.0, (Decides-eqb x.calendar calendar).0 more.0, more.1)

pub must_from : (classes : List Opening) (calendar : ℕ) (moment : ℕ) (n : ℕ) (x : Opening) → Contains classes x → x.class ≡ n → x.calendar ≡ calendar → nat_lt x.opened moment ≡ true → must_list classes calendar moment n ≡ true
must_from classes calendar moment n x in' class of opened =
    any_from (λ (c : Opening). (c.class == n) && is_offered_at calendar moment c) classes x in'
    (and_from (x.class == n) (is_offered_at calendar moment x) ((Decides-eqb x.class n).1 class) (and_from (x.calendar == calendar) (nat_lt x.opened moment) ((Decides-eqb x.calendar calendar).1 of) opened))

-- a number of the list is asked for
asked_number : (asked : List ℕ) (class : Opening) → asks_for asked class ≡ true → Contains asked class.class
asked_number asked class e =
    let found = found_in (λ n. n == class.class) asked e in
    subst (Contains asked) ((Decides-eqb found.0 class.class).0 found.2) found.1

number_asked : (asked : List ℕ) (class : Opening) (n : ℕ) → Contains asked n → n ≡ class.class → asks_for asked class ≡ true
number_asked asked class n in' e = any_from (λ m. m == class.class) asked n in' ((Decides-eqb n class.class).1 e)

-- the calendar of a pricing pair
pairs_number : (c : Listing) (pair : ℕ × ℕ) → Contains (pairs_of c) pair → (Contains (moments_of c) pair.0) × (c.number ≡ pair.1)
pairs_number c pair in' = go c.days pair in'
  where
    go : (days : List PricingDay) (pair : ℕ × ℕ) → Contains (map (pricing_pair c.number) days) pair → (Contains (map (λ (e : PricingDay). e.moment) days) pair.0) × (c.number ≡ pair.1)
    go [] pair (k, l, e) = absurd (omega arith)
    go (d ∷ ds) pair (zero, l, e) = ((0, omega arith, ap (λ p. p.0) e), ap (λ p. p.1) e)
    go (d ∷ ds) pair (suc k, l, e) = (let rest = go ds pair (k, omega arith, e) in ((suc rest.0.0, omega (arith, rest.0.1), rest.0.2), rest.1))

moment_pair : (c : Listing) (m : ℕ) → Contains (moments_of c) m → Contains (pairs_of c) (m, c.number)
moment_pair c m in' = go c.days m in'
  where
    go : (days : List PricingDay) (m : ℕ) → Contains (map (λ (e : PricingDay). e.moment) days) m → Contains (map (pricing_pair c.number) days) (m, c.number)
    go [] m (k, l, e) = absurd (omega arith)
    go (d ∷ ds) m (zero, l, e) = (0, omega arith, ap (λ z. (z, c.number)) e)
    go (d ∷ ds) m (suc k, l, e) = (let rest = go ds m (k, omega arith, e) in (suc rest.0, omega (arith, rest.1), rest.2))

pub differ_rest : (x : Listing) (xs : List Listing) → AllPairs (λ a b. a.number ≢ b.number) (x ∷ xs) → AllPairs (λ a b. a.number ≢ b.number) xs
differ_rest x xs differ i j d lt l = differ (suc i) (suc j) d (omega arith) (omega arith)

-- a pricing pair is one of the calendar of its number
pub pair_calendar : (calendars : List Listing) (pair : ℕ × ℕ) → AllPairs (λ a b. a.number ≢ b.number) calendars → Contains (pricing_pairs calendars) pair → (c : Listing) × (calendar_numbered calendars pair.1 ≡ Some c) × (Contains calendars c) × (Contains (moments_of c) pair.0) × (c.number ≡ pair.1)
pair_calendar [] pair differ (k, l, e) = absurd (omega arith)
pair_calendar (x ∷ xs) pair differ in' = elim (Contains-append_cases (pairs_of x) (pricing_pairs xs) pair in') [
  | inl here ↦ (let is = pairs_number x pair here in (x, rw ((Decides-eqb x.number pair.1).1 is.1) refl, (0, omega arith, refl), is.0, is.1))
  | inr there ↦ (
      let rest = pair_calendar xs pair (differ_rest x xs differ) there in
      let apart : (x.number == pair.1) ≡ false = elim (tested (x.number == pair.1)) [
        | inl same ↦ absurd (differ 0 (suc rest.2.0) rest.0 (omega arith) (omega (arith, rest.2.1)) ((Decides-eqb x.number pair.1).0 same ∙ sym (ap (λ c. c.number) rest.2.2 ∙ rest.4)))
        | inr no_match ↦ no_match
      ] in
      (rest.0, rw apart rest.1, (suc rest.2.0, omega (arith, rest.2.1), rest.2.2), rest.3, rest.4)
      )
]

pub calendar_pair : (calendars : List Listing) (n : ℕ) (c : Listing) (m : ℕ) → calendar_numbered calendars n ≡ Some c → Contains (moments_of c) m → Contains (pricing_pairs calendars) (m, n)
calendar_pair [] n c m e in' = cc
calendar_pair (x ∷ xs) n c m e in' = elim (tested (x.number == n)) [
  | inl here ↦ (
      let same : x ≡ c = (let f = rw here at e in cc) in
      Contains-append_left (pairs_of x) (pricing_pairs xs) (m, n)
      (subst (λ k. Contains (pairs_of x) (m, k)) ((Decides-eqb x.number n).0 here) (moment_pair x m (subst (λ d. Contains (moments_of d) m) (sym same) in')))
      )
  | inr apart ↦ Contains-append_right (pairs_of x) (pricing_pairs xs) (m, n) (calendar_pair xs n c m (rw apart at e) in')
]

-- what a sheet lists was opened before it on its calendar
pub listed_opening : (t : Table) (s : Sheet) (n : ℕ) → IsOrderly t → Contains t.sheets s → lists_class s.prices n ≡ true → (x : Opening) × (Contains t.classes x) × (x.class ≡ n) × (x.calendar ≡ s.calendar) × (nat_lt x.opened s.moment ≡ true)
listed_opening t s n orderly in' lists =
    must_opening t.classes s.calendar s.moment n
    (sym (All-contains (λ sheet. (number : ℕ) → lists_class sheet.prices number ≡ must_list t.classes sheet.calendar sheet.moment number) t.sheets s orderly.complete in' n) ∙ lists)

-- the opening of a class asked for is that of the sheet's calendar, before its moment
pub asked_opening : (t : Table) (s : Sheet) (asked : List ℕ) (y : Opening) → IsOrderly t → Contains t.sheets s → lists_all s.prices asked ≡ true → Contains t.classes y → asks_for asked y ≡ true → (y.calendar ≡ s.calendar) × (nat_lt y.opened s.moment ≡ true)
asked_opening t s asked y orderly in' lists iny asks =
    let x = listed_opening t s y.class orderly in' (all_to (λ class. lists_class s.prices class) asked y.class lists (asked_number asked y asks)) in
    let same = same_opening t.classes x.0 y orderly.classes_differ x.1 iny x.2 in
    (subst (λ o. o.calendar ≡ s.calendar) same x.3, subst (λ o. nat_lt o.opened s.moment ≡ true) same x.4)

-- the due moment of a priced order is that of its sheet
due_best : (t : Table) (s : Sheet) (asked : List ℕ) (receipt : ℕ) (a : ℕ) (c : Listing) → IsOrderly t → NextPrice t.sheets asked receipt s → Contains asked a → calendar_numbered t.calendars s.calendar ≡ Some c → Contains (moments_of c) s.moment → IsBest (is_due t.classes asked receipt) nat_lt (moments_of c) s.moment
due_best t s asked receipt a c orderly next ina of among = record {
  among = among;
  here = and_from (nat_lt receipt s.moment) (list_all (opened_by asked s.moment) t.classes) (lt_test receipt s.moment next.after) (all_from (opened_by asked s.moment) t.classes opened_here);
  best = λ k d short due. elim (tested (nat_lt (get_or (moments_of c) k d) s.moment)) [
    | inl earlier ↦ absurd (not_passed (get_or (moments_of c) k d) (Contains-get_or (moments_of c) k d short) due earlier)
    | inr later ↦ later
  ];
}
  where
    opened_here : (y : Opening) → Contains t.classes y → opened_by asked s.moment y ≡ true
    opened_here y iny = elim (tested (asks_for asked y)) [
      | inl asks ↦ rw asks (asked_opening t s asked y orderly next.among next.lists iny asks).1
      | inr passes ↦ rw passes refl
    ]

    not_passed : (m : ℕ) → Contains (moments_of c) m → is_due t.classes asked receipt m ≡ true → nat_lt m s.moment ≡ true → ⊥
    not_passed m inm due earlier =
        let parts = and_parts (nat_lt receipt m) (list_all (opened_by asked m) t.classes) due in
        let inpairs = calendar_pair t.calendars s.calendar c m of inm in
        let passed = All-contains (λ sheet. All (λ pair. pair.1 ≡ sheet.calendar → pair.0 ≤ sheet.moment → is_awaited t.classes t.sheets pair ≡ false) (pricing_pairs t.calendars)) t.sheets s orderly.none_passed next.among in
        let upto : m ≤ s.moment = (let less = lt_fact m s.moment earlier in omega arith) in
        let not_awaited = All-contains (λ pair. pair.1 ≡ s.calendar → pair.0 ≤ s.moment → is_awaited t.classes t.sheets pair ≡ false) (pricing_pairs t.calendars) (m, s.calendar) passed inpairs refl upto in
        let x = listed_opening t s a orderly next.among (all_to (λ class. lists_class s.prices class) asked a next.lists ina) in
        let offered : list_any (is_offered_at s.calendar m) t.classes ≡ true = any_from (is_offered_at s.calendar m) t.classes x.0 x.1 (and_from (x.0.calendar == s.calendar) (nat_lt x.0.opened m) ((Decides-eqb x.0.calendar s.calendar).1 x.3) (opened_at m parts.1 x.0 x.1 (number_asked asked x.0 a ina (sym x.2)))) in
        let published = published_then (list_any (is_offered_at s.calendar m) t.classes) (list_any (is_sheet_at s.calendar m) t.sheets) offered not_awaited in
        let other = found_in (is_sheet_at s.calendar m) t.sheets published in
        let at = and_parts (other.0.calendar == s.calendar) ((other.0.moment == m)) other.2 in
        let same_calendar : other.0.calendar ≡ s.calendar = (Decides-eqb other.0.calendar s.calendar).0 at.0 in
        let same_moment : other.0.moment ≡ m = (Decides-eqb other.0.moment m).0 at.1 in
        let lists : lists_all other.0.prices asked ≡ true = all_from (λ class. lists_class other.0.prices class) asked (λ n inn.
        let y = listed_opening t s n orderly next.among (all_to (λ class. lists_class s.prices class) asked n next.lists inn) in
        All-contains (λ sheet. (number : ℕ) → lists_class sheet.prices number ≡ must_list t.classes sheet.calendar sheet.moment number) t.sheets other.0 orderly.complete other.1 n
        ∙ must_from t.classes other.0.calendar other.0.moment n y.0 y.1 y.2 (y.3 ∙ sym same_calendar) (subst (λ z. nat_lt y.0.opened z ≡ true) (sym same_moment) (opened_at m parts.1 y.0 y.1 (number_asked asked y.0 n inn (sym y.2))))) in
        let after : receipt < other.0.moment = subst (λ z. receipt < z) (sym same_moment) (lt_fact receipt m parts.0) in
        let no_later : s.moment ≤ other.0.moment = All-contains (λ o. lists_all o.prices asked ≡ true → receipt < o.moment → s.moment ≤ o.moment) t.sheets other.0 next.next other.1 lists after in
        let less = lt_fact m s.moment earlier in
        omega arith
      where
        opened_at : (m : ℕ) → list_all (opened_by asked m) t.classes ≡ true → (y : Opening) → Contains t.classes y → asks_for asked y ≡ true → nat_lt y.opened m ≡ true
        opened_at m all y iny asks = rw asks at (all_to (opened_by asked m) t.classes y all iny)

        published_then : (offered there : Bool) → offered ≡ true → (offered && not there) ≡ false → there ≡ true
        published_then true true e f = refl
        published_then true false e f = absurd (true≢false f)
        published_then false there e f = absurd (true≢false (sym e))

pub first_asked : (asked : List ℕ) → 0 < length asked → (a : ℕ) × (Contains asked a) × (a ≡ a)
first_asked [] h = absurd (omega arith)
first_asked (a ∷ more) h = (a, (0, omega arith, refl), refl)

-- the first class asked for that is found
find_passes : {X : Type 0} (p : X → Bool) (xs : List X) → list_any p xs ≡ true → (x : X) × (find p xs ≡ Some x) × (Contains xs x) × (p x ≡ true)
find_passes p [] e = absurd (true≢false (sym e))
find_passes p (x ∷ xs) e = elim (tested (p x)) [
  | inl here ↦ (x, rw here refl, (0, omega arith, refl), here)
  | inr apart ↦ (let rest = find_passes p xs (rw apart at e) in (rest.0, rw apart rest.1, (suc rest.2.0, omega (arith, rest.2.1), rest.2.2), rest.3))
]

pub priced_when_due : (t : Table) (asked : List ℕ) (receipt : ℕ) (s : Sheet) → IsOrderly t → 0 < length asked → next_sheet t.sheets asked receipt ≡ Some s → due_of t asked receipt ≡ Some s.moment
priced_when_due t asked receipt s orderly some e =
    let next = next_sheet-next t.sheets asked receipt s e in
    let a = first_asked asked some in
    let x = listed_opening t s a.0 orderly next.among (all_to (λ class. lists_class s.prices class) asked a.0 next.lists a.1) in
    let y = find_passes (asks_for asked) t.classes (any_from (asks_for asked) t.classes x.0 x.1 (number_asked asked x.0 a.0 a.1 (sym x.2))) in
    let of = asked_opening t s asked y.0 orderly next.among next.lists y.2 y.3 in
    let on = All-contains (λ sheet. Contains (pricing_pairs t.calendars) (sheet.moment, sheet.calendar)) t.sheets s orderly.on_pricing_days next.among in
    let c = pair_calendar t.calendars (s.moment, s.calendar) orderly.calendars_differ on in
    let calendar : calendar_in t.calendars t.classes asked ≡ Some c.0 =
    ap (option_and_then (λ class. calendar_numbered t.calendars class.calendar)) y.1 ∙ ap (calendar_numbered t.calendars) of.0 ∙ c.1 in
    let is = due_best t s asked receipt a.0 c.0 orderly next a.1 c.1 c.3 in
    ap (option_and_then (due_on t.classes asked receipt)) calendar
    ∙ same_choice (is_due t.classes asked receipt) nat_lt nat_same (moments_of c.0) (due_on t.classes asked receipt c.0) (Some s.moment) (best-choice (is_due t.classes asked receipt) nat_lt less-order (moments_of c.0)) is

-- Sheets whose moments never fall: a moment parts them, and the prices nearest to it are those of all sheets.
use Rattle.std.proofs.Common.{◌≡◌, ℕ, ◌<◌, ◌≤◌, nat_lt, nat_le, true, false, ◌+◌, ◌-◌, List, [], ◌∷◌, ◌++◌, length, get_or, take, drop, slice_get, Some, None, All, Contains, inl, inr, sym, ap, subst, ◌∙◌, arith}
use Rattle.std.specs.List.Sorted.{IsPartitionPoint, IsPartitionedBy}
use Rattle.std.proofs.lemmas.Option.{get_or_from_slice_get}
use Rattle.std.proofs.lemmas.Bool.Decides.{nat_tests}
use Rattle.std.proofs.lemmas.Bool.{and_left, and_right, and_from, cases_eq}
use Rattle.std.proofs.lemmas.List.{take_all, take-append-drop, get_or-take, get_or-drop, length-drop, length-map}
use Rattle.std.proofs.lemmas.List.Elements.{All-weaker, All-contains, Contains-append_cases}
use Rattle.std.proofs.lemmas.List.Quantifiers.{all_pairs_push}
use Rattle.forward_price.specs.declared.price_sheet.Sheet.{Sheet}
use Rattle.forward_price.specs.Sheets.{lists_class, lists_all}
use Rattle.forward_price.specs.PriceTables.{NeverFall, prices_order, is_earlier, next_sheet, is_before, is_later, sheet_before, sheets_with_nav, corrected_sheet}
use Rattle.forward_price.proofs.ChoiceFacts.{best_of_none, best_behind, best_in_front, best_stays, best_wins, some_best}
use Rattle.forward_price.proofs.TurnFacts.{earlier-order, later-order}
use Rattle.forward_price.proofs.NumberFacts.{within, long, map_get}
use Rattle.forward_price.proofs.PatchFacts.{moment-kept}

-- what holds up to a place and what holds from it on
front_of : {X : Type 0} (P : X → Type 0) (xs : List X) (n : ℕ) → ((k : ℕ) (d : X) → 0 ≤ k → k < n → P (get_or xs k d)) → All P (take n xs)
front_of P xs n h k d l = let short = within xs n k l in subst P (sym (get_or-take n xs k d short)) (h k d (omega arith) short)

back_of : {X : Type 0} (P : X → Type 0) (xs : List X) (n : ℕ) → ((k : ℕ) (d : X) → n ≤ k → k < length xs → P (get_or xs k d)) → All P (drop n xs)
back_of P xs n h k d l = subst P (sym (get_or-drop n xs k d)) (h (n + k) d (omega arith) (omega (arith, l, length-drop n xs)))

pub falls_taken : (n : ℕ) (sheets : List Sheet) → NeverFall sheets → NeverFall (take n sheets)
falls_taken n sheets never i j d lt l =
    let short = within sheets n j l in
    rw (get_or-take n sheets i d (omega arith), get_or-take n sheets j d short) (never i j d lt (long sheets n j l))

pub falls_dropped : (n : ℕ) (sheets : List Sheet) → NeverFall sheets → NeverFall (drop n sheets)
falls_dropped n sheets never i j d lt l =
    rw (get_or-drop n sheets i d, get_or-drop n sheets j d) (never (n + i) (n + j) d (omega arith) (omega (arith, l, length-drop n sheets)))

pub falls_pushed : (sheets : List Sheet) (s : Sheet) → NeverFall sheets → All (λ o. o.moment ≤ s.moment) sheets → NeverFall (sheets ++ s ∷ [])
falls_pushed sheets s never upto = all_pairs_push (λ a b. a.moment ≤ b.moment) sheets s never (λ k d l. upto k d l)

pub falls_corrected : (class number nav : ℕ) (sheets : List Sheet) → NeverFall sheets → NeverFall (sheets_with_nav class number nav sheets)
falls_corrected class number nav sheets never i j d lt l =
    let back : j < length sheets = subst (λ n. j < n) (length-map sheets (corrected_sheet class number nav)) l in
    let front : i < length sheets = omega arith in
    rw (map_get class number nav sheets i d front, map_get class number nav sheets j d back, moment-kept class number nav (get_or sheets i d), moment-kept class number nav (get_or sheets j d)) (never i j d lt back)

-- the last one has the greatest moment
pub last_is_most : (sheets : List Sheet) (moment : ℕ) (t : Sheet) → NeverFall sheets → slice_get sheets (length sheets - 1) ≡ Some t → nat_le t.moment moment ≡ true → All (λ o. o.moment ≤ moment) sheets
last_is_most sheets moment t never at most k d l =
    let last : get_or sheets (length sheets - 1) d ≡ t = get_or_from_slice_get sheets (length sheets - 1) t d at in
    let upto : t.moment ≤ moment = grind (arith, nat_tests) in
    elim (cases_eq k (length sheets - 1)) [
      | inl same ↦ subst (λ n. (get_or sheets n d).moment ≤ moment) (sym same) (rw last upto)
      | inr apart ↦ (let less = rw last at (never k (length sheets - 1) d (omega arith) (omega arith)) in omega arith)
    ]

-- all that stands from a place on
pub rest_of : {X : Type 0} (n : ℕ) (xs : List X) → take (length xs - n) (drop n xs) ≡ drop n xs
rest_of n xs = take_all (length xs - n) (drop n xs) (omega (arith, length-drop n xs))

-- the sheets before a moment stand in front of the others
pub parted_before : (moment : ℕ) (sheets : List Sheet) → NeverFall sheets → IsPartitionedBy (λ s. nat_lt s.moment moment) sheets
parted_before moment sheets never i j d le l e = elim (cases_eq i j) [
  | inl same ↦ subst (λ n. nat_lt (get_or sheets n d).moment moment ≡ true) (sym same) e
  | inr apart ↦ (let less = never i j d (omega arith) l in grind (arith, nat_tests))
]

pub before_from : (moment : ℕ) (sheets : List Sheet) (n : ℕ) → IsPartitionPoint (λ s. nat_lt s.moment moment ≡ true) (λ s. nat_lt s.moment moment ≡ false) sheets n → IsPartitionPoint (λ s. s.moment < moment) (λ s. moment ≤ s.moment) sheets n
before_from moment sheets n (front, back) = ((λ k d low lt. (let f = front k d low lt in grind (arith, nat_tests))), (λ k d low lt. (let b = back k d low lt in grind (arith, nat_tests))))

-- and so do those up to it
pub parted_up_to : (moment : ℕ) (sheets : List Sheet) → NeverFall sheets → IsPartitionedBy (λ s. nat_le s.moment moment) sheets
parted_up_to moment sheets never i j d le l e = elim (cases_eq i j) [
  | inl same ↦ subst (λ n. nat_le (get_or sheets n d).moment moment ≡ true) (sym same) e
  | inr apart ↦ (let less = never i j d (omega arith) l in grind (arith, nat_tests))
]

pub up_to_from : (moment : ℕ) (sheets : List Sheet) (n : ℕ) → IsPartitionPoint (λ s. nat_le s.moment moment ≡ true) (λ s. nat_le s.moment moment ≡ false) sheets n → IsPartitionPoint (λ s. s.moment ≤ moment) (λ s. moment < s.moment) sheets n
up_to_from moment sheets n (front, back) = ((λ k d low lt. (let f = front k d low lt in grind (arith, nat_tests))), (λ k d low lt. (let b = back k d low lt in grind (arith, nat_tests))))

pub all_in_front : (P Q : Sheet → Type 0) (sheets : List Sheet) (n : ℕ) → IsPartitionPoint P Q sheets n → All P (take n sheets)
all_in_front P Q sheets n point = front_of P sheets n point.0

pub all_behind : (P Q : Sheet → Type 0) (sheets : List Sheet) (n : ℕ) → IsPartitionPoint P Q sheets n → All Q (drop n sheets)
all_behind P Q sheets n point = back_of Q sheets n point.1

-- none lists what is asked for
pub none_listed_next : (sheets : List Sheet) (asked : List ℕ) (receipt : ℕ) → All (λ s. lists_all s.prices asked ≡ false) sheets → next_sheet sheets asked receipt ≡ None
none_listed_next sheets asked receipt none =
    best_of_none (prices_order asked receipt) is_earlier earlier-order sheets (All-weaker (λ s. lists_all s.prices asked ≡ false) (λ s. prices_order asked receipt s ≡ false) (λ s fails. and_right (nat_lt receipt s.moment) (lists_all s.prices asked) fails) sheets none)

pub none_listed_before : (sheets : List Sheet) (class : ℕ) (moment : ℕ) → All (λ s. lists_class s.prices class ≡ false) sheets → sheet_before sheets class moment ≡ None
none_listed_before sheets class moment none =
    best_of_none (is_before class moment) is_later later-order sheets (All-weaker (λ s. lists_class s.prices class ≡ false) (λ s. is_before class moment s ≡ false) (λ s fails. and_right (nat_lt s.moment moment) (lists_class s.prices class) fails) sheets none)

-- sheets up to the receipt price no order
pub next_from : (sheets : List Sheet) (asked : List ℕ) (receipt : ℕ) (n : ℕ) → IsPartitionPoint (λ s. s.moment ≤ receipt) (λ s. receipt < s.moment) sheets n → next_sheet (drop n sheets) asked receipt ≡ next_sheet sheets asked receipt
next_from sheets asked receipt n point =
    sym (best_behind (prices_order asked receipt) is_earlier earlier-order (take n sheets) (drop n sheets)
    (All-weaker (λ s. s.moment ≤ receipt) (λ s. prices_order asked receipt s ≡ false) (λ s upto. (let fails : nat_lt receipt s.moment ≡ false = grind (arith, nat_tests) in and_left (nat_lt receipt s.moment) (lists_all s.prices asked) fails)) (take n sheets) (front_of (λ s. s.moment ≤ receipt) sheets n point.0)))
    ∙ ap (λ l. next_sheet l asked receipt) (take-append-drop n sheets)

-- no sheet behind one that lists all is nearer
pub next_within : (sheets : List Sheet) (asked : List ℕ) (receipt : ℕ) (n : ℕ) (f : Sheet) → Contains sheets f → lists_all f.prices asked ≡ true → All (λ s. receipt < s.moment) sheets → IsPartitionPoint (λ s. s.moment ≤ f.moment) (λ s. f.moment < s.moment) sheets n → next_sheet (take n sheets) asked receipt ≡ next_sheet sheets asked receipt
next_within sheets asked receipt n f at lists after point =
    let front = front_of (λ s. s.moment ≤ f.moment) sheets n point.0 in
    let back = back_of (λ s. f.moment < s.moment) sheets n point.1 in
    let received : receipt < f.moment = All-contains (λ s. receipt < s.moment) sheets f after at in
    let passes : prices_order asked receipt f ≡ true = and_from (nat_lt receipt f.moment) (lists_all f.prices asked) (grind (arith, nat_tests)) lists in
    let there : Contains (take n sheets) f = elim (Contains-append_cases (take n sheets) (drop n sheets) f (subst (λ l. Contains l f) (sym (take-append-drop n sheets)) at)) [
      | inl here ↦ here
      | inr apart ↦ (let less = All-contains (λ s. f.moment < s.moment) (drop n sheets) f back apart in absurd (omega arith))
    ] in
    let found = some_best (prices_order asked receipt) is_earlier earlier-order (take n sheets) f there passes in
    let s = found.0 in
    let upto : s.moment ≤ f.moment = All-contains (λ o. o.moment ≤ f.moment) (take n sheets) s front found.2.among in
    found.1
    ∙ sym (best_stays (prices_order asked receipt) is_earlier earlier-order (take n sheets) (drop n sheets) s found.1
    (All-weaker (λ o. f.moment < o.moment) (λ o. prices_order asked receipt o ≡ true → is_earlier o s ≡ false) (λ o less _. grind (arith, nat_tests)) (drop n sheets) back))
    ∙ ap (λ l. next_sheet l asked receipt) (take-append-drop n sheets)

-- sheets from the moment on aren't before it
pub before_within : (sheets : List Sheet) (class : ℕ) (moment : ℕ) (n : ℕ) → IsPartitionPoint (λ s. s.moment < moment) (λ s. moment ≤ s.moment) sheets n → sheet_before (take n sheets) class moment ≡ sheet_before sheets class moment
before_within sheets class moment n point =
    sym (best_in_front (is_before class moment) is_later later-order (take n sheets) (drop n sheets)
    (All-weaker (λ s. moment ≤ s.moment) (λ s. is_before class moment s ≡ false) (λ s from. (let fails : nat_lt s.moment moment ≡ false = grind (arith, nat_tests) in and_left (nat_lt s.moment moment) (lists_class s.prices class) fails)) (drop n sheets) (back_of (λ s. moment ≤ s.moment) sheets n point.1)))
    ∙ ap (λ l. sheet_before l class moment) (take-append-drop n sheets)

-- no sheet before the moment of one that lists the class is nearer
pub before_from_last : (sheets : List Sheet) (class : ℕ) (moment : ℕ) (n : ℕ) (f : Sheet) → Contains sheets f → lists_class f.prices class ≡ true → All (λ s. s.moment < moment) sheets → IsPartitionPoint (λ s. s.moment < f.moment) (λ s. f.moment ≤ s.moment) sheets n → sheet_before (drop n sheets) class moment ≡ sheet_before sheets class moment
before_from_last sheets class moment n f at lists before point =
    let front = front_of (λ s. s.moment < f.moment) sheets n point.0 in
    let back = back_of (λ s. f.moment ≤ s.moment) sheets n point.1 in
    let sooner : f.moment < moment = All-contains (λ s. s.moment < moment) sheets f before at in
    let passes : is_before class moment f ≡ true = and_from (nat_lt f.moment moment) (lists_class f.prices class) (grind (arith, nat_tests)) lists in
    let there : Contains (drop n sheets) f = elim (Contains-append_cases (take n sheets) (drop n sheets) f (subst (λ l. Contains l f) (sym (take-append-drop n sheets)) at)) [
      | inl apart ↦ (let less = All-contains (λ s. s.moment < f.moment) (take n sheets) f front apart in absurd (omega arith))
      | inr here ↦ here
    ] in
    let found = some_best (is_before class moment) is_later later-order (drop n sheets) f there passes in
    let s = found.0 in
    let from : f.moment ≤ s.moment = All-contains (λ o. f.moment ≤ o.moment) (drop n sheets) s back found.2.among in
    found.1
    ∙ sym (best_wins (is_before class moment) is_later later-order (take n sheets) (drop n sheets) s found.1
    (All-weaker (λ o. o.moment < f.moment) (λ o. is_before class moment o ≡ true → is_later s o ≡ true) (λ o less _. grind (arith, nat_tests)) (take n sheets) front))
    ∙ ap (λ l. sheet_before l class moment) (take-append-drop n sheets)

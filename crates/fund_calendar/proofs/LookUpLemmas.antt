-- What a search in rising days finds.
use Rattle.std.proofs.Common.{◌≡◌, ℕ, zero, suc, ◌<◌, ◌≤◌, ◌==◌, Bool, true, false, cond, not, nat_le, ltb, is_lt, nat_cmp, List, [], ◌∷◌, length, get_or, find, filter, slice_get, ◌||◌, Option, Some, None, is_some, refl, sym, ap, ◌∙◌, inl, inr, arith, ◌+◌, nat_lt, option_map}
use Rattle.std.specs.Prelude.{All, AllPairs, IfSome, IfNone, remove}
use Rattle.std.specs.List.{list_any}
use Rattle.std.specs.List.Sorted.{IsNonDecreasingBy, IsPartitionPoint}
use Rattle.std.proofs.lemmas.Bool.{cases_lt}
use Rattle.std.proofs.lemmas.Bool.Decides.{leb_tells, eqb_tells, nat_tests, Decides-eqb, Decides-ltb}
use Rattle.std.proofs.lemmas.List.Elements.{All-cons}
use Rattle.std.proofs.lemmas.List.Kept.{AllPairs-filter}
use Rattle.fund_calendar.specs.declared.pricing_day.PricingDay.{PricingDay}
use Rattle.fund_calendar.specs.PricingDays.{IsListing, first_above, IsLeastAbove, HasNoneAbove}

-- pairs that rise don't fall
pub non_decreasing : {X : Type 0} (n : X → ℕ) (xs : List X) → AllPairs (λ a b. n a < n b) xs → IsNonDecreasingBy n xs
non_decreasing n xs rise i j d le short = elim (cases_lt i j) [
  | inl lt ↦ let above = rise i j d lt short in omega arith
  | inr ge ↦ let same : i ≡ j = omega arith in rw same (omega arith)
]

-- the first element that passes stands behind those that don't
pub find_at : {X : Type 0} (p : X → Bool) (xs : List X) (i : ℕ) → ((k : ℕ) (d : X) → k < i → k < length xs → p (get_or xs k d) ≡ false) → ((d : X) → i < length xs → p (get_or xs i d) ≡ true) → find p xs ≡ slice_get xs i
find_at p [] i before here = refl
find_at p (x ∷ xs) zero before here = rw (here x (omega arith)) refl
find_at p (x ∷ xs) (suc i) before here =
    rw (before 0 x (omega arith) (omega arith)) (find_at p xs i (λ k d lt short. before (suc k) d (omega arith) (omega arith)) (λ d short. here d (omega arith)))

pub find_none : {X : Type 0} (p : X → Bool) (xs : List X) → ((k : ℕ) (d : X) → k < length xs → p (get_or xs k d) ≡ false) → find p xs ≡ None
find_none p [] none = refl
find_none p (x ∷ xs) none = rw (none 0 x (omega arith)) (find_none p xs (λ k d short. none (suc k) d (omega arith)))

-- the element at a place within
pub get_within : {X : Type 0} (xs : List X) (i : ℕ) (d : X) → i < length xs → slice_get xs i ≡ Some (get_or xs i d)
get_within [] i d h = absurd (omega arith)
get_within (x ∷ xs) zero d h = refl
get_within (x ∷ xs) (suc i) d h = get_within xs i d (omega arith)

pub get_past : {X : Type 0} (xs : List X) (i : ℕ) → length xs ≤ i → slice_get xs i ≡ None
get_past [] i h = refl
get_past (x ∷ xs) zero h = absurd (omega arith)
get_past (x ∷ xs) (suc i) h = get_past xs i (omega arith)

get_at : {X : Type 0} (xs : List X) (i : ℕ) (d x : X) → i < length xs → slice_get xs i ≡ Some x → get_or xs i d ≡ x
get_at xs i d x h e = let within = get_within xs i d h in cc

le_true : (a b : ℕ) → a ≤ b → nat_le a b ≡ true
le_true a b h = elim (leb_tells a b) [ inl (t, _) ↦ t | inr (_, gt) ↦ absurd (omega arith) ]

le_false : (a b : ℕ) → b < a → nat_le a b ≡ false
le_false a b h = elim (leb_tells a b) [ inl (_, le) ↦ absurd (omega arith) | inr (t, _) ↦ t ]

pub eq_true : (a b : ℕ) → a ≡ b → (a == b) ≡ true
eq_true a b e = elim (eqb_tells a b) [ inl (t, _) ↦ t | inr (_, apart) ↦ absurd (apart e) ]

pub eq_false : (a b : ℕ) → ¬ (a ≡ b) → (a == b) ≡ false
eq_false a b apart = elim (eqb_tells a b) [ inl (_, e) ↦ absurd (apart e) | inr (t, _) ↦ t ]

lt_fact : (m n : ℕ) → ltb m n ≡ true → m < n
lt_fact m n e = (Decides-ltb m n).0 e

ge_fact : (m n : ℕ) → ltb m n ≡ false → n ≤ m
ge_fact m n e = elim (leb_tells (suc m) n) [ inl (t, lt) ↦ absurd (let clash : true ≡ false = sym t ∙ e in cc) | inr (t, ge) ↦ omega arith ]

-- the first moment that is at least `least`, behind those below it
pub find_from : (days : List PricingDay) (least i : ℕ) → IsPartitionPoint (λ e. ltb e.moment least ≡ true) (λ e. ltb e.moment least ≡ false) days i → slice_get days i ≡ find (λ e. nat_le least e.moment) days
find_from days least i point =
    sym (find_at (λ e. nat_le least e.moment) days i
    (λ k d lt short. le_false _ _ (lt_fact _ _ (point.0 k d (omega arith) lt)))
    (λ d short. le_true _ _ (ge_fact _ _ (point.1 i d (omega arith) short))))

-- the tests of a search as facts
pub day_point : (days : List PricingDay) (day i : ℕ) → IsPartitionPoint (λ e. ltb e.day day ≡ true) (λ e. ltb e.day day ≡ false) days i → IsPartitionPoint (λ e. e.day < day) (λ e. day ≤ e.day) days i
day_point days day i point = (λ k d low lt. lt_fact _ _ (point.0 k d low lt), λ k d low lt. ge_fact _ _ (point.1 k d low lt))

pub is_lt-nat_cmp : (m n : ℕ) → is_lt (nat_cmp m n) ≡ ltb m n
is_lt-nat_cmp m n = grind (arith, nat_tests)

-- the day itself, behind the earlier ones
pub find_day : (days : List PricingDay) (day i : ℕ) (e : PricingDay) → IsPartitionPoint (λ e. e.day < day) (λ e. day ≤ e.day) days i → slice_get days i ≡ Some e → e.day ≡ day → slice_get days i ≡ find (λ e. e.day == day) days
find_day days day i e point there is =
    sym (find_at (λ e. e.day == day) days i
    (λ k d lt short. eq_false _ _ (λ same. let below = point.0 k d (omega arith) lt in omega arith))
    (λ d short. eq_true _ _ (let here : get_or days i d ≡ e = get_at days i d e short there in rw here is)))

-- a day that doesn't stand there isn't listed
pub find_no_day : (days : List PricingDay) (day i : ℕ) → AllPairs (λ a b. a.day < b.day) days → IsPartitionPoint (λ e. e.day < day) (λ e. day ≤ e.day) days i → ((e : PricingDay) → slice_get days i ≡ Some e → ¬ (e.day ≡ day)) → None ≡ find (λ e. e.day == day) days
find_no_day days day i rise point apart = sym (find_none (λ e. e.day == day) days (λ k d short. eq_false _ _ (λ e. elim (cases_lt k i) [
  | inl lt ↦ let below = point.0 k d (omega arith) lt in omega arith
  | inr ge ↦ elim (cases_lt i k) [
    | inl past ↦ let here = point.1 i d (omega arith) (omega arith) in let above = rise i k d past short in omega arith
    | inr le ↦ let same : k ≡ i = omega arith in apart (get_or days i d) (get_within days i d (omega arith)) (rw same at e)
  ]
])))

-- what is found passes
first_passes : {X : Type 0} (p : X → Bool) (y x : X) (rest : Option X) (b : Bool) → p y ≡ b → (rest ≡ Some x → p x ≡ true) → cond b (Some y) rest ≡ Some x → p x ≡ true
first_passes p y x rest true t later e = let same : y ≡ x = cc in rw same at t
first_passes p y x rest false t later e = later e

pub find_passes : {X : Type 0} (p : X → Bool) (xs : List X) (x : X) → find p xs ≡ Some x → p x ≡ true
find_passes p [] x e = cc
find_passes p (y ∷ ys) x e = first_passes p y x (find p ys) (p y) refl (find_passes p ys x) e

-- whether there is one
pub list_any-find : {X : Type 0} (p : X → Bool) (xs : List X) → list_any p xs ≡ is_some (find p xs)
list_any-find p [] = refl
list_any-find p (x ∷ xs) = elim (p x) as (λ b. (b || list_any p xs) ≡ is_some (cond b (Some x) (find p xs))) [ true ↦ refl | false ↦ list_any-find p xs ]

-- nothing is taken away where nothing is found
kept_none : {X : Type 0} (p : X → Bool) (x : X) (xs : List X) (b : Bool) → p x ≡ b → (find p xs ≡ None → filter (λ y. not (p y)) xs ≡ xs) → cond b (Some x) (find p xs) ≡ None → cond (not (p x)) (x ∷ filter (λ y. not (p y)) xs) (filter (λ y. not (p y)) xs) ≡ x ∷ xs
kept_none p x xs true t later e = cc
kept_none p x xs false t later e = rw t (ap (λ rest. x ∷ rest) (later e))

pub filter-find_none : {X : Type 0} (p : X → Bool) (xs : List X) → find p xs ≡ None → filter (λ x. not (p x)) xs ≡ xs
filter-find_none p [] e = refl
filter-find_none p (x ∷ xs) e = kept_none p x xs (p x) refl (filter-find_none p xs) e

filter_all : {X : Type 0} (p : X → Bool) (xs : List X) → ((k : ℕ) (d : X) → k < length xs → p (get_or xs k d) ≡ true) → filter p xs ≡ xs
filter_all p [] all = refl
filter_all p (x ∷ xs) all = rw (all 0 x (omega arith)) (ap (λ rest. x ∷ rest) (filter_all p xs (λ k d short. all (suc k) d (omega arith))))

-- one element is taken away where all others pass
filter_but_one : {X : Type 0} (p : X → Bool) (xs : List X) (i : ℕ) → i < length xs → ((d : X) → p (get_or xs i d) ≡ false) → ((k : ℕ) (d : X) → k < length xs → ¬ (k ≡ i) → p (get_or xs k d) ≡ true) → remove xs i ≡ filter p xs
filter_but_one p [] i h here others = absurd (omega arith)
filter_but_one p (x ∷ xs) zero h here others = rw (here x) (sym (filter_all p xs (λ k d short. others (suc k) d (omega arith) (λ e. omega arith))))
filter_but_one p (x ∷ xs) (suc i) h here others =
    rw (others 0 x (omega arith) (λ e. omega arith)) (ap (λ rest. x ∷ rest) (filter_but_one p xs i (omega arith) here (λ k d short apart. others (suc k) d (omega arith) (λ e. apart (omega arith)))))

-- the listing without a day that stands at a place
pub remove_day : (days : List PricingDay) (day i : ℕ) → AllPairs (λ a b. a.day < b.day) days → i < length days → slice_get days i ≡ find (λ e. e.day == day) days → remove days i ≡ filter (λ e. not (e.day == day)) days
remove_day days day i rise h found =
    filter_but_one (λ e. not (e.day == day)) days i h
    (λ d. rw (eq_true _ _ (here d)) refl)
    (λ k d short apart. rw (eq_false (get_or days k d).day day (λ e. elim (cases_lt k i) [
      | inl lt ↦ let below = rise k i d lt h in let is = here d in omega arith
      | inr ge ↦ let above = rise i k d (let past : i < k = let no : ¬ (k ≡ i) = apart in omega arith in past) short in let is = here d in omega arith
    ])) refl)
  where
    here : (d : PricingDay) → (get_or days i d).day ≡ day
    here d = (Decides-eqb _ _).0 (find_passes (λ e. e.day == day) days (get_or days i d) (sym found ∙ get_within days i d h))

-- what stays rises
pub IsListing-without : (p : PricingDay → Bool) (days : List PricingDay) → IsListing days → IsListing (filter p days)
IsListing-without p days is = record {
  days_rise = AllPairs-filter (λ a b. a.day < b.day) p days is.days_rise;
  moments_rise = AllPairs-filter (λ a b. a.moment < b.moment) p days is.moments_rise;
}

-- the day that is priced at a moment stands where the moments reach it
abbrev pub with_moment : ℕ → Option PricingDay → Option PricingDay
with_moment moment None = None
with_moment moment (Some e) = cond (e.moment == moment) (Some e) None

reached : (x : PricingDay) (xs : List PricingDay) (moment : ℕ) → All (λ e. x.moment < e.moment) xs → moment ≤ x.moment → cond (x.moment == moment) (Some x) (find (λ e. e.moment == moment) xs) ≡ cond (x.moment == moment) (Some x) None
reached x xs moment above h = elim (eqb_tells x.moment moment) [
  | inl (t, _) ↦ rw t refl
  | inr (t, _) ↦ rw t (find_none (λ e. e.moment == moment) xs (λ k d short. eq_false _ _ (λ e. let later = above k d short in omega arith)))
]

pub find_moment : (days : List PricingDay) (moment : ℕ) → AllPairs (λ a b. a.moment < b.moment) days → find (λ e. e.moment == moment) days ≡ with_moment moment (find (λ e. nat_le moment e.moment) days)
find_moment [] moment rise = refl
find_moment (x ∷ xs) moment rise = elim (leb_tells moment x.moment) [
  | inl (t, le) ↦ rw t (reached x xs moment (λ k d short. rise 0 (suc k) d (omega arith) (omega arith)) le)
  | inr (t, gt) ↦ rw (t, eq_false x.moment moment (λ e. omega arith)) (find_moment xs moment (λ i j d lt short. rise (suc i) (suc j) d (omega arith) (omega arith)))
]

pub moment_found : (days : List PricingDay) (moment : ℕ) (there o : Option PricingDay) → AllPairs (λ a b. a.moment < b.moment) days → there ≡ find (λ e. nat_le moment e.moment) days → there ≡ o → with_moment moment o ≡ find (λ e. e.moment == moment) days
moment_found days moment there o rise found is = sym (find_moment days moment rise ∙ ap (with_moment moment) (sym found ∙ is))

-- the first moment that is at least `least` is the least such one
find_least : (days : List PricingDay) (least : ℕ) (e : PricingDay) → AllPairs (λ a b. a.moment < b.moment) days → find (λ x. nat_le least x.moment) days ≡ Some e → (least ≤ e.moment) × All (λ x. least ≤ x.moment → e.moment ≤ x.moment) days
find_least [] least e rise found = cc
find_least (x ∷ xs) least e rise found = elim (leb_tells least x.moment) [
  | inl (t, le) ↦
      let here = rw t at found in
      let same : x ≡ e = cc in
      rw (← same) (le, All-cons (λ y. least ≤ y.moment → x.moment ≤ y.moment) x xs (λ h. omega arith) (λ k d short h. let above = rise 0 (suc k) d (omega arith) (omega arith) in omega arith))
  | inr (t, gt) ↦
      let later = rw t at found in
      let rest = find_least xs least e (λ i j d lt short. rise (suc i) (suc j) d (omega arith) (omega arith)) later in
      (rest.0, All-cons (λ y. least ≤ y.moment → e.moment ≤ y.moment) x xs (λ h. absurd (omega arith)) rest.1)
]

find_none_from : (days : List PricingDay) (least : ℕ) → find (λ x. nat_le least x.moment) days ≡ None → All (λ x. x.moment < least) days
find_none_from [] least e = λ k d short. absurd (omega arith)
find_none_from (x ∷ xs) least e = elim (leb_tells least x.moment) [
  | inl (t, le) ↦ absurd (let here = rw t at e in cc)
  | inr (t, gt) ↦ All-cons (λ y. y.moment < least) x xs gt (find_none_from xs least (rw t at e))
]

-- the least number above another
lt_as_le : (m n : ℕ) → nat_lt m n ≡ nat_le (m + 1) n
lt_as_le m n = grind (arith, nat_tests)

pub find_above : (days : List PricingDay) (moment : ℕ) → find (λ e. nat_lt moment e.moment) days ≡ find (λ e. nat_le (moment + 1) e.moment) days
find_above [] moment = refl
find_above (x ∷ xs) moment = rw (lt_as_le moment x.moment) (ap (cond (nat_le (moment + 1) x.moment) (Some x)) (find_above xs moment))

least_by : (days : List PricingDay) (moment next : ℕ) (o : Option PricingDay) → AllPairs (λ a b. a.moment < b.moment) days → find (λ e. nat_le (moment + 1) e.moment) days ≡ o → option_map (λ e. e.moment) o ≡ Some next → IsLeastAbove days moment next
least_by days moment next None rise found is = cc
least_by days moment next (Some e) rise found is =
    let same : e.moment ≡ next = cc in
    let least = find_least days (moment + 1) e rise found in
    rw (← same) (record {
      above_it = omega (arith, least.0);
      least = λ k d short h. least.1 k d short (omega (arith, h));
    })

pub IsLeastAbove-first_above : (days : List PricingDay) (moment next : ℕ) → AllPairs (λ a b. a.moment < b.moment) days → first_above days moment ≡ Some next → IsLeastAbove days moment next
IsLeastAbove-first_above days moment next rise is =
    least_by days moment next (find (λ e. nat_le (moment + 1) e.moment) days) rise refl (ap (option_map (λ (e : PricingDay). e.moment)) (sym (find_above days moment)) ∙ is)

none_by : (days : List PricingDay) (moment : ℕ) (o : Option PricingDay) → find (λ e. nat_le (moment + 1) e.moment) days ≡ o → option_map (λ (e : PricingDay). e.moment) o ≡ None → HasNoneAbove days moment
none_by days moment None found is = λ k d short. (let below = find_none_from days (moment + 1) found k d short in omega arith)
none_by days moment (Some e) found is = cc

pub HasNoneAbove-first_above : (days : List PricingDay) (moment : ℕ) → first_above days moment ≡ None → HasNoneAbove days moment
HasNoneAbove-first_above days moment is =
    none_by days moment (find (λ e. nat_le (moment + 1) e.moment) days) refl (ap (option_map (λ (e : PricingDay). e.moment)) (sym (find_above days moment)) ∙ is)

pub least_if_some : (days : List PricingDay) (moment : ℕ) (r : Option ℕ) → AllPairs (λ a b. a.moment < b.moment) days → r ≡ first_above days moment → IfSome r (IsLeastAbove days moment)
least_if_some days moment None rise e = tt
least_if_some days moment (Some next) rise e = IsLeastAbove-first_above days moment next rise (sym e)

pub none_above_if_none : (days : List PricingDay) (moment : ℕ) (r : Option ℕ) → r ≡ first_above days moment → IfNone r (HasNoneAbove days moment)
none_above_if_none days moment None e = HasNoneAbove-first_above days moment (sym e)
none_above_if_none days moment (Some next) e = tt

-- The dates and their moments, gathered one by one.
use Rattle.std.proofs.Common.{◌≡◌, ℕ, zero, suc, ◌+◌, ◌-◌, ◌<◌, ◌≤◌, Bool, true, false, cond, nat_le, ◌&&◌, List, [], ◌∷◌, ◌++◌, length, map, filter, take, drop, get_or, Option, Some, None, option_map, Result, Ok, Err, refl, sym, ap, ◌∙◌, inl, inr, arith, add-one, append-nil}
use Rattle.std.specs.Prelude.{All, AllPairs}
use Rattle.std.specs.Option.{option_map_or}
use Rattle.std.proofs.lemmas.Bool.Decides.{leb_tells}
use Rattle.std.proofs.lemmas.List.{map_more, at_drop_more, at_drop_all, take_all}
use Rattle.std.proofs.lemmas.List.Elements.{All-cons, All-map, filter-append}
use Rattle.std.proofs.lemmas.List.Kept.{AllPairs-cons, AllPairs-filter}
use Rattle.fund_calendar.specs.declared.calendar.CalendarFault.{CalendarFault}
use Rattle.fund_calendar.specs.declared.zone.ZoneRule.{ZoneRule}
use Rattle.fund_calendar.specs.declared.pricing_day.PricingDay.{PricingDay}
use Rattle.fund_calendar.specs.PricingDays.{IsListing, days_from, is_priced, pricing_dates, rising, first_not_rising, priced_at, days_on, days_or_fault, last_moment, is_bad_span, instant_on, CalendarRefusal, BadZone, BadSpan, NotRising, CalendarTerms, listing_numbered, new_calendar}
use Rattle.fund_calendar.specs.Refusals.{RefusedAs}
use Rattle.fund_calendar.specs.ZoneText.{read_zone}

-- one day more
pub days_from_more : (n first : ℕ) → days_from (suc n) first ≡ days_from n first ++ (first + n) ∷ []
unfolding days_from
days_from_more zero first = let same : first + 0 ≡ first = omega arith in rw same refl
days_from_more (suc n) first =
    let on : first + 1 + n ≡ first + suc n = omega arith in
    ap (λ days. first ∷ days) (rw on at (days_from_more n (first + 1)))

-- one day more, where it is priced and where it isn't
pub priced_more : (holidays : List ℕ) (n first : ℕ) (b : Bool) → is_priced holidays (first + n) ≡ b → filter (is_priced holidays) (days_from (suc n) first) ≡ filter (is_priced holidays) (days_from n first) ++ cond b ((first + n) ∷ []) []
priced_more holidays n first b e = rw (days_from_more n first, filter-append, e) refl

days_from_above : (n first low : ℕ) → low ≤ first → All (λ day. low ≤ day) (days_from n first)
unfolding days_from
days_from_above zero first low h = λ k d lt. absurd (omega arith)
days_from_above (suc n) first low h = All-cons (λ day. low ≤ day) first (days_from n (first + 1)) h (days_from_above n (first + 1) low (omega arith))

-- the days rise
days_from-rise : (n first : ℕ) → AllPairs (λ a b. a < b) (days_from n first)
unfolding days_from
days_from-rise zero first = λ i j d lt short. absurd (omega arith)
days_from-rise (suc n) first = AllPairs-cons (λ a b. a < b) first (days_from n (first + 1)) (λ k d lt. let above = days_from_above n (first + 1) (first + 1) (omega arith) k d lt in omega arith) (days_from-rise n (first + 1))

pub pricing_dates-rise : (holidays : List ℕ) (first last : ℕ) → AllPairs (λ a b. a < b) (pricing_dates holidays first last)
unfolding pricing_dates
pricing_dates-rise holidays first last = AllPairs-filter (λ a b. a < b) (is_priced holidays) (days_from (last + 1 - first) first) (days_from-rise (last + 1 - first) first)

length-days_from : (n first : ℕ) → length (days_from n first) ≡ n
unfolding days_from
length-days_from zero first = refl
length-days_from (suc n) first = ap suc (length-days_from n (first + 1))

length_filter : {X : Type 0} (p : X → Bool) (xs : List X) → length (filter p xs) ≤ length xs
length_filter p [] = omega arith
length_filter p (x ∷ xs) = elim (p x) as (λ b. length (cond b (x ∷ filter p xs) (filter p xs)) ≤ suc (length xs)) [ true ↦ omega (arith, length_filter p xs) | false ↦ omega (arith, length_filter p xs) ]

pub length-pricing_dates : (holidays : List ℕ) (first last : ℕ) → length (pricing_dates holidays first last) ≤ last + 1 - first
unfolding pricing_dates
length-pricing_dates holidays first last =
    omega (arith, length_filter (is_priced holidays) (days_from (last + 1 - first) first), length-days_from (last + 1 - first) first)

-- what is left to find once the first i dates rise
abbrev pub fault_from : (ℕ → Option ℕ) → List ℕ → ℕ → ℕ → Option ℕ
fault_from f dates i least = option_map (λ place. place + i) (first_not_rising least (map f (drop i dates)))

later_place : (i : ℕ) (o : Option ℕ) → option_map (λ place. place + i) (option_map (λ place. place + 1) o) ≡ option_map (λ place. place + (i + 1)) o
later_place i None = refl
later_place i (Some k) = ap Some (omega arith)

same_place : (o : Option ℕ) → option_map (λ place. place + 0) o ≡ o
same_place None = refl
same_place (Some k) = ap Some (omega arith)

pub fault_from-start : (f : ℕ → Option ℕ) (dates : List ℕ) → fault_from f dates 0 0 ≡ first_not_rising 0 (map f dates)
fault_from-start f dates = same_place (first_not_rising 0 (map f dates))

-- a date whose moment rises is passed
pub fault_from-more : (f : ℕ → Option ℕ) (dates : List ℕ) (i least day moment : ℕ) → i < length dates → day ≡ get_or dates i day → rising least (f day) ≡ Some moment → fault_from f dates i least ≡ fault_from f dates (i + 1) (moment + 1)
unfolding first_not_rising
fault_from-more f dates i least day moment h is e =
    at_drop_more (λ rest. option_map (λ place. place + i) (first_not_rising least (map f rest))) dates i day h
    ∙ rw (← is, e) (later_place i (first_not_rising (moment + 1) (map f (drop (i + 1) dates))))

-- and one whose moment doesn't is the fault
pub fault_from-here : (f : ℕ → Option ℕ) (dates : List ℕ) (i least day : ℕ) → i < length dates → day ≡ get_or dates i day → rising least (f day) ≡ None → fault_from f dates i least ≡ Some i
unfolding first_not_rising
fault_from-here f dates i least day h is e =
    at_drop_more (λ rest. option_map (λ place. place + i) (first_not_rising least (map f rest))) dates i day h
    ∙ rw (← is, e) (ap Some (omega arith))

pub fault_from-all : (f : ℕ → Option ℕ) (dates : List ℕ) (i least : ℕ) → length dates ≤ i → fault_from f dates i least ≡ None
unfolding first_not_rising
fault_from-all f dates i least h = at_drop_all (λ rest. option_map (λ place. place + i) (first_not_rising least (map f rest))) dates i h

-- the step of the loop over the days
pub kept_more : (holidays : List ℕ) (n first day : ℕ) (old new : List ℕ) → old ≡ filter (is_priced holidays) (days_from n first) → day ≡ first + n → is_priced holidays day ≡ true → new ≡ old ++ day ∷ [] → new ≡ filter (is_priced holidays) (days_from (n + 1) first)
kept_more holidays n first day old new so e priced is =
    rw (add-one, priced_more holidays n first true (rw (← e) priced), ← e, ← so) is

pub passed_more : (holidays : List ℕ) (n first day : ℕ) (old : List ℕ) → old ≡ filter (is_priced holidays) (days_from n first) → day ≡ first + n → is_priced holidays day ≡ false → old ≡ filter (is_priced holidays) (days_from (n + 1) first)
passed_more holidays n first day old so e priced =
    rw (add-one, priced_more holidays n first false (rw (← e) priced), ← so) (sym (append-nil old))

-- what the loop over the dates has found in the end
pub listed_all : (f : ℕ → Option ℕ) (dates : List ℕ) (listed : List PricingDay) (i least : ℕ) → length dates ≤ i → listed ≡ map (priced_at f) (take i dates) → first_not_rising 0 (map f dates) ≡ fault_from f dates i least → Ok listed ≡ days_on f dates
unfolding days_on
listed_all f dates listed i least h is fault =
    rw (fault ∙ fault_from-all f dates i least h) (ap Ok (is ∙ ap (map (priced_at f)) (take_all i dates h)))

pub not_rising_here : (f : ℕ → Option ℕ) (dates : List ℕ) (i least day : ℕ) → i < length dates → day ≡ get_or dates i day → rising least (f day) ≡ None → first_not_rising 0 (map f dates) ≡ fault_from f dates i least → Err (NotRising i) ≡ days_on f dates
unfolding days_on
not_rising_here f dates i least day h is none fault = rw (fault ∙ fault_from-here f dates i least day h is none) refl

chosen : (b : Bool) (n m : ℕ) → cond b (Some n) None ≡ Some m → Some n ≡ Some m
chosen true n m e = e
chosen false n m e = cc

-- a rising instant is there
risen : (least : ℕ) (o : Option ℕ) (moment : ℕ) → rising least o ≡ Some moment → o ≡ Some moment
risen least None moment e = cc
risen least (Some n) moment e = chosen (nat_le least n && nat_le n last_moment) n moment e

-- one date more with its moment
pub listed_more : (f : ℕ → Option ℕ) (dates : List ℕ) (listed new : List PricingDay) (i day least moment : ℕ) → i < length dates → day ≡ get_or dates i day → rising least (f day) ≡ Some moment → listed ≡ map (priced_at f) (take i dates) → new ≡ listed ++ record { day = day; moment = moment } ∷ [] → new ≡ map (priced_at f) (take (i + 1) dates)
listed_more f dates listed new i day least moment h is e so added =
    added ∙ sym (map_more (priced_at f) dates i day h ∙ rw (← is, ← so) (ap (λ entry. listed ++ entry ∷ []) (rw (risen least (f day) moment e) refl)))

-- rising instants make a listing: the moments are at least `least`, and they rise
record Rises (least : ℕ) (days : List PricingDay) : Type 0 where
  above : All (λ e. least ≤ e.moment) days
  rise : AllPairs (λ a b. a.moment < b.moment) days

at_least : (least n m : ℕ) → cond (nat_le least n && nat_le n last_moment) (Some n) None ≡ Some m → least ≤ m
at_least least n m e = elim (leb_tells least n) [
  | inr (t, _) ↦ absurd (let none = rw t at e in cc)
  | inl (t, low) ↦ elim (leb_tells n last_moment) [
    | inr (s, _) ↦ absurd (let none = rw (t, s) at e in cc)
    | inl (s, high) ↦ let some = rw (t, s) at e in let same : n ≡ m = cc in rw (← same) low
  ]
]

risen_at_least : (least : ℕ) (o : Option ℕ) (moment : ℕ) → rising least o ≡ Some moment → least ≤ moment
risen_at_least least None moment e = cc
risen_at_least least (Some n) moment e = at_least least n moment e

no_later : (o : Option ℕ) → option_map (λ place. place + 1) o ≡ None → o ≡ None
no_later None e = refl
no_later (Some k) e = cc

rises_step : (f : ℕ → Option ℕ) (day : ℕ) (dates : List ℕ) (least : ℕ) (r : Option ℕ) → rising least (f day) ≡ r → ((moment : ℕ) → first_not_rising (moment + 1) (map f dates) ≡ None → Rises (moment + 1) (map (priced_at f) dates)) → option_map_or (λ moment. option_map (λ place. place + 1) (first_not_rising (moment + 1) (map f dates))) r (Some 0) ≡ None → Rises least (map (priced_at f) (day ∷ dates))
rises_step f day dates least None is later e = cc
rises_step f day dates least (Some moment) is later e =
    let rest = later moment (no_later _ e) in
    let bound = risen_at_least least (f day) moment is in
    let here : (priced_at f day).moment ≡ moment = rw (risen least (f day) moment is) refl in
    record {
      above = All-cons (λ e. least ≤ e.moment) (priced_at f day) (map (priced_at f) dates) (rw here bound) (λ k d short. let next = rest.above k d short in omega arith);
      rise = AllPairs-cons (λ a b. a.moment < b.moment) (priced_at f day) (map (priced_at f) dates) (λ k d short. let next = rest.above k d short in omega arith) rest.rise;
    }

rises : (f : ℕ → Option ℕ) (dates : List ℕ) (least : ℕ) → first_not_rising least (map f dates) ≡ None → Rises least (map (priced_at f) dates)
unfolding first_not_rising
rises f [] least e = record { above = λ k d lt. absurd (omega arith); rise = λ i j d lt short. absurd (omega arith) }
rises f (day ∷ dates) least e = rises_step f day dates least (rising least (f day)) refl (λ moment. rises f dates (moment + 1)) e

map-rise : (f : ℕ → Option ℕ) (dates : List ℕ) → AllPairs (λ a b. a < b) dates → AllPairs (λ a b. a.day < b.day) (map (priced_at f) dates)
map-rise f [] rise = λ i j d lt short. absurd (omega arith)
map-rise f (day ∷ dates) rise =
    AllPairs-cons (λ a b. a.day < b.day) (priced_at f day) (map (priced_at f) dates)
    (All-map (λ e. day < e.day) (priced_at f) dates (λ k d short. rise 0 (suc k) d (omega arith) (omega arith)))
    (map-rise f dates (λ i j d lt short. rise (suc i) (suc j) d (omega arith) (omega arith)))

-- the listing that the dates' moments make
listed_by : (f : ℕ → Option ℕ) (dates : List ℕ) (days : List PricingDay) (fault : Option ℕ) → first_not_rising 0 (map f dates) ≡ fault → AllPairs (λ a b. a < b) dates → Ok days ≡ days_or_fault f dates fault → IsListing days
listed_by f dates days None e rise is =
    let same : days ≡ map (priced_at f) dates = cc in
    let moments = rises f dates 0 e in
    rw same (record { days_rise = map-rise f dates rise; moments_rise = moments.rise })
listed_by f dates days (Some place) e rise is = cc

pub IsListing-days_on : (f : ℕ → Option ℕ) (dates : List ℕ) (days : List PricingDay) → AllPairs (λ a b. a < b) dates → Ok days ≡ days_on f dates → IsListing days
unfolding days_on
IsListing-days_on f dates days rise is = listed_by f dates days (first_not_rising 0 (map f dates)) refl rise is

-- the answers of a new calendar, refusal by refusal
pub new_bad_zone : (terms : CalendarTerms) → read_zone terms.zone ≡ None → Err BadZone ≡ new_calendar terms
unfolding new_calendar
new_bad_zone terms e = rw e refl

pub new_bad_span : (terms : CalendarTerms) (rule : ZoneRule) → read_zone terms.zone ≡ Some rule
    → is_bad_span terms.first terms.last ≡ true → Err BadSpan ≡ new_calendar terms
unfolding new_calendar
new_bad_span terms rule e bad = rw (e, bad) refl

-- the days of terms by their zone rule
abbrev days_by : ZoneRule → CalendarTerms → Result (List PricingDay) CalendarRefusal
days_by rule terms = days_on (instant_on rule terms.minute) (pricing_dates terms.holidays terms.first terms.last)

pub new_by_days : (terms : CalendarTerms) (rule : ZoneRule) (days : Result (List PricingDay) CalendarRefusal)
    → read_zone terms.zone ≡ Some rule → is_bad_span terms.first terms.last ≡ false → days ≡ days_by rule terms
    → listing_numbered terms.number days ≡ new_calendar terms
unfolding new_calendar
new_by_days terms rule days e good is = rw (e, good, is) refl

-- a refusal of the days is one of the calendar
pub refused_by_days : (terms : CalendarTerms) (rule : ZoneRule) (fault : CalendarFault)
    → read_zone terms.zone ≡ Some rule → is_bad_span terms.first terms.last ≡ false
    → RefusedAs fault (days_by rule terms) → RefusedAs fault (new_calendar terms)
refused_by_days terms rule CalendarFault.BadZone e good is = new_by_days terms rule (Err BadZone) e good is
refused_by_days terms rule CalendarFault.BadSpan e good is = new_by_days terms rule (Err BadSpan) e good is
refused_by_days terms rule (CalendarFault.NotRising place) e good is =
    new_by_days terms rule (Err (NotRising place)) e good is
refused_by_days terms rule CalendarFault.NoMemory e good is = tt

-- The pricing moment of a day is the one at its place in the listing, where the place 0 has the day before the opening; and
-- pricing moments lie more than two hours apart.
use Rattle.std.proofs.Common.{◌≡◌, ℕ, zero, suc, ◌<◌, ◌≤◌, ◌+◌, Bool, true, false, ◌&&◌, nat_le, nat_lt, List, [], ◌∷◌, length, get_or, slice_get, Option, Some, option_map, refl, sym, ap, ◌∙◌, inl, inr, arith}
use Rattle.std.specs.Prelude.{unwrap_or}
use Rattle.std.proofs.lemmas.Bool.{and_parts, true≢false}
use Rattle.std.proofs.lemmas.Bool.Decides.{Decides-ltb, leb_tells}
use Rattle.fund_calendar.specs.declared.pricing_day.PricingDay.{PricingDay}
use Rattle.fund_calendar.specs.PricingDays.{first_above}
use Rattle.fund_calendar.proofs.LookUpLemmas.{get_within}
use Rattle.load_requests.specs.Opening.{load_listing}
use Rattle.load_requests.specs.Days.{pricing_after, pricing_moment}
use Rattle.load_requests.proofs.LoadOnLiterals.{load_on_literals}

-- each moment lies two hours or more above the one before
unfoldable pub apart_from : ℕ → List PricingDay → Bool
apart_from low [] = true
apart_from low (entry ∷ later) = nat_le (low + 7200) entry.moment && apart_from entry.moment later

apart : apart_from 0 load_listing.days ≡ true
unfolding load_on_literals apart_from
apart = refl

long : nat_le 2600 (length load_listing.days) ≡ true
unfolding load_on_literals
long = refl

is_le : (a b : ℕ) → nat_le a b ≡ true → a ≤ b
is_le a b e = elim (leb_tells a b) [ inl (_, le) ↦ le | inr (f, _) ↦ absurd (true≢false (sym e ∙ f)) ]

lt_is : (a b : ℕ) → a < b → nat_lt a b ≡ true
lt_is a b h = (Decides-ltb a b).1 h

ge_is : (a b : ℕ) → b ≤ a → nat_lt a b ≡ false
ge_is a b h = elim (nat_lt a b) as (λ t. nat_lt a b ≡ t → t ≡ false) [
  | true ↦ λ e. absurd (let less = (Decides-ltb a b).0 e in omega arith)
  | false ↦ λ e. refl
] refl

apart_first : (low : ℕ) (entry : PricingDay) (later : List PricingDay) → apart_from low (entry ∷ later) ≡ true → low + 7200 ≤ entry.moment
unfolding apart_from
apart_first low entry later e = is_le (low + 7200) entry.moment (and_parts (nat_le (low + 7200) entry.moment) (apart_from entry.moment later) e).0

apart_later : (low : ℕ) (entry : PricingDay) (later : List PricingDay) → apart_from low (entry ∷ later) ≡ true → apart_from entry.moment later ≡ true
unfolding apart_from
apart_later low entry later e = (and_parts (nat_le (low + 7200) entry.moment) (apart_from entry.moment later) e).1

-- all lie above what the first lies above
above_low : (days : List PricingDay) (low place : ℕ) (x : PricingDay) → apart_from low days ≡ true → slice_get days place ≡ Some x → low + 7200 ≤ x.moment
above_low [] low place x e at = cc
above_low (entry ∷ later) low zero x e at =
    let same : entry ≡ x = cc in
    let first = apart_first low entry later e in
    let moments = ap (λ (d : PricingDay). d.moment) same in omega (arith, first, moments)
above_low (entry ∷ later) low (suc place) x e at =
    let first = apart_first low entry later e in
    let rest = above_low later entry.moment place x (apart_later low entry later e) at in omega (arith, first, rest)

-- the first moment above one that is listed is the next one, two hours or more later
pub next_listed : (days : List PricingDay) (low place : ℕ) (x y : PricingDay) → apart_from low days ≡ true → slice_get days place ≡ Some x → slice_get days (suc place) ≡ Some y → (first_above days x.moment ≡ Some y.moment) × (x.moment + 7200 ≤ y.moment)
next_listed [] low place x y e at behind = cc
next_listed (entry ∷ []) low zero x y e at behind = cc
next_listed (entry ∷ next ∷ later) low zero x y e at behind =
    let same : entry ≡ x = cc in
    let same_next : next ≡ y = cc in
    let gap = apart_first entry.moment next later (apart_later low entry (next ∷ later) e) in
    let moment = ap (λ (d : PricingDay). d.moment) same in
    let moment_next = ap (λ (d : PricingDay). d.moment) same_next in (
      rw (ge_is x.moment entry.moment (omega (arith, moment))) (rw (lt_is x.moment next.moment (omega (arith, moment, gap))) (ap (λ (d : PricingDay). Some d.moment) same_next)),
      omega (arith, moment, moment_next, gap),
    )
next_listed (entry ∷ later) low (suc place) x y e at behind =
    let rest = apart_later low entry later e in
    let over = above_low later entry.moment place x rest at in
    let found = next_listed later entry.moment place x y rest at behind in
    (rw (ge_is x.moment entry.moment (omega (arith, over))) found.0, found.1)

-- the entry at a place
unfoldable pub entry_at : ℕ → PricingDay
entry_at place = get_or load_listing.days place (record { day = 0; moment = 0 })

is_entry : (place : ℕ) → place < 2600 → slice_get load_listing.days place ≡ Some (entry_at place)
unfolding entry_at
is_entry place h =
    let many = is_le 2600 (length load_listing.days) long in
    get_within load_listing.days place (record { day = 0; moment = 0 }) (omega (arith, many))

first_pricing : (pricing_moment 1 ≡ 1704229200) × ((entry_at 1).moment ≡ 1704229200)
unfolding load_on_literals entry_at
first_pricing = (refl, refl)

next_entry : (place : ℕ) → suc place < 2600 → (first_above load_listing.days (entry_at place).moment ≡ Some (entry_at (suc place)).moment) × ((entry_at place).moment + 7200 ≤ (entry_at (suc place)).moment)
next_entry place h =
    next_listed load_listing.days 0 place (entry_at place) (entry_at (suc place)) apart (is_entry place (omega (arith, h))) (is_entry (suc place) h)

found_after : (m n : ℕ) → first_above load_listing.days m ≡ Some n → pricing_after load_listing m ≡ n
found_after m n e = ap (λ (found : Option ℕ). unwrap_or found m) e

pricing_is : (day : ℕ) → suc day < 2600 → pricing_moment (suc day) ≡ (entry_at (suc day)).moment
pricing_is zero h = first_pricing.0 ∙ sym first_pricing.1
pricing_is (suc day) h =
    ap (pricing_after load_listing) (pricing_is day (omega (arith, h)))
    ∙ found_after (entry_at (suc day)).moment (entry_at (suc (suc day))).moment (next_entry (suc day) h).0

-- the day at a place of the listing is priced at its moment
pub day_is_listed : (day : ℕ) → 1 ≤ day → day ≤ 2000 → option_map (λ e. e.moment) (slice_get load_listing.days day) ≡ Some (pricing_moment day)
day_is_listed zero some short = absurd (omega (arith, some))
day_is_listed (suc day) some short =
    ap (option_map (λ (e : PricingDay). e.moment)) (is_entry (suc day) (omega (arith, short)))
    ∙ ap Some (sym (pricing_is day (omega (arith, short))))

-- two days lie two hours or more apart
pub days_apart : (day : ℕ) → day < 2000 → pricing_moment day + 7200 ≤ pricing_moment (day + 1)
days_apart zero h = let first = first_pricing.0 in omega (arith, first)
days_apart (suc day) h =
    let here = pricing_is day (omega (arith, h)) in
    let there = pricing_is (suc day) (omega (arith, h)) in
    let gap = (next_entry (suc day) (omega (arith, h))).1 in
    let same : suc day + 1 ≡ suc (suc day) = omega arith in
    rw same (omega (arith, here, there, gap))

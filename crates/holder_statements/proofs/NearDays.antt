-- A pricing day's moment is at most three days from its date.
use Rattle.std.proofs.Common.{All, Bool, Err, List, None, Option, Some, [], arith, cond, false, map, nat_le, not, option_map, refl, subst, sym, true, unwrap_or, ℕ, ◌&&◌, ◌*◌, ◌+◌, ◌-◌, ◌<◌, ◌==◌, ◌∷◌, ◌≡◌, ◌≤◌}
use Rattle.std.specs.Option.{option_map_or}
use Rattle.std.proofs.lemmas.Bool.{leb-true}
use Rattle.std.proofs.lemmas.List.Elements.{All-cons, All-filter, All-nil}
use Rattle.agent_events.specs.Calendars.{calendar_terms}
use Rattle.agent_events.specs.declared.request.CalendarForm.{CalendarForm}
use Rattle.forward_price.specs.PriceTables.{closed_in}
use Rattle.fund_calendar.specs.PricingDays.{CalendarRefusal, CalendarTerms, Listing, calendar_by, days_on, days_or_fault, first_not_rising, instant_on, is_bad_span, last_moment, listing_numbered, new_calendar, priced_at, pricing_dates, rising, without_day}
use Rattle.fund_calendar.specs.ZoneRules.{IsOffset, daylight_minutes, instant, is_daylight, minutes_ahead}
use Rattle.fund_calendar.specs.ZoneText.{read_zone}
use Rattle.fund_calendar.specs.declared.pricing_day.PricingDay.{PricingDay}
use Rattle.fund_calendar.specs.declared.zone.Daylight.{Daylight}
use Rattle.fund_calendar.specs.declared.zone.ZoneRule.{ZoneRule}
use Rattle.register_machine.specs.pricing.PublishedTable.{listing_by, listing_of}
use Rattle.holder_statements.proofs.ZoneOffsets.{zone_bounded}

pub record IsDayNear (e : PricingDay) : Type 0 where
  pub not_after : e.day * 86400 ≤ e.moment + 259200
  pub not_before : e.moment < e.day * 86400 + 345600

-- an hour at most
ahead_most : (daylight : Option Daylight) (local : ℕ) → minutes_ahead daylight local ≤ 60
ahead_most None local = omega arith
ahead_most (Some d) local =
    elim (is_daylight d local) as (λ b. cond b 60 0 ≤ 60) [ true ↦ omega arith | false ↦ omega arith ]

instant_near : (rule : ZoneRule) (minute day moment : ℕ) → IsOffset rule.offset → minute ≤ 1439 → instant rule (1440 * day + minute) ≡ Some moment → IsDayNear (record { day = day; moment = moment })
unfolding instant
instant_near rule minute day moment small timely e =
    by_test (nat_le (rule.offset.ahead + daylight_minutes rule (1440 * day + minute)) (1440 * day + minute + rule.offset.behind)) refl e
  where
    by_test : (b : Bool) → nat_le (rule.offset.ahead + daylight_minutes rule (1440 * day + minute)) (1440 * day + minute + rule.offset.behind) ≡ b
        → cond b (Some (60 * (1440 * day + minute + rule.offset.behind - (rule.offset.ahead + daylight_minutes rule (1440 * day + minute))))) None ≡ Some moment
        → IsDayNear (record { day = day; moment = moment })
    by_test false is e = cc
    by_test true is e =
        let light = daylight_minutes rule (1440 * day + minute) in
        let most : light ≤ 60 = ahead_most rule.daylight (1440 * day + minute) in
        let le = leb-true (rule.offset.ahead + light) (1440 * day + minute + rule.offset.behind) is in
        let same : 60 * (1440 * day + minute + rule.offset.behind - (rule.offset.ahead + light)) ≡ moment = cc in
        let behind = small.behind in
        let ahead = small.ahead in
        record { not_after = omega arith; not_before = omega arith }

-- dates whose instants rise have them, each near its date
abbrev AreNear : (ℕ → Option ℕ) → Type 0
AreNear f = (day moment : ℕ) → f day ≡ Some moment → IsDayNear (record { day = day; moment = moment })

days_near : (f : ℕ → Option ℕ) → AreNear f → (dates : List ℕ) (least : ℕ) → first_not_rising least (map f dates) ≡ None → All IsDayNear (map (priced_at f) dates)
unfolding first_not_rising
days_near f near [] least e = All-nil IsDayNear
days_near f near (day ∷ dates) least e = by_instant (f day) refl e (days_near f near dates)
  where
    by_rest : (rest : Option ℕ) → option_map (λ place. place + 1) rest ≡ None → rest ≡ None
    by_rest None e = refl
    by_rest (Some place) e = cc

    by_instant : (o : Option ℕ) → f day ≡ o → option_map_or (λ moment. option_map (λ place. place + 1) (first_not_rising (moment + 1) (map f dates))) (rising least o) (Some 0) ≡ None
        → ((least : ℕ) → first_not_rising least (map f dates) ≡ None → All IsDayNear (map (priced_at f) dates))
        → All IsDayNear (record { day = day; moment = unwrap_or (f day) 0 } ∷ map (priced_at f) dates)
    by_instant None is e later = cc
    by_instant (Some moment) is e later = by_test (nat_le least moment && nat_le moment last_moment) e
      where
        by_test : (b : Bool) → option_map_or (λ moment. option_map (λ place. place + 1) (first_not_rising (moment + 1) (map f dates))) (cond b (Some moment) None) (Some 0) ≡ None
            → All IsDayNear (record { day = day; moment = unwrap_or (f day) 0 } ∷ map (priced_at f) dates)
        by_test false e = cc
        by_test true e =
            All-cons IsDayNear (record { day = day; moment = unwrap_or (f day) 0 }) (map (priced_at f) dates)
            (subst (λ (o : Option ℕ). IsDayNear (record { day = day; moment = unwrap_or o 0 })) (sym is) (near day moment is))
            (later (moment + 1) (by_rest (first_not_rising (moment + 1) (map f dates)) e))

listing_near : (number : ℕ) (f : ℕ → Option ℕ) → AreNear f → (dates : List ℕ) (fault : Option ℕ) → first_not_rising 0 (map f dates) ≡ fault → All IsDayNear (listing_by number (listing_numbered number (days_or_fault f dates fault))).days
listing_near number f near dates None is = days_near f near dates 0 is
listing_near number f near dates (Some place) is = All-nil IsDayNear

by_rule : (rule : Option ZoneRule) (terms : CalendarTerms) → ((r : ZoneRule) → rule ≡ Some r → IsOffset r.offset) → terms.minute ≤ 1439 → All IsDayNear (listing_by terms.number (calendar_by rule terms)).days
unfolding days_on
by_rule None terms bounded timely = All-nil IsDayNear
by_rule (Some rule) terms bounded timely = by_span (is_bad_span terms.first terms.last)
  where
    by_span : (bad : Bool) → All IsDayNear (listing_by terms.number (cond bad (Err CalendarRefusal.BadSpan) (listing_numbered terms.number (days_on (instant_on rule terms.minute) (pricing_dates terms.holidays terms.first terms.last))))).days
    by_span true = All-nil IsDayNear
    by_span false =
        listing_near terms.number (instant_on rule terms.minute) (λ day moment e. instant_near rule terms.minute day moment (bounded rule refl) timely e)
        (pricing_dates terms.holidays terms.first terms.last) (first_not_rising 0 (map (instant_on rule terms.minute) (pricing_dates terms.holidays terms.first terms.last))) refl

-- the days of a calendar as it was sent
pub calendar_near : (form : CalendarForm) → form.minute ≤ 1439 → All IsDayNear (listing_of form).days
unfolding new_calendar
calendar_near form timely = by_rule (read_zone form.zone) (calendar_terms form) (zone_bounded form.zone) timely

-- and behind a closure
pub closed_near : (calendar day : ℕ) (c : Listing) → All IsDayNear c.days → All IsDayNear (closed_in calendar day c).days
closed_near calendar day c near =
    elim (c.number == calendar) as (λ b. All IsDayNear (cond b (without_day c day) c).days) [
      | true ↦ All-filter (λ (e : PricingDay). not (e.day == day)) IsDayNear c.days near
      | false ↦ near
    ]

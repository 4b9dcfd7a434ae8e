-- The price table of a lawful journal is orderly, its sheets are numbered in turn, and they are few.
use Rattle.std.proofs.Common.{All, Bool, Contains, Err, List, None, Ok, Option, Result, Some, [], ap, arith, cond, count_by, false, filter, find, fold, get_or, inl, inr, nat_lt, is_some, length, length-append, map, nat_le, not, option_and_then, option_map, refl, subst, suc, sym, true, zero, ℕ, ◌&&◌, ◌*◌, ◌+◌, ◌-◌, ◌<◌, ◌==◌, ◌||◌, ◌∙◌, ◌∷◌, ◌≡◌, ◌≢◌, ◌≤◌}
use Rattle.std.proofs.Math.Bool.{or-false}
use Rattle.std.proofs.lemmas.Bool.{and_from, and_parts, eqb-true, false_from_ne_true, ltb-false, or_parts, true≢false}
use Rattle.std.proofs.lemmas.Bool.Decides.{Decides-eqb, leb_tells}
use Rattle.std.proofs.lemmas.List.{get_or-map, length-map}
use Rattle.std.proofs.lemmas.List.Elements.{All-contains, All-filter, All-map, All-nil, All-push, Contains-get_or, filter_passes}
use Rattle.std.proofs.lemmas.List.Kept.{AllPairs-filter}
use Rattle.std.proofs.lemmas.List.Sums.{count_by-le-length, length-filter, sum_by-cons}
use Rattle.std.specs.List.{list_any}
use Rattle.std.specs.Option.{option_map_or}
use Rattle.std.specs.Prelude.{AllPairs}
use Rattle.agent_events.specs.Calendars.{calendar_terms}
use Rattle.agent_events.specs.declared.event.EventKind.{EventKind}
use Rattle.agent_events.specs.Events.{Event, request_of}
use Rattle.agent_events.specs.declared.order.OrderRow.{OrderRow}
use Rattle.agent_events.specs.declared.request.CalendarForm.{CalendarForm}
use Rattle.agent_events.specs.declared.request.CloseForm.{CloseForm}
use Rattle.agent_events.specs.declared.request.FixPriceForm.{FixPriceForm}
use Rattle.agent_events.specs.declared.request.Request.{Request}
use Rattle.forward_price.proofs.NumberFacts.{none_numbered}
use Rattle.forward_price.proofs.OrderFacts.{closed_number, orderly_at_first, orderly_calendar, orderly_class, orderly_closure, orderly_sheet}
use Rattle.forward_price.proofs.OrderlyFacts.{any_from, calendar_pair, differ_rest, pair_calendar, priced_when_due}
use Rattle.forward_price.proofs.PricingFacts.{ge_fact}
use Rattle.forward_price.specs.Choices.{best_so_far, found_or_better}
use Rattle.forward_price.specs.Orderly.{AreOnPricingDays, IsOrderly}
use Rattle.forward_price.specs.PriceTables.{Table, calendar_numbered, class_opened, closed_in, is_sheet_at, number_at, sheet_published, without_day_of}
use Rattle.forward_price.specs.Sheets.{lists_class}
use Rattle.forward_price.specs.Turns.{expected_of, fault_of, is_awaited, is_offered_at, is_pair, is_sooner, list_fault, moments_of, must_list, pairs_of, pricing_pair, pricing_pairs, wrong_class}
use Rattle.forward_price.specs.declared.price_sheet.Opening.{Opening}
use Rattle.forward_price.specs.declared.price_sheet.Sheet.{Sheet}
use Rattle.fund_calendar.proofs.LookUpLemmas.{IsListing-without, list_any-find}
use Rattle.fund_calendar.proofs.ScheduleLemmas.{IsListing-days_on, length-pricing_dates, pricing_dates-rise}
use Rattle.fund_calendar.specs.PricingDays.{CalendarRefusal, CalendarTerms, IsListing, Listing, calendar_by, days_on, days_or_fault, first_not_rising, instant_on, is_bad_span, listing_numbered, longest_span, moment_on, new_calendar, priced_at, pricing_dates, without_day}
use Rattle.fund_calendar.specs.ZoneText.{read_zone}
use Rattle.fund_calendar.specs.declared.pricing_day.PricingDay.{PricingDay}
use Rattle.fund_calendar.specs.declared.zone.ZoneRule.{ZoneRule}
use Rattle.register_laws.proofs.Choosing.{not_when}
use Rattle.register_laws.proofs.LawfulJournals.{lawful-keeps}
use Rattle.register_laws.proofs.MomentsNeverFall.{last-more}
use Rattle.register_laws.proofs.NoIdentityTwice.{day_free, number_free}
use Rattle.register_laws.proofs.NoPricingTwice.{any-more, corrected-sheets, listing-number, table-sees}
use Rattle.register_laws.proofs.OrderlyBooks.{events-numbered, sheets_are_numbered}
use Rattle.register_laws.proofs.RulesByName.{not_broken}
use Rattle.register_laws.proofs.Runs.{table-one}
use Rattle.register_laws.specs.Identities.{is_class}
use Rattle.register_laws.specs.Lawful.{IsBrought, book_behind, own_at}
use Rattle.register_laws.specs.Priced.{HasFewSheets, HasOrderlyTables, IsPricedWhenDue, KeepsFewSheets, NumbersItsSheets, is_sheet_of, most_calendars, most_sheets}
use Rattle.register_machine.specs.journal.Choices.{when}
use Rattle.register_machine.specs.journal.Journals.{Journal, last_moment, with_event}
use Rattle.register_machine.specs.journal.Kinds.{class_in, class_numbered, classes_of, each_in, price_fix_in}
use Rattle.register_machine.specs.journal.Lawful.{IsLawful}
use Rattle.register_machine.specs.pricing.CorrectedPrices.{price_as_corrected, sheet_as_corrected, table_as_corrected}
use Rattle.register_machine.specs.pricing.OrderClasses.{classes_in}
use Rattle.register_machine.specs.pricing.PublishedTable.{empty_table, listing_by, listing_of, table_behind, table_by, table_of}
use Rattle.agent_events.specs.declared.verdict.Caller.{Caller}
use Rattle.register_machine.specs.rules.InOrder.{Rule, broken_rule}
use Rattle.register_machine.specs.rules.Sheets.{incomplete, out_of_turn, too_soon}
use Rattle.register_machine.specs.rules.Standing.{day_used, is_declared_in, is_used_moment}
use Rattle.agent_events.specs.declared.reply.Refusal.TheVariants as Refusal
use Rattle.forward_price.specs.declared.price_sheet.PublishFault.TheVariants as publish_fault

-- ---- the sheets are numbered

pub numbered : (journal : Journal) → IsLawful journal → NumbersItsSheets journal
unfolding table_behind
numbered journal lawful =
    record { published = events-numbered empty_table journal none_numbered; corrected = sheets_are_numbered journal }

-- ---- the table as corrected is orderly

pub lists-corrected : (fixes : List FixPriceForm) (moment : ℕ) (class : ℕ) (prices : List (ℕ × ℕ)) → lists_class (map (price_as_corrected fixes moment) prices) class ≡ lists_class prices class
lists-corrected fixes moment class [] = refl
lists-corrected fixes moment class (price ∷ prices) = ap (λ b. price.0 == class || b) (lists-corrected fixes moment class prices)

awaited-corrected : (fixes : List FixPriceForm) (classes : List Opening) (sheets : List Sheet) (pair : ℕ × ℕ) → is_awaited classes (map (sheet_as_corrected fixes) sheets) pair ≡ is_awaited classes sheets pair
awaited-corrected fixes classes sheets pair =
    ap (λ b. list_any (is_offered_at pair.1 pair.0) classes && not b) (corrected-sheets fixes pair.1 pair.0 sheets)

pub orderly-corrected : (journal : Journal) (t : Table) → IsOrderly t → IsOrderly (table_as_corrected journal t)
orderly-corrected journal t o = record {
  calendars_differ = o.calendars_differ;
  classes_differ = o.classes_differ;
  on_pricing_days = All-map (λ (s : Sheet). Contains (pricing_pairs t.calendars) (s.moment, s.calendar)) f t.sheets o.on_pricing_days;
  complete = All-map (λ (s : Sheet). (n : ℕ) → lists_class s.prices n ≡ must_list t.classes s.calendar s.moment n) f t.sheets
      (λ k d l n. lists-corrected (each_in price_fix_in journal) (get_or t.sheets k d).moment n (get_or t.sheets k d).prices ∙ o.complete k d l n);
  none_passed = All-map (λ (s : Sheet). All (λ (pair : ℕ × ℕ). pair.1 ≡ s.calendar → pair.0 ≤ s.moment → is_awaited t.classes (map f t.sheets) pair ≡ false) (pricing_pairs t.calendars)) f t.sheets
      (λ k d l i e m of upto. awaited-corrected (each_in price_fix_in journal) t.classes t.sheets (get_or (pricing_pairs t.calendars) i e) ∙ o.none_passed k d l i e m of upto);
  rises = λ i j d lt l same.
      let long : j < length t.sheets = subst (λ n. j < n) (length-map t.sheets f) l in
      let first = get_or-map f t.sheets i d d (omega (arith, lt, long)) in
      let second = get_or-map f t.sheets j d d long in
      subst (λ (s : Sheet). s.moment < (get_or (map f t.sheets) j d).moment) (sym first)
      (subst (λ (s : Sheet). (get_or t.sheets i d).moment < s.moment) (sym second)
      (o.rises i j d lt long (ap (λ (s : Sheet). s.calendar) (sym first) ∙ (same ∙ ap (λ (s : Sheet). s.calendar) second))));
}
  where
    f : Sheet → Sheet
    f = sheet_as_corrected (each_in price_fix_in journal)

-- the sheet that is expected is the same, whether prices were corrected or not
considered-same : (p q : ℕ × ℕ → Bool) → ((pair : ℕ × ℕ) → p pair ≡ q pair) → (pairs : List (ℕ × ℕ)) (found : Option (ℕ × ℕ)) → fold (best_so_far p is_sooner) found pairs ≡ fold (best_so_far q is_sooner) found pairs
considered-same p q same [] found = refl
considered-same p q same (pair ∷ pairs) found =
    ap (λ b. fold (best_so_far p is_sooner) (cond b (found_or_better is_sooner found pair) found) pairs) (same pair)
    ∙ considered-same p q same pairs (cond (q pair) (found_or_better is_sooner found pair) found)

pub expected-corrected : (journal : Journal) (t : Table) → expected_of (table_as_corrected journal t) ≡ expected_of t
expected-corrected journal t =
    considered-same (is_awaited t.classes (map (sheet_as_corrected (each_in price_fix_in journal)) t.sheets)) (is_awaited t.classes t.sheets)
    (awaited-corrected (each_in price_fix_in journal) t.classes t.sheets) (pricing_pairs t.calendars) None

-- ---- what an event of a lawful journal keeps

-- the days of a calendar are a listing of ten years at most
pub record IsCalendar (c : Listing) : Type 0 where
  pub listing : IsListing c.days
  pub span : length c.days ≤ longest_span

no-days : IsListing []
no-days = record {
  days_rise = λ i j d lt l. absurd (omega (arith, l));
  moments_rise = λ i j d lt l. absurd (omega (arith, l));
}

length-days_on : (f : ℕ → Option ℕ) (dates : List ℕ) (days : List PricingDay) → Ok days ≡ days_on f dates → length days ≤ length dates
unfolding days_on
length-days_on f dates days e = by_fault (first_not_rising 0 (map f dates)) e
  where
    by_fault : (fault : Option ℕ) → Ok days ≡ days_or_fault f dates fault → length days ≤ length dates
    by_fault None is =
        let same : days ≡ map (priced_at f) dates = cc in
        omega (arith, ap length same, length-map dates (priced_at f))
    by_fault (Some place) is = cc

calendar-by-days : (number : ℕ) (f : ℕ → Option ℕ) (dates : List ℕ) (days : Result (List PricingDay) CalendarRefusal) → AllPairs (λ a b. a < b) dates → length dates ≤ longest_span → days ≡ days_on f dates → IsCalendar (listing_by number (listing_numbered number days))
calendar-by-days number f dates (Ok days) rise short is = record {
  listing = IsListing-days_on f dates days rise is;
  span = omega (arith, short, length-days_on f dates days is);
}
calendar-by-days number f dates (Err refusal) rise short is = record { listing = no-days; span = omega arith }

calendar-by-rule : (rule : Option ZoneRule) (terms : CalendarTerms) → IsCalendar (listing_by terms.number (calendar_by rule terms))
calendar-by-rule None terms = record { listing = no-days; span = omega arith }
calendar-by-rule (Some rule) terms = by_span (is_bad_span terms.first terms.last) refl
  where
    dates : List ℕ
    dates = pricing_dates terms.holidays terms.first terms.last

    by_span : (bad : Bool) → is_bad_span terms.first terms.last ≡ bad → IsCalendar (listing_by terms.number (cond bad (Err CalendarRefusal.BadSpan) (listing_numbered terms.number (days_on (instant_on rule terms.minute) (pricing_dates terms.holidays terms.first terms.last)))))
    by_span true is = record { listing = no-days; span = omega arith }
    by_span false is =
        let parts = or_parts (nat_lt terms.last terms.first) (nat_lt longest_span (terms.last + 1 - terms.first)) is in
        let short = ltb-false longest_span (terms.last + 1 - terms.first) parts.1 in
        calendar-by-days terms.number (instant_on rule terms.minute) (pricing_dates terms.holidays terms.first terms.last) (days_on (instant_on rule terms.minute) (pricing_dates terms.holidays terms.first terms.last))
        (pricing_dates-rise terms.holidays terms.first terms.last) (omega (arith, short, length-pricing_dates terms.holidays terms.first terms.last)) refl

listing-is : (form : CalendarForm) → IsCalendar (listing_of form)
unfolding new_calendar
listing-is form = calendar-by-rule (read_zone form.zone) (calendar_terms form)

closed-is : (calendar day : ℕ) (c : Listing) → IsCalendar c → IsCalendar (closed_in calendar day c)
closed-is calendar day c is =
    elim (c.number == calendar) as (λ b. IsCalendar (cond b (without_day c day) c)) [
      | true ↦ record {
        listing = IsListing-without (λ e. not (e.day == day)) c.days is.listing;
        span = omega (arith, is.span, length-filter (λ (e : PricingDay). not (e.day == day)) c.days, count_by-le-length (λ (e : PricingDay). not (e.day == day)) c.days);
      }
      | false ↦ is
    ]

-- classes of the table are those of the journal
abbrev sees_class : ℕ → Table → Bool
sees_class number table = list_any (λ (class : Opening). class.class == number) table.classes

class-step : (number : ℕ) (table : Table) (moment : ℕ) (kind : EventKind) → sees_class number (table_by table moment kind) ≡ (sees_class number table || option_map_or (is_class number) (class_in kind) false)
class-step number table moment (EventKind.Class form) =
    any-more (λ (class : Opening). class.class == number) table.classes (record { class = form.class; calendar = form.calendar; opened = moment })
class-step number table moment _ = sym (or-false (sees_class number table))

pub classes-seen : (number : ℕ) (journal : Journal) → sees_class number (table_of journal) ≡ list_any (is_class number) (classes_of journal)
classes-seen number journal = table-sees (sees_class number) class_in (is_class number) (class-step number) refl journal

none-found : {X : Type 0} (p : X → Bool) (xs : List X) → list_any p xs ≡ false → find p xs ≡ None
none-found {X = X} p xs e = by_found (find p xs) (sym (list_any-find p xs) ∙ e)
  where
    by_found : (found : Option X) → is_some found ≡ false → found ≡ None
    by_found None h = refl
    by_found (Some x) h = absurd (true≢false h)

-- a number that isn't taken is of no class of the table
class-free : (journal : Journal) (number : ℕ) → when (is_some (class_numbered (classes_of journal) number)) number ≡ None → class_opened (table_of journal).classes number ≡ None
class-free journal number free =
    none-found (λ (class : Opening). class.class == number) (table_of journal).classes
    (classes-seen number journal ∙ (list_any-find (is_class number) (classes_of journal) ∙ not_when (is_some (class_numbered (classes_of journal) number)) number free))

pub calendar-unknown : (table : Table) (number : ℕ) → when (is_some (calendar_numbered table.calendars number)) number ≡ None → calendar_numbered table.calendars number ≡ None
calendar-unknown table number free =
    none-found (λ (c : Listing). c.number == number) table.calendars
    (list_any-find (λ (c : Listing). c.number == number) table.calendars ∙ not_when (is_some (calendar_numbered table.calendars number)) number free)

-- ---- a closure leaves the days that have a sheet

-- of a listing's days the one that a date finds is the only one of that date
moment-of-day : (days : List PricingDay) (e : PricingDay) → AllPairs (λ a b. a.day < b.day) days → Contains days e → find (λ (other : PricingDay). other.day == e.day) days ≡ Some e
moment-of-day [] e rise (k, l, is) = absurd (omega arith)
moment-of-day (x ∷ days) e rise (zero, l, is) =
    rw ((Decides-eqb x.day e.day).1 (ap (λ (d : PricingDay). d.day) is)) (ap Some is)
moment-of-day (x ∷ days) e rise (suc k, l, is) =
    let later : x.day < e.day = subst (λ (d : PricingDay). x.day < d.day) is (rise 0 (suc k) e (omega arith) l) in
    rw (false_from_ne_true (x.day == e.day) (λ same. absurd (omega (arith, later, eqb-true x.day e.day same))))
    (moment-of-day days e (λ i j d lt short. rise (suc i) (suc j) d (omega (arith, lt)) (omega (arith, short))) (k, omega arith, is))

-- what a closure leaves of the moments
kept-moment : (days : List PricingDay) (day : ℕ) (m : ℕ) → Contains (map (λ (e : PricingDay). e.moment) days) m → ((e : PricingDay) → Contains days e → e.moment ≡ m → (e.day == day) ≡ false) → Contains (map (λ (e : PricingDay). e.moment) (filter (λ e. not (e.day == day)) days)) m
kept-moment [] day m (k, l, is) apart = absurd (omega arith)
kept-moment (x ∷ days) day m (zero, l, is) apart = rw (apart x (0, omega arith, refl) is) (0, omega arith, is)
kept-moment (x ∷ days) day m (suc k, l, is) apart =
    by_first (x.day == day)
    (kept-moment days day m (k, omega arith, is) (λ e there same. apart e (suc there.0, omega (arith, there.1), there.2) same))
  where
    by_first : (b : Bool) → Contains (map (λ (e : PricingDay). e.moment) (filter (λ e. not (e.day == day)) days)) m → Contains (map (λ (e : PricingDay). e.moment) (cond (not b) (x ∷ filter (λ e. not (e.day == day)) days) (filter (λ e. not (e.day == day)) days))) m
    by_first true rest = rest
    by_first false rest = (suc rest.0, omega (arith, rest.1), rest.2)

numbered-closed : (calendar day number : ℕ) (calendars : List Listing) → calendar_numbered (map (closed_in calendar day) calendars) number ≡ option_map (closed_in calendar day) (calendar_numbered calendars number)
numbered-closed calendar day number [] = refl
numbered-closed calendar day number (c ∷ calendars) =
    ap (λ n. cond (n == number) (Some (closed_in calendar day c)) (calendar_numbered (map (closed_in calendar day) calendars) number)) (closed_number calendar day c)
    ∙ by_first (c.number == number) (numbered-closed calendar day number calendars)
  where
    by_first : (b : Bool) → calendar_numbered (map (closed_in calendar day) calendars) number ≡ option_map (closed_in calendar day) (calendar_numbered calendars number) → cond b (Some (closed_in calendar day c)) (calendar_numbered (map (closed_in calendar day) calendars) number) ≡ option_map (closed_in calendar day) (cond b (Some c) (calendar_numbered calendars number))
    by_first true rest = refl
    by_first false rest = rest

-- the day to close has no sheet
no-sheet-on : (sheets : List Sheet) (calendar : ℕ) (moment : ℕ) (s : Sheet) → is_some (number_at sheets calendar moment) ≡ false → Contains sheets s → is_sheet_at calendar moment s ≡ true → ⊥
no-sheet-on sheets calendar moment s none there at = by_found (find (is_sheet_at calendar moment) sheets) refl none
  where
    by_found : (found : Option Sheet) → find (is_sheet_at calendar moment) sheets ≡ found → is_some (option_map (λ (sheet : Sheet). sheet.number) found) ≡ false → ⊥
    by_found None is e = true≢false (sym (any_from (is_sheet_at calendar moment) sheets s there at) ∙ (list_any-find (is_sheet_at calendar moment) sheets ∙ ap is_some is))
    by_found (Some sheet) is e = true≢false e

unused-day : (journal : Journal) (now : ℕ) (caller : Caller) (form : CloseForm) (c : Listing) (moment : ℕ) → day_used (own_at journal now caller) (Request.Close form) ≡ None → calendar_numbered (table_of journal).calendars form.calendar ≡ Some c → moment_on c form.day ≡ Some moment → is_some (number_at (book_behind journal).table.sheets form.calendar moment) ≡ false
unused-day journal now caller form c moment free numbered_so on =
    (or_parts (is_some (number_at (book_behind journal).table.sheets form.calendar moment)) (list_any (is_declared_in (book_behind journal) form.calendar moment) (book_behind journal).rates.declared)
    (not_when (is_used_moment (book_behind journal) form.calendar moment) form.calendar
    (sym (ap (λ found. option_and_then (λ (m : ℕ). when (is_used_moment (book_behind journal) form.calendar m) form.calendar) (option_and_then (λ listing. moment_on listing form.day) found)) numbered_so
    ∙ ap (option_and_then (λ (m : ℕ). when (is_used_moment (book_behind journal) form.calendar m) form.calendar)) on)
    ∙ free))).0

-- a correction of prices keeps the numbers of sheets
number_kept : (journal : Journal) (calendar : ℕ) (moment : ℕ) → is_some (number_at (book_behind journal).table.sheets calendar moment) ≡ is_some (number_at (table_of journal).sheets calendar moment)
number_kept journal calendar moment = go (table_of journal).sheets
  where
    go : (sheets : List Sheet) → is_some (number_at (map (sheet_as_corrected (each_in price_fix_in journal)) sheets) calendar moment) ≡ is_some (number_at sheets calendar moment)
    go [] = refl
    go (s ∷ sheets) = by_first (is_sheet_at calendar moment s) (go sheets)
      where
        by_first : (b : Bool) → is_some (number_at (map (sheet_as_corrected (each_in price_fix_in journal)) sheets) calendar moment) ≡ is_some (number_at sheets calendar moment) → is_some (option_map (λ (sheet : Sheet). sheet.number) (cond b (Some (sheet_as_corrected (each_in price_fix_in journal) s)) (find (is_sheet_at calendar moment) (map (sheet_as_corrected (each_in price_fix_in journal)) sheets)))) ≡ is_some (option_map (λ (sheet : Sheet). sheet.number) (cond b (Some s) (find (is_sheet_at calendar moment) sheets)))
        by_first true rest = refl
        by_first false rest = rest

closed-keeps : (journal : Journal) (now : ℕ) (caller : Caller) (form : CloseForm) → day_used (own_at journal now caller) (Request.Close form) ≡ None → IsOrderly (table_of journal) → All IsCalendar (table_of journal).calendars → AreOnPricingDays (without_day_of (table_of journal) form.calendar form.day).calendars (table_of journal).sheets
closed-keeps journal now caller form free o are k d short = here (get_or t.sheets k d) (Contains-get_or t.sheets k d short) (o.on_pricing_days k d short)
  where
    t : Table
    t = table_of journal

    here : (s : Sheet) → Contains (table_of journal).sheets s → Contains (pricing_pairs (table_of journal).calendars) (s.moment, s.calendar) → Contains (pricing_pairs (map (closed_in form.calendar form.day) (table_of journal).calendars)) (s.moment, s.calendar)
    here s there on = by_calendar (c.number == form.calendar) refl
      where
        known : (c : Listing) × (calendar_numbered (table_of journal).calendars s.calendar ≡ Some c) × (Contains (table_of journal).calendars c) × (Contains (moments_of c) s.moment) × (c.number ≡ s.calendar)
        known = pair_calendar (table_of journal).calendars (s.moment, s.calendar) o.calendars_differ on

        c : Listing
        c = known.0

        numbered_so : calendar_numbered (map (closed_in form.calendar form.day) (table_of journal).calendars) s.calendar ≡ Some (closed_in form.calendar form.day known.0)
        numbered_so =
            numbered-closed form.calendar form.day s.calendar (table_of journal).calendars
            ∙ ap (option_map (closed_in form.calendar form.day)) known.1

        is_used : (known.0.number == form.calendar) ≡ true → (e : PricingDay) → Contains known.0.days e → e.moment ≡ s.moment → e.day ≡ form.day → ⊥
        is_used same e listed at day =
            let number : known.0.number ≡ form.calendar = eqb-true known.0.number form.calendar same in
            let own : calendar_numbered (table_of journal).calendars form.calendar ≡ Some known.0 = subst (λ n. calendar_numbered (table_of journal).calendars n ≡ Some known.0) (sym known.4 ∙ number) known.1 in
            let is = All-contains IsCalendar (table_of journal).calendars known.0 are known.2 in
            let on_day : moment_on known.0 form.day ≡ Some e.moment = subst (λ day. moment_on known.0 day ≡ Some e.moment) day (ap (option_map (λ (e : PricingDay). e.moment)) (moment-of-day known.0.days e is.listing.days_rise listed)) in
            let none = unused-day journal now caller form known.0 e.moment free own on_day in
            let place = number_kept journal form.calendar e.moment in
            no-sheet-on (table_of journal).sheets form.calendar e.moment s (sym place ∙ none) there
            (and_from (s.calendar == form.calendar) (s.moment == e.moment) ((Decides-eqb s.calendar form.calendar).1 (sym known.4 ∙ number)) ((Decides-eqb s.moment e.moment).1 (sym at)))

        by_calendar : (same : Bool) → (known.0.number == form.calendar) ≡ same → Contains (pricing_pairs (map (closed_in form.calendar form.day) (table_of journal).calendars)) (s.moment, s.calendar)
        by_calendar true same =
            calendar_pair (map (closed_in form.calendar form.day) (table_of journal).calendars) s.calendar (without_day known.0 form.day) s.moment
            (subst (λ b. calendar_numbered (map (closed_in form.calendar form.day) (table_of journal).calendars) s.calendar ≡ Some (cond b (without_day known.0 form.day) known.0)) same numbered_so)
            (kept-moment known.0.days form.day s.moment known.3
            (λ e listed at. false_from_ne_true (e.day == form.day) (λ day. is_used same e listed at (eqb-true e.day form.day day))))
        by_calendar false same =
            calendar_pair (map (closed_in form.calendar form.day) (table_of journal).calendars) s.calendar known.0 s.moment
            (subst (λ b. calendar_numbered (map (closed_in form.calendar form.day) (table_of journal).calendars) s.calendar ≡ Some (cond b (without_day known.0 form.day) known.0)) same numbered_so)
            known.3

-- ---- a sheet in its turn

-- without a fault it is the expected one, its list is complete, and its moment has come
pub without-fault : (expected : Option (ℕ × ℕ)) (wrong : Option ℕ) (calendar : ℕ) (moment now : ℕ) → out_of_turn (fault_of expected wrong calendar moment now) ≡ None → incomplete (fault_of expected wrong calendar moment now) ≡ None → too_soon (fault_of expected wrong calendar moment now) ≡ None → (expected ≡ Some (moment, calendar)) × (wrong ≡ None) × (nat_lt now moment ≡ false)
without-fault None wrong calendar moment now turn complete soon = absurd (none turn)
  where
    none : out_of_turn (Some (publish_fault.SheetOutOfTurn 0 0)) ≡ None → ⊥
    none h = cc
without-fault (Some pair) wrong calendar moment now turn complete soon = by_pair (is_pair calendar moment pair) refl turn complete soon
  where
    some_turn : out_of_turn (Some (publish_fault.SheetOutOfTurn pair.0 pair.1)) ≡ None → ⊥
    some_turn h = cc

    some_class : (class : ℕ) → incomplete (Some (publish_fault.SheetIncomplete class)) ≡ None → ⊥
    some_class class h = cc

    some_soon : too_soon (Some (publish_fault.TooSoon moment)) ≡ None → ⊥
    some_soon h = cc

    by_moment : (early : Bool) → too_soon (cond early (Some (publish_fault.TooSoon moment)) None) ≡ None → early ≡ false
    by_moment true h = absurd (some_soon h)
    by_moment false h = refl

    by_list : (list : Option ℕ) → incomplete (list_fault list moment now) ≡ None → too_soon (list_fault list moment now) ≡ None → (list ≡ None) × (nat_lt now moment ≡ false)
    by_list None c s = (refl, by_moment (nat_lt now moment) s)
    by_list (Some class) c s = absurd (some_class class c)

    by_pair : (is : Bool) → is_pair calendar moment pair ≡ is → out_of_turn (cond is (list_fault wrong moment now) (Some (publish_fault.SheetOutOfTurn pair.0 pair.1))) ≡ None → incomplete (cond is (list_fault wrong moment now) (Some (publish_fault.SheetOutOfTurn pair.0 pair.1))) ≡ None → too_soon (cond is (list_fault wrong moment now) (Some (publish_fault.SheetOutOfTurn pair.0 pair.1))) ≡ None → (Some pair ≡ Some (moment, calendar)) × (wrong ≡ None) × (nat_lt now moment ≡ false)
    by_pair true is t c s =
        let parts = and_parts (pair.0 == moment) (pair.1 == calendar) is in
        let rest = by_list wrong c s in
        (ap (λ (m : ℕ). Some (m, pair.1)) ((Decides-eqb pair.0 moment).0 parts.0) ∙ ap (λ (n : ℕ). Some (moment, n)) (eqb-true pair.1 calendar parts.1), rest.0, rest.1)
    by_pair false is t c s = absurd (some_turn t)

-- ---- one event more

pub record IsKeptAt (t : Table) (now : ℕ) : Type 0 where
  pub orderly : IsOrderly t
  pub calendars : All IsCalendar t.calendars
  pub few : length t.calendars ≤ most_calendars
  pub past : All (λ (s : Sheet). s.moment ≤ now) t.sheets

still-past : (sheets : List Sheet) (before now : ℕ) → before ≤ now → All (λ (s : Sheet). s.moment ≤ before) sheets → All (λ (s : Sheet). s.moment ≤ now) sheets
still-past sheets before now le past k d short =
    let here = past k d short in omega (arith, here, le)

kept-later : (t : Table) (before now : ℕ) → before ≤ now → IsKeptAt t before → IsKeptAt t now
kept-later t before now le kept = record {
  orderly = kept.orderly;
  calendars = kept.calendars;
  few = kept.few;
  past = still-past t.sheets before now le kept.past;
}

room-for-one : (n most : ℕ) → option_and_then (λ (numbers : ℕ × ℕ). when (nat_le numbers.1 numbers.0) (Refusal.TooMany numbers.1)) (Some (n, most)) ≡ None → n < most
room-for-one n most clear =
    elim (leb_tells most n) [
      | inl (t, le) ↦ absurd (true≢false (sym t ∙ not_when (nat_le most n) (Refusal.TooMany most) clear))
      | inr (t, gt) ↦ omega (arith, gt)
    ]

kept-kind : (journal : Journal) (now : ℕ) (caller : Caller) (kind : EventKind) → broken_rule (own_at journal now caller) (request_of kind) ≡ None → last_moment journal ≤ now → IsKeptAt (table_of journal) (last_moment journal) → IsKeptAt (table_by (table_of journal) now kind) now
kept-kind journal now caller (EventKind.Calendar form) clear late kept =
    let situation = own_at journal now caller in
    let request = Request.Calendar form in
    let t = table_of journal in
    let unknown = calendar-unknown t form.calendar (number_free situation request clear) in
    let room = room-for-one (length t.calendars) most_calendars (not_broken situation request clear Rule.TooMany) in
    record {
      orderly = orderly_calendar t (listing_of form) kept.orderly (subst (λ n. calendar_numbered t.calendars n ≡ None) (sym (listing-number form)) unknown);
      calendars = All-push IsCalendar t.calendars (listing_of form) kept.calendars (listing-is form);
      few = omega (arith, room, length-append t.calendars (listing_of form ∷ []));
      past = still-past t.sheets (last_moment journal) now late kept.past;
    }
kept-kind journal now caller (EventKind.Close form) clear late kept =
    let situation = own_at journal now caller in
    let request = Request.Close form in
    let t = table_of journal in
    record {
      orderly = orderly_closure t form.calendar form.day kept.orderly (closed-keeps journal now caller form (day_free situation request clear) kept.orderly kept.calendars);
      calendars = All-map IsCalendar (closed_in form.calendar form.day) t.calendars (λ k d short. closed-is form.calendar form.day (get_or t.calendars k d) (kept.calendars k d short));
      few = omega (arith, kept.few, length-map t.calendars (closed_in form.calendar form.day));
      past = still-past t.sheets (last_moment journal) now late kept.past;
    }
kept-kind journal now caller (EventKind.Class form) clear late kept =
    let situation = own_at journal now caller in
    let request = Request.Class form in
    let t = table_of journal in
    let past = still-past t.sheets (last_moment journal) now late kept.past in
    record {
      orderly = orderly_class t form.class form.calendar now kept.orderly (class-free journal form.class (number_free situation request clear)) (λ k d short same. past k d short);
      calendars = kept.calendars;
      few = kept.few;
      past = past;
    }
kept-kind journal now caller (EventKind.Sheet form) clear late kept =
    let situation = own_at journal now caller in
    let request = Request.Sheet form in
    let t = table_of journal in
    let is = without-fault (expected_of (book_behind journal).table) (wrong_class t.classes form.calendar form.moment form.prices) form.calendar form.moment now
    (not_broken situation request clear Rule.SheetOutOfTurn) (not_broken situation request clear Rule.SheetIncomplete) (not_broken situation request clear Rule.TooSoon) in
    record {
      orderly = orderly_sheet t form.calendar form.moment form.prices kept.orderly (record { expected = sym (expected-corrected journal t) ∙ is.0; complete = is.1 });
      calendars = kept.calendars;
      few = kept.few;
      past = All-push (λ (s : Sheet). s.moment ≤ now) t.sheets (sheet_published t form.calendar form.moment form.prices) (still-past t.sheets (last_moment journal) now late kept.past) (ge_fact now form.moment is.2);
    }
kept-kind journal now caller kind clear late kept = kept-later (table_of journal) (last_moment journal) now late kept

kept-more : (journal : Journal) (event : Event) → IsLawful journal → IsBrought journal event → IsKeptAt (table_of journal) (last_moment journal) → IsKeptAt (table_of (with_event journal event)) (last_moment (with_event journal event))
kept-more journal event lawful brought kept =
    subst (λ t. IsKeptAt t (last_moment (with_event journal event))) (sym (table-one journal event))
    (subst (IsKeptAt (table_by (table_of journal) event.moment event.kind)) (sym (last-more journal event))
    (kept-kind journal event.moment brought.caller event.kind brought.clear brought.not_before kept))

kept-at-first : IsKeptAt (table_of []) 0
unfolding table_behind
kept-at-first = record {
  orderly = orderly_at_first;
  calendars = All-nil IsCalendar;
  few = omega arith;
  past = All-nil (λ (s : Sheet). s.moment ≤ 0);
}

pub kept : (journal : Journal) → IsLawful journal → IsKeptAt (table_of journal) (last_moment journal)
kept = lawful-keeps (λ journal. IsKeptAt (table_of journal) (last_moment journal)) kept-more kept-at-first

pub orderly_tables : (journal : Journal) → IsLawful journal → HasOrderlyTables journal
orderly_tables journal lawful =
    let is = (kept journal lawful).orderly in
    record { published = is; corrected = orderly-corrected journal (table_of journal) is }

pub priced_when_due_in : (journal : Journal) → IsLawful journal → (row : OrderRow) → IsPricedWhenDue (book_behind journal) row
priced_when_due_in journal lawful row sheet e =
    priced_when_due (book_behind journal).table (classes_in row.order.body) row.receipt sheet (orderly_tables journal lawful).corrected (omega arith) e

-- ---- no more than the pricing days

without-place : {X : Type 0} → ℕ → List X → List X
without-place k [] = []
without-place zero (y ∷ ys) = ys
without-place (suc k) (y ∷ ys) = y ∷ without-place k ys

less-by-one : {X : Type 0} (k : ℕ) (ys : List X) → k < length ys → suc (length (without-place k ys)) ≡ length ys
unfolding without-place
less-by-one k [] short = absurd (omega arith)
less-by-one zero (y ∷ ys) short = refl
less-by-one (suc k) (y ∷ ys) short = ap suc (less-by-one k ys (omega (arith, short)))

stays-there : {X : Type 0} (k : ℕ) (ys : List X) (x z : X) → get_or ys k x ≡ x → (x ≡ z → ⊥) → k < length ys → Contains ys z → Contains (without-place k ys) z
unfolding without-place
stays-there k [] x z is apart short (i, l, e) = absurd (omega arith)
stays-there zero (y ∷ ys) x z is apart short (zero, l, e) = absurd (apart (sym is ∙ e))
stays-there zero (y ∷ ys) x z is apart short (suc i, l, e) = (i, omega arith, e)
stays-there (suc k) (y ∷ ys) x z is apart short (zero, l, e) = (0, omega arith, e)
stays-there (suc k) (y ∷ ys) x z is apart short (suc i, l, e) =
    let rest = stays-there k ys x z is apart (omega (arith, short)) (i, omega arith, e) in
    (suc rest.0, omega (arith, rest.1), rest.2)

-- values that differ and stand in a list are no more than it has places
few-distinct : {S X : Type 0} (f : S → X) (xs : List S) (ys : List X) → AllPairs (λ a b. f a ≡ f b → ⊥) xs → All (λ a. Contains ys (f a)) xs → length xs ≤ length ys
few-distinct f [] ys differ there = omega arith
few-distinct f (x ∷ xs) ys differ there =
    let place = there 0 x (omega arith) in
    let rest = few-distinct f xs (without-place place.0 ys)
    (λ i j d lt short. differ (suc i) (suc j) d (omega (arith, lt)) (omega (arith, short)))
    (λ k d short. stays-there place.0 ys (f x) (f (get_or xs k d)) place.2 (differ 0 (suc k) d (omega arith) (omega (arith, short))) place.1 (there (suc k) d (omega (arith, short)))) in
    omega (arith, rest, less-by-one place.0 ys place.1)

-- a calendar among those that differ is the one of its number
numbered-itself : (calendars : List Listing) (c : Listing) → AllPairs (λ a b. a.number ≢ b.number) calendars → Contains calendars c → calendar_numbered calendars c.number ≡ Some c
numbered-itself [] c differ (k, l, is) = absurd (omega arith)
numbered-itself (x ∷ calendars) c differ (zero, l, is) =
    rw ((Decides-eqb x.number c.number).1 (ap (λ (d : Listing). d.number) is)) (ap Some is)
numbered-itself (x ∷ calendars) c differ (suc k, l, is) =
    rw (false_from_ne_true (x.number == c.number) (λ same. differ 0 (suc k) c (omega arith) l (eqb-true x.number c.number same ∙ sym (ap (λ (d : Listing). d.number) is))))
    (numbered-itself calendars c (differ_rest x calendars differ) (k, omega arith, is))

sheets-of-few : (t : Table) (c : Listing) → IsOrderly t → Contains t.calendars c → length (filter (is_sheet_of c.number) t.sheets) ≤ length (moments_of c)
sheets-of-few t c o there =
    few-distinct (λ (s : Sheet). s.moment) own (moments_of c)
    (λ i j d lt short same.
    let first = filter_passes (is_sheet_of c.number) t.sheets i d (omega (arith, lt, short)) in
    let second = filter_passes (is_sheet_of c.number) t.sheets j d short in
    let rises = AllPairs-filter (λ (a b : Sheet). a.calendar ≡ b.calendar → a.moment < b.moment) (is_sheet_of c.number) t.sheets o.rises i j d lt short
    (eqb-true (get_or own i d).calendar c.number first ∙ sym (eqb-true (get_or own j d).calendar c.number second)) in
    omega (arith, rises, same))
    (λ k d short.
    let s = get_or own k d in
    let number : s.calendar ≡ c.number = eqb-true s.calendar c.number (filter_passes (is_sheet_of c.number) t.sheets k d short) in
    let on = All-filter (is_sheet_of c.number) (λ (s : Sheet). Contains (pricing_pairs t.calendars) (s.moment, s.calendar)) t.sheets o.on_pricing_days k d short in
    let known = pair_calendar t.calendars (s.moment, s.calendar) o.calendars_differ on in
    let same : known.0 ≡ c = some_same (sym known.1 ∙ subst (λ n. calendar_numbered t.calendars n ≡ Some c) (sym number) (numbered-itself t.calendars c o.calendars_differ there)) in
    subst (λ d. Contains (moments_of d) s.moment) same known.3)
  where
    own : List Sheet
    own = filter (is_sheet_of c.number) t.sheets

    some_same : {X : Type 0} {x y : X} → Some x ≡ Some y → x ≡ y
    some_same h = cc

all-sheets-few : (t : Table) → IsOrderly t → length t.sheets ≤ length (pricing_pairs t.calendars)
all-sheets-few t o =
    few-distinct (λ (s : Sheet). (s.moment, s.calendar)) t.sheets (pricing_pairs t.calendars)
    (λ i j d lt short same.
    let rises = o.rises i j d lt short (ap (λ (pair : ℕ × ℕ). pair.1) same) in
    let moments = ap (λ (pair : ℕ × ℕ). pair.0) same in
    omega (arith, rises, moments))
    o.on_pricing_days

pairs-few : (calendars : List Listing) → All IsCalendar calendars → length (pricing_pairs calendars) ≤ length calendars * longest_span
pairs-few [] are = omega arith
pairs-few (c ∷ calendars) are =
    let here = are 0 c (omega arith) in
    let rest = pairs-few calendars (λ k d short. are (suc k) d (omega (arith, short))) in
    omega (arith, here.span, rest, length-append (pairs_of c) (pricing_pairs calendars), length-map c.days (pricing_pair c.number))

keeps-few : (journal : Journal) → IsLawful journal → KeepsFewSheets (table_of journal)
keeps-few journal lawful =
    let is = kept journal lawful in
    let t = table_of journal in
    let all = all-sheets-few t is.orderly in
    let pairs = pairs-few t.calendars is.calendars in
    let few : length t.sheets ≤ most_sheets = omega (arith, all, pairs, is.few) in
    record {
      calendars = is.few;
      of_each = λ k d short.
          let c = get_or t.calendars k d in
          record {
            days = (is.calendars k d short).span;
            each_day = omega (arith, sheets-of-few t c is.orderly (Contains-get_or t.calendars k d short), length-filter (is_sheet_of c.number) t.sheets, length-map c.days (λ (e : PricingDay). e.moment));
          };
      of_all = few;
      in_range = omega (arith, few);
    }

-- a correction of prices keeps how many there are
abbrev sheet_one : ℕ → Sheet → ℕ
sheet_one calendar sheet = cond (is_sheet_of calendar sheet) 1 0

counted-corrected : (fixes : List FixPriceForm) (calendar : ℕ) (sheets : List Sheet) → count_by (is_sheet_of calendar) (map (sheet_as_corrected fixes) sheets) ≡ count_by (is_sheet_of calendar) sheets
counted-corrected fixes calendar [] = refl
counted-corrected fixes calendar (sheet ∷ sheets) =
    let one = sheet_one calendar in
    omega (arith, counted-corrected fixes calendar sheets, sum_by-cons one (sheet_as_corrected fixes sheet) (map (sheet_as_corrected fixes) sheets), sum_by-cons one sheet sheets)

few-corrected : (journal : Journal) (t : Table) → KeepsFewSheets t → KeepsFewSheets (table_as_corrected journal t)
few-corrected journal t few =
    let fixes = each_in price_fix_in journal in
    let same = length-map t.sheets (sheet_as_corrected fixes) in
    record {
      calendars = few.calendars;
      of_each = λ k d short.
          let c = get_or t.calendars k d in
          record {
            days = (few.of_each k d short).days;
            each_day = omega (arith, (few.of_each k d short).each_day, counted-corrected fixes c.number t.sheets);
          };
      of_all = omega (arith, few.of_all, same);
      in_range = omega (arith, few.in_range, same);
    }

pub few_sheets : (journal : Journal) → IsLawful journal → HasFewSheets journal
few_sheets journal lawful =
    let few = keeps-few journal lawful in
    record { published = few; corrected = few-corrected journal (table_of journal) few }

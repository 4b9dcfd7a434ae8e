-- No calendar, no closure and no sheet stands twice in a lawful journal: what the price table has of them.
use Rattle.std.proofs.Common.{Bool, Err, List, None, Ok, Option, Result, Some, [], ap, arith, cond, false, filter, find, fold, is_some, map, not, refl, subst, sym, true, ℕ, ⊎_elim, ◌&&◌, ◌++◌, ◌==◌, ◌||◌, ◌∙◌, ◌∷◌, ◌≡◌}
use Rattle.std.proofs.Math.Bool.{or-false, or_assoc}
use Rattle.std.proofs.lemmas.Bool.{and_left, and_parts, and_right, eqb-true, not-false, not-true, or_cases, or_from, or_left, or_parts, true≢false}
use Rattle.std.proofs.lemmas.Bool.Decides.{Decides-eqb}
use Rattle.std.proofs.lemmas.List.Elements.{filter_map-append}
use Rattle.std.proofs.lemmas.List.Folds.{list_any-append}
use Rattle.std.specs.List.{cons_option, list_any}
use Rattle.std.specs.Option.{option_map_or}
use Rattle.agent_events.specs.Calendars.{calendar_terms}
use Rattle.agent_events.specs.Events.{Event, request_of}
use Rattle.agent_events.specs.Fields.{pair}
use Rattle.agent_events.specs.declared.event.EventKind.{EventKind}
use Rattle.agent_events.specs.declared.reply.Refusal.{Refusal}
use Rattle.agent_events.specs.declared.request.CalendarForm.{CalendarForm}
use Rattle.agent_events.specs.declared.request.CloseForm.{CloseForm}
use Rattle.agent_events.specs.declared.request.FixPriceForm.{FixPriceForm}
use Rattle.agent_events.specs.declared.request.Request.{Request}
use Rattle.forward_price.proofs.OrderFacts.{closed_number}
use Rattle.forward_price.proofs.TurnFacts.{expected_best}
use Rattle.forward_price.specs.PriceTables.{Table, calendar_numbered, closed_in, is_priced_day, is_sheet_at, sheet_published, without_day_of}
use Rattle.forward_price.specs.Turns.{expected_of, fault_of, is_offered_at, is_pair, list_fault, wrong_class}
use Rattle.forward_price.specs.declared.price_sheet.Sheet.{Sheet}
use Rattle.fund_calendar.proofs.LookUpLemmas.{list_any-find}
use Rattle.fund_calendar.specs.PricingDays.{CalendarRefusal, CalendarTerms, Listing, calendar_by, days_on, instant_on, is_bad_span, listing_numbered, lists_day, new_calendar, pricing_dates, without_day}
use Rattle.fund_calendar.specs.ZoneText.{read_zone}
use Rattle.fund_calendar.specs.declared.pricing_day.PricingDay.{PricingDay}
use Rattle.fund_calendar.specs.declared.zone.ZoneRule.{ZoneRule}
use Rattle.money_units.specs.Texts.{number}
use Rattle.register_laws.proofs.Choosing.{not_mapped, not_when}
use Rattle.register_laws.proofs.LawfulJournals.{lawful-keeps}
use Rattle.register_laws.proofs.NoIdentityTwice.{number_free, once-in-lawful, once-more}
use Rattle.register_laws.proofs.RulesByName.{not_broken}
use Rattle.register_laws.proofs.Runs.{table-one}
use Rattle.register_laws.specs.Identities.{AtMostOne, NoCalendarTwice, NoClosureTwice, NoSheetTwice, closes, is_calendar, publishes}
use Rattle.register_laws.specs.Lawful.{own_at}
use Rattle.register_machine.specs.journal.Choices.{when}
use Rattle.register_machine.specs.journal.Journals.{Journal}
use Rattle.register_machine.specs.journal.Kinds.{calendar_in, calendars_of, closure_in, closures_of, each_in, price_fix_in, sheet_in}
use Rattle.register_machine.specs.journal.Lawful.{IsLawful}
use Rattle.register_machine.specs.pricing.CorrectedPrices.{sheet_as_corrected}
use Rattle.register_machine.specs.pricing.PublishedTable.{empty_table, listing_by, listing_of, table_after, table_behind, table_by, table_of}
use Rattle.agent_events.specs.declared.verdict.Caller.{Caller}
use Rattle.register_machine.specs.rules.InOrder.{Rule, broken_rule}
use Rattle.register_machine.specs.rules.NamedThings.{has_calendar, has_day, none_such, things_named}
use Rattle.register_machine.specs.rules.Sheets.{out_of_turn, sheet_fault}
use Rattle.register_machine.specs.rules.Situations.{Situation}
use Rattle.register_machine.specs.rules.Standing.{number_taken}
use Rattle.forward_price.specs.declared.price_sheet.PublishFault.TheVariants as publish_fault

-- ---- what a table sees of the events

one-any : {X : Type 0} (test : X → Bool) (found : Option X) (rest : List X) → (option_map_or test found false || list_any test rest) ≡ list_any test (cons_option found rest)
one-any test None rest = refl
one-any test (Some x) rest = refl

-- where each event brings to a table's sight what it says, all of them do
all-seen : {X : Type 0} (seen : Table → Bool) (chosen : EventKind → Option X) (test : X → Bool) → ((table : Table) (moment : ℕ) (kind : EventKind) → seen (table_by table moment kind) ≡ (seen table || option_map_or test (chosen kind) false)) → (events : Journal) (table : Table) → seen (fold table_after table events) ≡ (seen table || list_any test (each_in chosen events))
all-seen seen chosen test step [] table = sym (or-false (seen table))
all-seen seen chosen test step (event ∷ events) table =
    all-seen seen chosen test step events (table_after table event)
    ∙ (ap (λ b. b || list_any test (each_in chosen events)) (step table event.moment event.kind)
    ∙ (or_assoc (seen table) (option_map_or test (chosen event.kind) false) (list_any test (each_in chosen events))
    ∙ ap (λ b. seen table || b) (one-any test (chosen event.kind) (each_in chosen events))))

-- so a journal's table sees what the journal's events say
pub table-sees : {X : Type 0} (seen : Table → Bool) (chosen : EventKind → Option X) (test : X → Bool) → ((table : Table) (moment : ℕ) (kind : EventKind) → seen (table_by table moment kind) ≡ (seen table || option_map_or test (chosen kind) false)) → seen empty_table ≡ false → (journal : Journal) → seen (table_of journal) ≡ list_any test (each_in chosen journal)
unfolding table_behind
table-sees seen chosen test step none journal =
    all-seen seen chosen test step journal empty_table ∙ ap (λ b. b || list_any test (each_in chosen journal)) none

pub any-more : {X : Type 0} (test : X → Bool) (xs : List X) (x : X) → list_any test (xs ++ x ∷ []) ≡ (list_any test xs || test x)
any-more test xs x = list_any-append test xs (x ∷ []) ∙ ap (λ b. list_any test xs || b) (or-false (test x))

-- ---- calendars

abbrev is_numbered : ℕ → Listing → Bool
is_numbered number c = c.number == number

abbrev sees_calendar : ℕ → Table → Bool
sees_calendar number table = list_any (is_numbered number) table.calendars

-- a calendar's listing has its number
days-number : (number : ℕ) (days : Result (List PricingDay) CalendarRefusal) → (listing_by number (listing_numbered number days)).number ≡ number
days-number number (Ok days) = refl
days-number number (Err refusal) = refl

rule-number : (rule : Option ZoneRule) (terms : CalendarTerms) → (listing_by terms.number (calendar_by rule terms)).number ≡ terms.number
rule-number None terms = refl
rule-number (Some rule) terms =
    let days = days_on (instant_on rule terms.minute) (pricing_dates terms.holidays terms.first terms.last) in
    elim (is_bad_span terms.first terms.last) as (λ b. (listing_by terms.number (cond b (Err CalendarRefusal.BadSpan) (listing_numbered terms.number days))).number ≡ terms.number) [
      | true ↦ refl
      | false ↦ days-number terms.number days
    ]

pub listing-number : (form : CalendarForm) → (listing_of form).number ≡ form.calendar
unfolding new_calendar
listing-number form = rule-number (read_zone form.zone) (calendar_terms form)

-- a closure keeps the numbers
closed-numbers : (calendar day number : ℕ) (calendars : List Listing) → list_any (is_numbered number) (map (closed_in calendar day) calendars) ≡ list_any (is_numbered number) calendars
closed-numbers calendar day number [] = refl
closed-numbers calendar day number (c ∷ calendars) =
    ap (λ n. n == number || list_any (is_numbered number) (map (closed_in calendar day) calendars)) (closed_number calendar day c)
    ∙ ap (λ b. c.number == number || b) (closed-numbers calendar day number calendars)

calendar-step : (number : ℕ) (table : Table) (moment : ℕ) (kind : EventKind) → sees_calendar number (table_by table moment kind) ≡ (sees_calendar number table || option_map_or (is_calendar number) (calendar_in kind) false)
calendar-step number table moment (EventKind.Calendar form) =
    any-more (is_numbered number) table.calendars (listing_of form)
    ∙ ap (λ n. sees_calendar number table || n == number) (listing-number form)
calendar-step number table moment (EventKind.Close form) =
    closed-numbers form.calendar form.day number table.calendars ∙ sym (or-false (sees_calendar number table))
calendar-step number table moment _ = sym (or-false (sees_calendar number table))

pub calendars-seen : (number : ℕ) (journal : Journal) → sees_calendar number (table_of journal) ≡ list_any (is_calendar number) (calendars_of journal)
calendars-seen number journal =
    table-sees (sees_calendar number) calendar_in (is_calendar number) (calendar-step number) refl journal

calendar_free : (table : Table) (number : ℕ) → when (is_some (calendar_numbered table.calendars number)) number ≡ None → sees_calendar number table ≡ false
calendar_free table number free =
    list_any-find (is_numbered number) table.calendars
    ∙ not_when (is_some (calendar_numbered table.calendars number)) number free

calendar_new : (journal : Journal) (now : ℕ) (caller : Caller) (number : ℕ) (kind : EventKind) → number_taken (own_at journal now caller) (request_of kind) ≡ None → option_map_or (is_calendar number) (calendar_in kind) false ≡ true → list_any (is_calendar number) (calendars_of journal) ≡ false
calendar_new journal now caller number (EventKind.Calendar form) free here =
    subst (λ n. list_any (is_calendar n) (calendars_of journal) ≡ false) (eqb-true form.calendar number here)
    (sym (calendars-seen form.calendar journal) ∙ calendar_free (table_of journal) form.calendar free)
calendar_new journal now caller number _ free here = absurd (true≢false (sym here))

pub no_calendar_twice : (journal : Journal) → IsLawful journal → NoCalendarTwice journal
no_calendar_twice journal lawful number =
    once-in-lawful calendar_in (is_calendar number)
    (λ known now caller kind clear. calendar_new known now caller number kind (number_free (own_at known now caller) (request_of kind) clear))
    journal lawful

-- ---- sheets

abbrev sees_sheet : ℕ → ℕ → Table → Bool
sees_sheet calendar moment table = list_any (is_sheet_at calendar moment) table.sheets

sheet-step : (calendar at : ℕ) (table : Table) (moment : ℕ) (kind : EventKind) → sees_sheet calendar at (table_by table moment kind) ≡ (sees_sheet calendar at table || option_map_or (publishes calendar at) (sheet_in kind) false)
sheet-step calendar at table moment (EventKind.Sheet form) =
    any-more (is_sheet_at calendar at) table.sheets (sheet_published table form.calendar form.moment form.prices)
sheet-step calendar at table moment _ = sym (or-false (sees_sheet calendar at table))

sheets-seen : (calendar moment : ℕ) (journal : Journal) → sees_sheet calendar moment (table_of journal) ≡ list_any (publishes calendar moment) (each_in sheet_in journal)
sheets-seen calendar moment journal =
    table-sees (sees_sheet calendar moment) sheet_in (publishes calendar moment) (sheet-step calendar moment) refl journal

-- a correction of prices keeps whose sheet it is
pub corrected-sheets : (fixes : List FixPriceForm) (calendar : ℕ) (moment : ℕ) (sheets : List Sheet) → list_any (is_sheet_at calendar moment) (map (sheet_as_corrected fixes) sheets) ≡ list_any (is_sheet_at calendar moment) sheets
corrected-sheets fixes calendar moment [] = refl
corrected-sheets fixes calendar moment (sheet ∷ sheets) =
    ap (λ b. is_sheet_at calendar moment sheet || b) (corrected-sheets fixes calendar moment sheets)

-- a sheet in its turn is the expected one
in_its_turn : (expected : Option (ℕ × ℕ)) (wrong : Option ℕ) (calendar : ℕ) (moment now : ℕ) → out_of_turn (fault_of expected wrong calendar moment now) ≡ None → (pair : ℕ × ℕ) × (expected ≡ Some pair) × (is_pair calendar moment pair ≡ true)
in_its_turn None wrong calendar moment now e = absurd (some_none e)
  where
    some_none : out_of_turn (Some (publish_fault.SheetOutOfTurn 0 0)) ≡ None → ⊥
    some_none h = cc
in_its_turn (Some pair) wrong calendar moment now e = by_pair (is_pair calendar moment pair) refl e
  where
    some_none : out_of_turn (Some (publish_fault.SheetOutOfTurn pair.0 pair.1)) ≡ None → ⊥
    some_none h = cc

    by_pair : (is : Bool) → is_pair calendar moment pair ≡ is → out_of_turn (cond is (list_fault wrong moment now) (Some (publish_fault.SheetOutOfTurn pair.0 pair.1))) ≡ None → (other : ℕ × ℕ) × (Some pair ≡ Some other) × (is_pair calendar moment other ≡ true)
    by_pair true is h = (pair, refl, is)
    by_pair false is h = absurd (some_none h)

-- and that isn't published
unpublished : (table : Table) (calendar : ℕ) (moment : ℕ) (pair : ℕ × ℕ) → expected_of table ≡ Some pair → is_pair calendar moment pair ≡ true → list_any (is_sheet_at calendar moment) table.sheets ≡ false
unpublished table calendar moment pair e same =
    let parts = and_parts (pair.0 == moment) (pair.1 == calendar) same in
    let awaited = and_parts (list_any (is_offered_at pair.1 pair.0) table.classes) (not (list_any (is_sheet_at pair.1 pair.0) table.sheets)) (expected_best table pair e).here in
    subst (λ c. list_any (is_sheet_at c moment) table.sheets ≡ false) (eqb-true pair.1 calendar parts.1)
    (subst (λ m. list_any (is_sheet_at pair.1 m) table.sheets ≡ false) ((Decides-eqb pair.0 moment).0 parts.0)
    (not-true (list_any (is_sheet_at pair.1 pair.0) table.sheets) awaited.1))

sheet_new : (journal : Journal) (now : ℕ) (caller : Caller) (calendar moment : ℕ) (kind : EventKind) → out_of_turn (sheet_fault (own_at journal now caller) (request_of kind)) ≡ None → option_map_or (publishes calendar moment) (sheet_in kind) false ≡ true → list_any (publishes calendar moment) (each_in sheet_in journal) ≡ false
sheet_new journal now caller calendar moment (EventKind.Sheet form) turn here =
    let table = (own_at journal now caller).book.table in
    let found = in_its_turn (expected_of table) (wrong_class table.classes form.calendar form.moment form.prices) form.calendar form.moment now turn in
    let same = and_parts (form.calendar == calendar) (form.moment == moment) here in
    subst (λ c. list_any (publishes c moment) (each_in sheet_in journal) ≡ false) (eqb-true form.calendar calendar same.0)
    (subst (λ m. list_any (publishes form.calendar m) (each_in sheet_in journal) ≡ false) (eqb-true form.moment moment same.1)
    (sym (sheets-seen form.calendar form.moment journal)
    ∙ (sym (corrected-sheets (each_in price_fix_in journal) form.calendar form.moment (table_of journal).sheets)
    ∙ unpublished table form.calendar form.moment found.0 found.1 found.2)))
sheet_new journal now caller calendar moment _ turn here = absurd (true≢false (sym here))

pub no_sheet_twice : (journal : Journal) → IsLawful journal → NoSheetTwice journal
no_sheet_twice journal lawful calendar moment =
    once-in-lawful sheet_in (publishes calendar moment)
    (λ known now caller kind clear. sheet_new known now caller calendar moment kind (not_broken (own_at known now caller) (request_of kind) clear Rule.SheetOutOfTurn))
    journal lawful

-- ---- closures

-- the calendar is there, and the day is none of its days
record IsClosed (calendar day : ℕ) (table : Table) : Type 0 where
  pub there : sees_calendar calendar table ≡ true
  pub none : list_any (is_priced_day calendar day) table.calendars ≡ false

-- a day that is taken away is gone
day-gone : (day : ℕ) (days : List PricingDay) → list_any (λ e. e.day == day) (filter (λ e. not (e.day == day)) days) ≡ false
day-gone day [] = refl
day-gone day (first ∷ days) = by_day (first.day == day) refl (day-gone day days)
  where
    by_day : (is : Bool) → (first.day == day) ≡ is → list_any (λ e. e.day == day) (filter (λ e. not (e.day == day)) days) ≡ false → list_any (λ e. e.day == day) (cond (not is) (first ∷ filter (λ e. not (e.day == day)) days) (filter (λ e. not (e.day == day)) days)) ≡ false
    by_day true is later = later
    by_day false is later = or_from (first.day == day) (list_any (λ e. e.day == day) (filter (λ e. not (e.day == day)) days)) is later

closed-gone : (calendar day : ℕ) (calendars : List Listing) → list_any (is_priced_day calendar day) (map (closed_in calendar day) calendars) ≡ false
closed-gone calendar day [] = refl
closed-gone calendar day (c ∷ calendars) =
    or_from (is_priced_day calendar day (closed_in calendar day c)) (list_any (is_priced_day calendar day) (map (closed_in calendar day) calendars))
    (by_number (c.number == calendar) refl) (closed-gone calendar day calendars)
  where
    by_number : (is : Bool) → (c.number == calendar) ≡ is → is_priced_day calendar day (cond is (without_day c day) c) ≡ false
    by_number true is = and_right (c.number == calendar) (lists_day (without_day c day) day) (day-gone day c.days)
    by_number false is = and_left (c.number == calendar) (lists_day c day) is

-- what isn't listed isn't listed with a day less
fewer-days : (test : PricingDay → Bool) (keep : PricingDay → Bool) (days : List PricingDay) → list_any test days ≡ false → list_any test (filter keep days) ≡ false
fewer-days test keep [] e = refl
fewer-days test keep (first ∷ days) e =
    let parts = or_parts (test first) (list_any test days) e in
    by_kept (keep first) parts.0 (fewer-days test keep days parts.1)
  where
    by_kept : (kept : Bool) → test first ≡ false → list_any test (filter keep days) ≡ false → list_any test (cond kept (first ∷ filter keep days) (filter keep days)) ≡ false
    by_kept true here later = or_from (test first) (list_any test (filter keep days)) here later
    by_kept false here later = later

closed-still : (calendar day other : ℕ) (closed : ℕ) (calendars : List Listing) → list_any (is_priced_day calendar day) calendars ≡ false → list_any (is_priced_day calendar day) (map (closed_in other closed) calendars) ≡ false
closed-still calendar day other closed [] e = refl
closed-still calendar day other closed (c ∷ calendars) e =
    let parts = or_parts (is_priced_day calendar day c) (list_any (is_priced_day calendar day) calendars) e in
    or_from (is_priced_day calendar day (closed_in other closed c)) (list_any (is_priced_day calendar day) (map (closed_in other closed) calendars))
    (by_other (c.number == other) parts.0) (closed-still calendar day other closed calendars parts.1)
  where
    by_calendar : (is : Bool) → (is && lists_day c day) ≡ false → (is && lists_day (without_day c closed) day) ≡ false
    by_calendar true h = fewer-days (λ e. e.day == day) (λ e. not (e.day == closed)) c.days h
    by_calendar false h = refl

    by_other : (is : Bool) → is_priced_day calendar day c ≡ false → is_priced_day calendar day (cond is (without_day c closed) c) ≡ false
    by_other true h = by_calendar (c.number == calendar) h
    by_other false h = h

-- a closed day stays closed, since no calendar of its number comes anew
stays_closed : (calendar day : ℕ) (journal : Journal) (now : ℕ) (caller : Caller) (kind : EventKind) → number_taken (own_at journal now caller) (request_of kind) ≡ None → IsClosed calendar day (table_of journal) → IsClosed calendar day (table_by (table_of journal) now kind)
stays_closed calendar day journal now caller (EventKind.Calendar form) free closed = record {
  there = any-more (is_numbered calendar) (table_of journal).calendars (listing_of form)
      ∙ or_left (sees_calendar calendar (table_of journal)) ((listing_of form).number == calendar) closed.there;
  none = any-more (is_priced_day calendar day) (table_of journal).calendars (listing_of form)
      ∙ or_from (list_any (is_priced_day calendar day) (table_of journal).calendars) (is_priced_day calendar day (listing_of form)) closed.none
      (and_left ((listing_of form).number == calendar) (lists_day (listing_of form) day) (by_number ((listing_of form).number == calendar) refl));
}
  where
    by_number : (is : Bool) → ((listing_of form).number == calendar) ≡ is → is ≡ false
    by_number false e = refl
    by_number true e =
        absurd
        (true≢false
        (sym closed.there
        ∙ subst (λ n. sees_calendar n (table_of journal) ≡ false) (sym (listing-number form) ∙ eqb-true (listing_of form).number calendar e) (calendar_free (table_of journal) form.calendar free)))
stays_closed calendar day journal now caller (EventKind.Close form) free closed = record {
  there = closed-numbers form.calendar form.day calendar (table_of journal).calendars ∙ closed.there;
  none = closed-still calendar day form.calendar form.day (table_of journal).calendars closed.none;
}
stays_closed calendar day journal now caller _ free closed = record { there = closed.there; none = closed.none }

-- a closure names a calendar that is there, and a day of it
pub close_names : (situation : Situation) (form : CloseForm) → none_such situation (Request.Close form) ≡ None → (has_calendar situation form.calendar ≡ true) × (has_day situation form.calendar form.day ≡ true)
close_names situation form clear =
    let fields = things_named situation (Request.Close form) in
    let absent = list_any-find (λ (field : ℕ × Bool). not field.1) fields ∙ ap is_some (not_mapped (λ (field : ℕ × Bool). Refusal.NoSuch field.0) (find (λ field. not field.1) fields) clear) in
    let parts = or_parts (not (has_calendar situation form.calendar)) (not (has_day situation form.calendar form.day) || false) absent in
    let day = or_parts (not (has_day situation form.calendar form.day)) false parts.1 in
    (not-false (has_calendar situation form.calendar) parts.0, not-false (has_day situation form.calendar form.day) day.0)

-- the closures of a day so far: at most one, and behind it the day is closed
record ClosedOnce (calendar day : ℕ) (journal : Journal) : Type 0 where
  pub once : AtMostOne (closes calendar day) (closures_of journal)
  pub closed : list_any (closes calendar day) (closures_of journal) ≡ true → IsClosed calendar day (table_of journal)

closure_new : (journal : Journal) (now : ℕ) (caller : Caller) (calendar day : ℕ) (kind : EventKind) → none_such (own_at journal now caller) (request_of kind) ≡ None → ClosedOnce calendar day journal → option_map_or (closes calendar day) (closure_in kind) false ≡ true → list_any (closes calendar day) (closures_of journal) ≡ false
closure_new journal now caller calendar day (EventKind.Close form) clear so_far here = by_known (list_any (closes calendar day) (closures_of journal)) refl
  where
    by_known : (known : Bool) → list_any (closes calendar day) (closures_of journal) ≡ known → known ≡ false
    by_known false e = refl
    by_known true e =
        let same = and_parts (form.calendar == calendar) (form.day == day) here in
        let listed = (close_names (own_at journal now caller) form clear).1 in
        absurd
        (true≢false
        (sym listed
        ∙ subst (λ c. list_any (is_priced_day c form.day) (table_of journal).calendars ≡ false) (sym (eqb-true form.calendar calendar same.0))
        (subst (λ d. list_any (is_priced_day calendar d) (table_of journal).calendars ≡ false) (sym (eqb-true form.day day same.1)) (so_far.closed e).none)))
closure_new journal now caller calendar day _ clear so_far here = absurd (true≢false (sym here))

-- a closure closes its day
just_closed : (journal : Journal) (now : ℕ) (caller : Caller) (calendar day : ℕ) (kind : EventKind) → none_such (own_at journal now caller) (request_of kind) ≡ None → option_map_or (closes calendar day) (closure_in kind) false ≡ true → IsClosed calendar day (table_by (table_of journal) now kind)
just_closed journal now caller calendar day (EventKind.Close form) clear here =
    let same = and_parts (form.calendar == calendar) (form.day == day) here in
    let there = list_any-find (is_numbered form.calendar) (table_of journal).calendars ∙ (close_names (own_at journal now caller) form clear).0 in
    subst (λ c. IsClosed c day (without_day_of (table_of journal) form.calendar form.day)) (eqb-true form.calendar calendar same.0)
    (subst (λ d. IsClosed form.calendar d (without_day_of (table_of journal) form.calendar form.day)) (eqb-true form.day day same.1)
    (record {
      there = closed-numbers form.calendar form.day form.calendar (table_of journal).calendars ∙ there;
      none = closed-gone form.calendar form.day (table_of journal).calendars;
    }))
just_closed journal now caller calendar day _ clear here = absurd (true≢false (sym here))

closure-more : (calendar day : ℕ) (journal : Journal) (now : ℕ) (caller : Caller) (kind : EventKind) → broken_rule (own_at journal now caller) (request_of kind) ≡ None → ClosedOnce calendar day journal → ClosedOnce calendar day (journal ++ record { moment = now; kind = kind } ∷ [])
closure-more calendar day journal now caller kind clear so_far = record {
  once = once-more closure_in (closes calendar day) journal (record { moment = now; kind = kind }) so_far.once (closure_new journal now caller calendar day kind (not_broken situation (request_of kind) clear Rule.NoSuch) so_far);
  closed = λ found.
      subst (IsClosed calendar day) (sym (table-one journal (record { moment = now; kind = kind })))
      (⊎_elim
      (λ before. stays_closed calendar day journal now caller kind (number_free situation (request_of kind) clear) (so_far.closed before))
      (λ here. just_closed journal now caller calendar day kind (not_broken situation (request_of kind) clear Rule.NoSuch) here)
      (or_cases (list_any (closes calendar day) (closures_of journal)) (option_map_or (closes calendar day) (closure_in kind) false) (sym split ∙ found)));
}
  where
    situation : Situation
    situation = own_at journal now caller

    split : list_any (closes calendar day) (closures_of (journal ++ record { moment = now; kind = kind } ∷ [])) ≡ (list_any (closes calendar day) (closures_of journal) || option_map_or (closes calendar day) (closure_in kind) false)
    split =
        ap (list_any (closes calendar day)) (filter_map-append (λ (event : Event). closure_in event.kind) journal (record { moment = now; kind = kind } ∷ []))
        ∙ (list_any-append (closes calendar day) (closures_of journal) (cons_option (closure_in kind) [])
        ∙ ap (λ b. list_any (closes calendar day) (closures_of journal) || b) (sym (one-any (closes calendar day) (closure_in kind) []) ∙ or-false (option_map_or (closes calendar day) (closure_in kind) false)))

pub no_closure_twice : (journal : Journal) → IsLawful journal → NoClosureTwice journal
no_closure_twice journal lawful calendar day =
    (lawful-keeps (ClosedOnce calendar day)
    (λ known event lawful_known brought so_far. closure-more calendar day known event.moment brought.caller event.kind brought.clear so_far)
    (record {
      once = omega arith;
      closed = λ found. absurd (true≢false (sym found));
    }) journal lawful).once

-- The events of a lawful journal can change the book of its prices.
use Rattle.std.proofs.Common.{AllPairs, Bool, Contains, Err, List, None, Ok, Option, Result, Some, [], ap, arith, cond, false, find, is_some, option_map, refl, subst, suc, sym, true, zero, ℕ, ◌&&◌, ◌<◌, ◌==◌, ◌∙◌, ◌∷◌, ◌≡◌}
use Rattle.std.proofs.lemmas.Bool.{and_parts, eqb-true}
use Rattle.std.specs.List.{list_any}
use Rattle.std.specs.Prelude.{not, option_and_then}
use Rattle.agent_events.specs.Calendars.{calendar_checked}
use Rattle.agent_events.specs.Events.{Event, request_of}
use Rattle.agent_events.specs.declared.event.EventKind.{EventKind}
use Rattle.agent_events.specs.declared.reply.Refusal.{Refusal}
use Rattle.agent_events.specs.declared.request.FixPriceForm.{FixPriceForm}
use Rattle.agent_events.specs.declared.request.Request.{Request}
use Rattle.agent_events.specs.declared.request.SheetForm.{SheetForm}
use Rattle.forward_price.proofs.OrderlyFacts.{found_in}
use Rattle.forward_price.specs.PriceTables.{AreNumbered, calendar_numbered, class_opened, price_on, sheet_numbered, with_correction}
use Rattle.forward_price.specs.Sheets.{lists_class, nav_on}
use Rattle.forward_price.specs.Turns.{expected_of, wrong_class}
use Rattle.forward_price.specs.declared.price_sheet.Opening.{Opening}
use Rattle.forward_price.specs.declared.price_sheet.Sheet.{Sheet}
use Rattle.fund_calendar.specs.PricingDays.{CalendarRefusal, Listing}
use Rattle.reference_tables.proofs.PricedSheets.{is-listed, listed-patch, one-number}
use Rattle.reference_tables.specs.PriceChanges.{CanChange, HasGoodCalendar, IsNextSheet, IsOfOneSheet}
use Rattle.reference_tables.specs.LawfulChanges.{LawfulChangesPrices}
use Rattle.register_laws.proofs.Choosing.{not_when, some_none}
use Rattle.register_laws.proofs.Comparisons.{eq-no, eq-yes}
use Rattle.register_laws.proofs.FixesOnePrice.{fixes_one_price}
use Rattle.register_laws.proofs.NoIdentityTwice.{number_free}
use Rattle.register_laws.proofs.NoPricingTwice.{listing-number}
use Rattle.register_laws.proofs.NothingBefore.{last-brought}
use Rattle.register_laws.proofs.PricesAnew.{prices_anew}
use Rattle.register_laws.proofs.RefusedByFirst.{none-of}
use Rattle.register_laws.proofs.RulesByName.{not_broken}
use Rattle.register_laws.proofs.TablesAreOrderly.{calendar-unknown, classes-seen, few_sheets, numbered, without-fault}
use Rattle.register_laws.proofs.Tests.{find-any}
use Rattle.register_laws.specs.Identities.{is_class}
use Rattle.register_laws.specs.Lawful.{IsBrought, book_behind, own_at}
use Rattle.register_laws.specs.OneEventMore.{corrected_table, with_price_fixed}
use Rattle.register_machine.specs.journal.Choices.{first_some}
use Rattle.register_machine.specs.journal.Journals.{Journal, with_event}
use Rattle.register_machine.specs.journal.Kinds.{class_numbered, classes_of}
use Rattle.register_machine.specs.journal.Lawful.{IsLawful}
use Rattle.register_machine.specs.pricing.PublishedTable.{listing_by, table_of}
use Rattle.register_machine.specs.rules.InOrder.{Rule, broken_rule, first_rules}
use Rattle.register_machine.specs.rules.NamedThings.{lists_at}
use Rattle.register_machine.specs.rules.Situations.{no_right}
use Rattle.register_machine.specs.rules.Terms.{calendar_place}

-- the second of two rules isn't broken, where none is
second-clear : (first second : Option Refusal) → first_some (first ∷ second ∷ []) ≡ None → second ≡ None
second-clear None None e = refl
second-clear None (Some why) e = absurd (some_none e)
second-clear (Some why) second e = absurd (some_none e)

-- ---- a calendar that passed can be listed

good-listing : (number : ℕ) (checked : Result Listing CalendarRefusal) → calendar_place checked ≡ None → checked ≡ Ok (listing_by number checked)
good-listing number (Ok listing) e = refl
good-listing number (Err CalendarRefusal.BadZone) e = absurd (some_none e)
good-listing number (Err CalendarRefusal.BadSpan) e = absurd (some_none e)
good-listing number (Err (CalendarRefusal.NotRising place)) e = absurd (some_none e)

-- ---- a class is new, and its calendar is there

class-free : (journal : Journal) (number : ℕ) → is_some (class_numbered (classes_of journal) number) ≡ false → class_opened (corrected_table journal).classes number ≡ None
class-free journal number unknown =
    none-of (find (λ (class : Opening). class.class == number) (table_of journal).classes)
    (find-any (λ (class : Opening). class.class == number) (table_of journal).classes
    ∙ (classes-seen number journal ∙ (sym (find-any (is_class number) (classes_of journal)) ∙ unknown)))

named-there : (b : Bool) → option_map (λ (field : ℕ × Bool). Refusal.NoSuch field.0) (find (λ (field : ℕ × Bool). not field.1) ((2, b) ∷ [])) ≡ None → b ≡ true
named-there true e = refl
named-there false e = absurd (some_none e)

-- ---- the sheet of a number is the one that lists the class

by-number : (sheets : List Sheet) (number : ℕ) (sheet : Sheet) → AllPairs (λ (s t : Sheet). s.number < t.number) sheets → Contains sheets sheet → sheet.number ≡ number → sheet_numbered sheets number ≡ Some sheet
by-number [] number sheet rise (k, short, is) same = absurd (omega (arith, short))
by-number (s ∷ ss) number sheet rise (zero, short, is) same =
    ap (λ b. cond b (Some s) (sheet_numbered ss number)) (eq-yes s.number number (ap (λ (x : Sheet). x.number) is ∙ same)) ∙ ap Some is
by-number (s ∷ ss) number sheet rise (suc k, short, is) same =
    ap (λ b. cond b (Some s) (sheet_numbered ss number))
    (eq-no s.number number (λ alike. let less = subst (λ (x : Sheet). s.number < x.number) is (rise zero (suc k) sheet (omega arith) short) in omega (arith, less, alike, same)))
    ∙ by-number ss number sheet (λ i j d lt l. rise (suc i) (suc j) d (omega (arith, lt)) (omega (arith, l))) (k, omega (arith, short), is) same

rising : (sheets : List Sheet) → AreNumbered sheets → AllPairs (λ (s t : Sheet). s.number < t.number) sheets
rising sheets numbers i j d less short =
    let first = numbers.each i d (omega (arith, less, short)) in
    let second = numbers.each j d short in
    omega (arith, first, second, less)

nav-listed : (prices : List (ℕ × ℕ)) (class : ℕ) → lists_class prices class ≡ true → is_some (nav_on prices class) ≡ true
nav-listed prices class lists = by (find (λ (price : ℕ × ℕ). price.0 == class) prices) (find-any (λ (price : ℕ × ℕ). price.0 == class) prices ∙ lists)
  where
    by : (found : Option (ℕ × ℕ)) → is_some found ≡ true → is_some (option_map (λ (price : ℕ × ℕ). price.1) found) ≡ true
    by None some = some
    by (Some price) some = refl

listed-there : (sheets : List Sheet) (number : ℕ) (form : FixPriceForm) → AreNumbered sheets → list_any (λ sheet. sheet.number == number && lists_at form.class form.moment sheet) sheets ≡ true → is_some (price_on sheets number form.class) ≡ true
listed-there sheets number form numbers priced =
    let found = found_in (λ (sheet : Sheet). sheet.number == number && lists_at form.class form.moment sheet) sheets priced in
    let both = and_parts (found.0.number == number) (lists_at form.class form.moment found.0) found.2 in
    let lists = and_parts (found.0.moment == form.moment) (lists_class found.0.prices form.class) both.1 in
    ap (λ there. is_some (option_and_then (λ (sheet : Sheet). nav_on sheet.prices form.class) there)) (by-number sheets number found.0 (rising sheets numbers) found.1 (eqb-true found.0.number number both.0))
    ∙ nav-listed found.0.prices form.class lists.1

module _ (journal : Journal) (event : Event) (all : IsLawful (with_event journal event)) where
  last : IsLawful journal × IsBrought journal event
  last = last-brought journal event all

  clear-by : (kind : EventKind) → event.kind ≡ kind → broken_rule (own_at journal event.moment last.1.caller) (request_of kind) ≡ None
  clear-by kind is = subst (λ kind. broken_rule (own_at journal event.moment last.1.caller) (request_of kind) ≡ None) is last.1.clear

  pub good-by : (kind : EventKind) → event.kind ≡ kind → HasGoodCalendar kind
  good-by (EventKind.Calendar form) is =
      good-listing form.calendar (calendar_checked form)
      (second-clear (no_right (own_at journal event.moment last.1.caller) (Request.Calendar form)) (calendar_place (calendar_checked form))
      (subst (λ kind. first_some (first_rules (own_at journal event.moment last.1.caller) (request_of kind)) ≡ None) is last.1.allowed))
  good-by (EventKind.Close form) is = tt
  good-by (EventKind.Class form) is = tt
  good-by (EventKind.Dealer form) is = tt
  good-by (EventKind.Household form) is = tt
  good-by (EventKind.Account form) is = tt
  good-by (EventKind.Order placed) is = tt
  good-by (EventKind.Cancel form) is = tt
  good-by (EventKind.Sheet form) is = tt
  good-by (EventKind.Dividend form) is = tt
  good-by (EventKind.FixPrice form) is = tt
  good-by (EventKind.FixRate form) is = tt
  good-by (EventKind.Enter form) is = tt
  good-by (EventKind.Replace form) is = tt
  good-by (EventKind.Void form) is = tt

  next-sheet : (form : SheetForm) → event.kind ≡ EventKind.Sheet form → IsNextSheet (corrected_table journal) form
  next-sheet form is =
      let situation = own_at journal event.moment last.1.caller in
      let clear = clear-by (EventKind.Sheet form) is in
      let found = without-fault (expected_of (book_behind journal).table) (wrong_class (table_of journal).classes form.calendar form.moment form.prices) form.calendar form.moment event.moment
      (not_broken situation (Request.Sheet form) clear Rule.SheetOutOfTurn) (not_broken situation (Request.Sheet form) clear Rule.SheetIncomplete) (not_broken situation (Request.Sheet form) clear Rule.TooSoon) in
      record { expected = found.0; complete = found.1; count = (few_sheets journal last.0).corrected.in_range }

  one-sheet-of : (form : FixPriceForm) → event.kind ≡ EventKind.FixPrice form → IsOfOneSheet (corrected_table journal) form
  one-sheet-of form is =
      let fixes = fixes_one_price journal event all form is in
      let patch = listed-patch journal form (is-listed journal event all form is) in
      let same : fixes.0 ≡ patch.0 = one-number journal form fixes.0 patch.0 last.0 fixes.1.listed patch.1.priced in
      record {
        number = patch.0;
        found = patch.1.patch;
        listed = listed-there (corrected_table journal).sheets patch.0 form (numbered journal last.0).corrected patch.1.priced;
        fixed = subst (λ n. with_price_fixed form (corrected_table journal) ≡ with_correction (corrected_table journal) form.class n form.nav) same fixes.1.table;
      }

  pub fits-by : (kind : EventKind) → event.kind ≡ kind → CanChange (corrected_table journal) kind
  fits-by (EventKind.Calendar form) is =
      subst (λ n. calendar_numbered (table_of journal).calendars n ≡ None) (sym (listing-number form))
      (calendar-unknown (table_of journal) form.calendar (number_free (own_at journal event.moment last.1.caller) (Request.Calendar form) (clear-by (EventKind.Calendar form) is)))
  fits-by (EventKind.Class form) is = (
    class-free journal form.class (not_when (is_some (class_numbered (classes_of journal) form.class)) form.class (number_free (own_at journal event.moment last.1.caller) (Request.Class form) (clear-by (EventKind.Class form) is))),
    named-there (is_some (calendar_numbered (table_of journal).calendars form.calendar)) (not_broken (own_at journal event.moment last.1.caller) (Request.Class form) (clear-by (EventKind.Class form) is) Rule.NoSuch),
  )
  fits-by (EventKind.Sheet form) is = next-sheet form is
  fits-by (EventKind.FixPrice form) is = one-sheet-of form is
  fits-by (EventKind.Close form) is = tt
  fits-by (EventKind.Dealer form) is = tt
  fits-by (EventKind.Household form) is = tt
  fits-by (EventKind.Account form) is = tt
  fits-by (EventKind.Order placed) is = tt
  fits-by (EventKind.Cancel form) is = tt
  fits-by (EventKind.Dividend form) is = tt
  fits-by (EventKind.FixRate form) is = tt
  fits-by (EventKind.Enter form) is = tt
  fits-by (EventKind.Replace form) is = tt
  fits-by (EventKind.Void form) is = tt

pub changes_prices : (journal : Journal) (event : Event) → LawfulChangesPrices journal event
changes_prices journal event all = record {
  good = good-by journal event all event.kind refl;
  fits = fits-by journal event all event.kind refl;
  leaves = sym (prices_anew journal event all).table;
}

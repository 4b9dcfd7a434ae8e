-- A lawful journal has few accounts and orders, and each class is on few sheets.
use Rattle.std.proofs.Common.{All, Bool, List, None, Option, Some, [], ap, arith, cond, count_by, false, fold, get_or, length, length-append, map, nat_lt, option_to_list, refl, subst, sym, true, ℕ, ◌+◌, ◌<◌, ◌&&◌, ◌==◌, ◌||◌, ◌∙◌, ◌∷◌, ◌≡◌, ◌≤◌}
use Rattle.std.proofs.lemmas.Bool.{and_parts, eqb-true, ltb-true}
use Rattle.std.proofs.lemmas.List.{length-map}
use Rattle.std.proofs.lemmas.List.Elements.{All-contains, All-head, All-map, All-nil, All-push, All-tail, All-weaker, Contains-get_or}
use Rattle.std.proofs.lemmas.List.Sums.{sum_by-cons, sum_by-le}
use Rattle.std.specs.List.{list_any}
use Rattle.std.specs.Prelude.{Contains}
use Rattle.agent_events.specs.Fields.{is_rising, rises_above}
use Rattle.agent_events.specs.declared.event.EventKind.{EventKind}
use Rattle.agent_events.specs.declared.order.OrderRow.{OrderRow}
use Rattle.agent_events.specs.declared.request.AccountForm.{AccountForm}
use Rattle.agent_events.specs.declared.request.ClassForm.{ClassForm}
use Rattle.agent_events.specs.declared.request.FixPriceForm.{FixPriceForm}
use Rattle.agent_events.specs.declared.request.HouseholdForm.{HouseholdForm}
use Rattle.forward_price.proofs.OrderlyFacts.{any_from, found_in, listed_opening, pair_calendar, same_opening}
use Rattle.forward_price.specs.Orderly.{IsOrderly}
use Rattle.forward_price.specs.PriceTables.{Table, sheet_published}
use Rattle.forward_price.specs.Sheets.{lists_class}
use Rattle.forward_price.specs.Turns.{pricing_pairs}
use Rattle.forward_price.specs.declared.price_sheet.Opening.{Opening}
use Rattle.forward_price.specs.declared.price_sheet.Sheet.{Sheet}
use Rattle.fund_calendar.specs.PricingDays.{longest_span}
use Rattle.limit_laws.proofs.Counting.{counted-once, counts-more, few-matched, matched, none-counted, sum-within}
use Rattle.limit_laws.specs.Counts.{HasFewThings, most_accounts, most_listings, prices_listed, sheets_listing}
use Rattle.limit_laws.specs.InForm.{AreInForm, IsInForm, SaysInForm}
use Rattle.register_laws.proofs.Comparisons.{eq-yes}
use Rattle.register_laws.proofs.KeepsLimits.{keeps_its_limits}
use Rattle.register_laws.proofs.NamesStand.{names_stand}
use Rattle.register_laws.proofs.Sums.{sums-exchange}
use Rattle.register_laws.proofs.TablesAreOrderly.{classes-seen, few_sheets, orderly_tables}
use Rattle.register_laws.specs.Identities.{is_class, is_household}
use Rattle.register_laws.specs.Lawful.{book_behind}
use Rattle.register_laws.specs.NamesStand.{has_its_household}
use Rattle.register_laws.specs.Priced.{IsWithFewSheets, KeepsFewSheets, is_sheet_of}
use Rattle.register_machine.proofs.ListItems.{all-of}
use Rattle.register_machine.specs.journal.Journals.{Journal}
use Rattle.register_machine.specs.journal.Kinds.{accounts_of, classes_of, each_in, households_of, price_fix_in, replacement_in}
use Rattle.register_machine.specs.journal.Lawful.{IsLawful}
use Rattle.register_machine.specs.pricing.CorrectedOrders.{order_begun, orders_begun, row_as_corrected, struck_in}
use Rattle.register_machine.specs.pricing.CorrectedPrices.{price_as_corrected, sheet_as_corrected}
use Rattle.register_machine.specs.pricing.PublishedTable.{empty_table, table_after, table_behind, table_by, table_of}

-- ---- accounts and orders

abbrev owned : AccountForm → HouseholdForm → Bool
owned account household = is_household account.household household

few-accounts : (journal : Journal) → IsLawful journal → length (accounts_of journal) ≤ most_accounts
few-accounts journal lawful =
    let limits = keeps_its_limits journal lawful in
    let each = few-matched owned 64 (accounts_of journal) (households_of journal)
    (all-of (has_its_household journal) (accounts_of journal) (names_stand journal lawful).households)
    (λ k d short. let household = get_or (households_of journal) k d in
    omega (
      arith,
      limits.accounts household.household,
      counts-more (λ account. owned account household) (λ account. account.household == household.household) (accounts_of journal)
          (λ i e within same. eq-yes (get_or (accounts_of journal) i e).household household.household (sym (eqb-true household.household (get_or (accounts_of journal) i e).household same))),
    )) in
    omega (arith, each, limits.households)

few-begun : (place : ℕ) (journal : Journal) → length (orders_begun place journal) ≤ length journal
few-begun place [] = omega arith
few-begun place (event ∷ later) =
    omega (arith, one (order_begun place event.kind), few-begun (place + 1) later, length-append (option_to_list (order_begun place event.kind)) (orders_begun (place + 1) later))
  where
    one : (begun : Option OrderRow) → length (option_to_list begun) ≤ 1
    one None = omega arith
    one (Some row) = omega arith

-- ---- sheets

-- a calendar, whether there is one of this number or not
calendar-few : (t : Table) (calendar : ℕ) → IsOrderly t → KeepsFewSheets t → count_by (is_sheet_of calendar) t.sheets ≤ longest_span
calendar-few t calendar orderly few = by (list_any (is_sheet_of calendar) t.sheets) refl
  where
    by : (some : Bool) → list_any (is_sheet_of calendar) t.sheets ≡ some → count_by (is_sheet_of calendar) t.sheets ≤ longest_span
    by false e = omega (arith, none-counted (is_sheet_of calendar) t.sheets e)
    by true e =
        let sheet = found_in (is_sheet_of calendar) t.sheets e in
        let on = All-contains (λ (s : Sheet). Contains (pricing_pairs t.calendars) (s.moment, s.calendar)) t.sheets sheet.0 orderly.on_pricing_days sheet.1 in
        let own = pair_calendar t.calendars (sheet.0.moment, sheet.0.calendar) orderly.calendars_differ on in
        let number : own.0.number ≡ calendar = own.4 ∙ eqb-true sheet.0.calendar calendar sheet.2 in
        let is = All-contains (IsWithFewSheets t.sheets) t.calendars own.0 few.of_each own.2 in
        let each : count_by (is_sheet_of calendar) t.sheets ≤ length own.0.days = subst (λ n. count_by (is_sheet_of n) t.sheets ≤ length own.0.days) number is.each_day in
        omega (arith, each, is.days)

-- the sheets of a class are sheets of its calendar
class-few : (t : Table) (class : ℕ) → IsOrderly t → KeepsFewSheets t → sheets_listing t.sheets class ≤ longest_span
class-few t class orderly few = by (list_any listing t.sheets) refl
  where
    listing : Sheet → Bool
    listing sheet = lists_class sheet.prices class

    by : (some : Bool) → list_any listing t.sheets ≡ some → count_by listing t.sheets ≤ longest_span
    by false e = omega (arith, none-counted listing t.sheets e)
    by true e =
        let sheet = found_in listing t.sheets e in
        let first = listed_opening t sheet.0 class orderly sheet.1 sheet.2 in
        let own = counts-more listing (is_sheet_of sheet.0.calendar) t.sheets
        (λ k d short lists.
        let other = listed_opening t (get_or t.sheets k d) class orderly (Contains-get_or t.sheets k d short) lists in
        let same = same_opening t.classes other.0 first.0 orderly.classes_differ other.1 first.1 (other.2 ∙ sym first.2) in
        eq-yes (get_or t.sheets k d).calendar sheet.0.calendar (sym other.3 ∙ (ap (λ (o : Opening). o.calendar) same ∙ first.3))) in
        omega (arith, own, calendar-few t sheet.0.calendar orderly few)

-- ---- the prices on sheets

abbrev priced : ℕ → ℕ × ℕ → Bool
priced class price = price.0 == class

-- no class from here down is listed
none-below : (class low : ℕ) (prices : List (ℕ × ℕ)) → rises_above low prices ≡ true → class ≤ low → list_any (priced class) prices ≡ false
none-below class low [] rises below = refl
none-below class low (price ∷ prices) rises below =
    let parts = and_parts (nat_lt low price.0) (rises_above price.0 prices) rises in
    let above : low < price.0 = ltb-true low price.0 parts.0 in
    by (price.0 == class) refl above (none-below class price.0 prices parts.1 (omega (arith, above, below)))
  where
    by : (same : Bool) → (price.0 == class) ≡ same → low < price.0 → list_any (priced class) prices ≡ false → (same || list_any (priced class) prices) ≡ false
    by false e above rest = rest
    by true e above rest = absurd (omega (arith, eqb-true price.0 class e, above, below))

rising-once : (class low : ℕ) (prices : List (ℕ × ℕ)) → rises_above low prices ≡ true → count_by (priced class) prices ≤ 1
rising-once class low [] rises = omega arith
rising-once class low (price ∷ prices) rises =
    let parts = and_parts (nat_lt low price.0) (rises_above price.0 prices) rises in
    by (price.0 == class) refl parts.1 (rising-once class price.0 prices parts.1) (sum_by-cons (λ p. cond (priced class p) 1 0) price prices)
  where
    by : (same : Bool) → (price.0 == class) ≡ same → rises_above price.0 prices ≡ true → count_by (priced class) prices ≤ 1 → count_by (priced class) (price ∷ prices) ≡ cond same 1 0 + count_by (priced class) prices → count_by (priced class) (price ∷ prices) ≤ 1
    by false e rest few whole = omega (arith, few, whole)
    by true e rest few whole =
        let own = eqb-true price.0 class e in
        omega (arith, whole, none-counted (priced class) prices (none-below class price.0 prices rest (omega (arith, own))))

-- a list that rises has a price for each of its classes
prices-few : (prices : List (ℕ × ℕ)) (classes : List ClassForm) → is_rising prices ≡ true → ((class : ℕ) → lists_class prices class ≡ true → list_any (is_class class) classes ≡ true) → length prices ≤ count_by (λ class. lists_class prices class.class) classes
prices-few prices classes rises known =
    let there = matched (λ (price : ℕ × ℕ) (class : ClassForm). price.0 == class.class) prices classes
    (λ k d short. let price = get_or prices k d in
    let listed = any_from (priced price.0) prices price (Contains-get_or prices k d short) (eq-yes price.0 price.0 refl) in
    let class = found_in (is_class price.0) classes (known price.0 listed) in
    any_from (λ (class : ClassForm). price.0 == class.class) classes class.0 class.1 (eq-yes price.0 class.0.class (sym (eqb-true class.0.class price.0 class.2)))) in
    let once = sum-within (λ (class : ClassForm). count_by (priced class.class) prices) (λ (class : ClassForm). cond (lists_class prices class.class) 1 0) classes
    (λ k d short. counted-once (priced (get_or classes k d).class) prices (rising-once (get_or classes k d).class 0 prices rises)) in
    omega (arith, there, once)

-- the prices of sheets rise as they were published, and as they are corrected
abbrev IsRising : Sheet → Type 0
IsRising sheet = is_rising sheet.prices ≡ true

table-rising : (table : Table) (moment : ℕ) (kind : EventKind) → SaysInForm kind → All IsRising table.sheets → All IsRising (table_by table moment kind).sheets
table-rising table moment (EventKind.Sheet form) says all =
    All-push IsRising table.sheets (sheet_published table form.calendar form.moment form.prices) all says
table-rising table moment kind says all = all

tables-rising : (table : Table) (events : Journal) → AreInForm events → All IsRising table.sheets → All IsRising (fold table_after table events).sheets
tables-rising table [] says all = all
tables-rising table (event ∷ events) says all =
    tables-rising (table_after table event) events (All-tail IsInForm event events says)
    (table-rising table event.moment event.kind (All-head IsInForm event events says).form all)

rises-corrected : (fixes : List FixPriceForm) (moment low : ℕ) (prices : List (ℕ × ℕ)) → rises_above low (map (price_as_corrected fixes moment) prices) ≡ rises_above low prices
rises-corrected fixes moment low [] = refl
rises-corrected fixes moment low (price ∷ prices) = ap (λ b. nat_lt low price.0 && b) (rises-corrected fixes moment price.0 prices)

sheets-rising : (journal : Journal) → AreInForm journal → All IsRising (book_behind journal).table.sheets
unfolding table_behind
sheets-rising journal says =
    let fixes = each_in price_fix_in journal in
    let sheets = (table_of journal).sheets in
    All-map IsRising (sheet_as_corrected fixes) sheets
    (All-weaker IsRising (λ sheet. IsRising (sheet_as_corrected fixes sheet)) (λ sheet is. rises-corrected fixes sheet.moment 0 sheet.prices ∙ is) sheets
    (tables-rising empty_table journal says (All-nil IsRising)))

-- a class on a sheet is one of the journal's
known-class : (journal : Journal) (sheet : Sheet) (class : ℕ) → IsOrderly (book_behind journal).table → Contains (book_behind journal).table.sheets sheet → lists_class sheet.prices class ≡ true → list_any (is_class class) (classes_of journal) ≡ true
known-class journal sheet class orderly among lists =
    let opened = listed_opening (book_behind journal).table sheet class orderly among lists in
    sym (classes-seen class journal)
    ∙ any_from (λ (opening : Opening). opening.class == class) (table_of journal).classes opened.0 opened.1 (eq-yes opened.0.class class opened.2)

few-listings : (journal : Journal) → IsOrderly (book_behind journal).table → KeepsFewSheets (book_behind journal).table → length (classes_of journal) ≤ 1000 → AreInForm journal → prices_listed (book_behind journal).table.sheets ≤ most_listings
few-listings journal orderly few classes says =
    let sheets = (book_behind journal).table.sheets in
    let rising = sheets-rising journal says in
    let each = sum-within (λ (sheet : Sheet). length sheet.prices) (λ (sheet : Sheet). count_by (λ (class : ClassForm). lists_class sheet.prices class.class) (classes_of journal)) sheets
    (λ k d short. prices-few (get_or sheets k d).prices (classes_of journal) (rising k d short)
    (λ class lists. known-class journal (get_or sheets k d) class orderly (Contains-get_or sheets k d short) lists)) in
    let turned = sums-exchange (λ (sheet : Sheet) (class : ClassForm). cond (lists_class sheet.prices class.class) 1 0) sheets (classes_of journal) in
    let all = sum_by-le (λ (class : ClassForm). sheets_listing sheets class.class) longest_span (classes_of journal)
    (λ k d short. class-few (book_behind journal).table (get_or (classes_of journal) k d).class orderly few) in
    omega (arith, each, turned, all, classes)

pub has_few_things : (journal : Journal) → IsLawful journal → HasFewThings journal
has_few_things journal lawful =
    let limits = keeps_its_limits journal lawful in
    let orderly = (orderly_tables journal lawful).corrected in
    let few = (few_sheets journal lawful).corrected in
    record {
      accounts = few-accounts journal lawful;
      orders = omega (arith, few-begun 0 journal, limits.events, length-map (orders_begun 0 journal) (row_as_corrected (each_in struck_in journal) (each_in replacement_in journal)));
      listings = λ class. class-few (book_behind journal).table class orderly few;
      prices = λ says. few-listings journal orderly few limits.classes says;
    }

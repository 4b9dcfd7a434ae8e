-- What a step reads of the tables of a lawful journal: facts that fit, the book of the journal, and the sheet of its number.
use Rattle.std.proofs.Common.{None, Option, Some, [], ap, arith, false, find, inl, inr, is_some, length, map, option_map, refl, slice_get, subst, sym, true, unwrap_or, ℕ, ◌-◌, ◌∙◌, ◌≡◌, ◌≤◌}
use Rattle.std.proofs.lemmas.Option.{slice_get_cases}
use Rattle.std.specs.List.{list_any}
use Rattle.std.specs.Option.{option_map_or, option_or}
use Rattle.agent_events.specs.Events.{Event}
use Rattle.agent_events.specs.declared.event.EventKind.{EventKind}
use Rattle.agent_events.specs.declared.request.AccountForm.{AccountForm}
use Rattle.agent_events.specs.declared.request.DividendForm.{DividendForm}
use Rattle.agent_events.specs.declared.request.FixRateForm.{FixRateForm}
use Rattle.agent_events.specs.declared.rows.RateRow.{RateRow}
use Rattle.forward_price.proofs.NumberFacts.{numbered_at}
use Rattle.forward_price.specs.PriceTables.{price_before, sheet_numbered}
use Rattle.forward_price.specs.Sheets.{lists_class}
use Rattle.household_fold.proofs.BookFacts.{class_found, household_found, rate_found}
use Rattle.household_fold.specs.Facts.{Known, book_of_facts, class_in_book, no_sheet, rate_numbered, sheet_at_hand, sheets_known, terms_numbered}
use Rattle.reference_tables.proofs.EventTables.{tables_go_on}
use Rattle.reference_tables.proofs.SheetsOfJournals.{corrected-known}
use Rattle.reference_tables.specs.Tables.{IsInRange, Tables, row_of_account, tables_after}
use Rattle.reference_tables.specs.TablesOfJournals.{AreTablesOf, IsSheetOf, ServeFor}
use Rattle.register_laws.proofs.Isolation.{some-map}
use Rattle.register_laws.proofs.KeepsLimits.{keeps_its_limits}
use Rattle.register_laws.proofs.OrderlyBooks.{sheets_are_numbered}
use Rattle.register_laws.proofs.PricesAnew.{prices_anew}
use Rattle.register_laws.proofs.Tests.{find-any}
use Rattle.register_laws.specs.AlikeBooks.{BooksAlike}
use Rattle.register_laws.specs.Identities.{is_class}
use Rattle.register_laws.specs.Lawful.{book_behind}
use Rattle.register_laws.specs.LawfulLimits.{KeepsItsLimits}
use Rattle.register_laws.specs.OneEventMore.{corrected_table, corrected_table_by}
use Rattle.register_machine.proofs.ListItems.{has-at}
use Rattle.register_machine.specs.journal.Journals.{Journal, with_event}
use Rattle.register_machine.specs.journal.Kinds.{account_numbered, accounts_of, class_numbered, classes_of}
use Rattle.register_machine.specs.journal.Lawful.{IsLawful}
use Rattle.register_machine.specs.pricing.DividendRates.{declares, fixes_rate, rates_of}
use Rattle.register_machine.specs.journal.Choices.{last_of}

abbrev tables_in : Known → Tables
tables_in known = record { terms = known.terms; accounts = known.accounts; rates = known.rates }

-- ---- the book

households-same : (found : Option AccountForm) → option_map (λ row. row.household) (option_map row_of_account found) ≡ option_map (λ form. form.household) found
households-same None = refl
households-same (Some form) = refl

row-rate : (found : Option RateRow) → option_map_or (λ row. row.rate) found 0 ≡ unwrap_or (option_map (λ row. row.rate) found) 0
row-rate None = refl
row-rate (Some row) = refl

given-rate : (fix : Option FixRateForm) (own : Option DividendForm) → unwrap_or (option_or (option_map (λ form. form.rate) fix) (option_map (λ form. form.rate) own)) 0 ≡ option_map_or (λ form. form.rate) fix (option_map_or (λ form. form.rate) own 0)
given-rate None None = refl
given-rate None (Some form) = refl
given-rate (Some form) own = refl

alike : (known : Known) (journal : Journal) → AreTablesOf journal (tables_in known) → sheets_known known ≡ (corrected_table journal).sheets → BooksAlike (book_of_facts known) (book_behind journal)
alike known journal are sheets = record {
  price = λ class moment. ap (λ all. price_before all class moment) sheets;
  front = λ class. ap (λ o. option_map_or (λ terms. terms.front) o []) (classes class);
  schedule = λ class. ap (λ o. option_map_or (λ terms. terms.deferred) o []) (classes class);
  counted = λ class. ap (λ o. option_map_or (λ terms. terms.counts) o false) (classes class);
  household = λ account.
      sym (household_found known.accounts account)
      ∙ (ap (option_map (λ row. row.household)) (are.accounts account) ∙ households-same (account_numbered (accounts_of journal) account));
  rate = λ class moment.
      sym (rate_found known.rates class moment)
      ∙ (row-rate (rate_numbered known.rates class moment)
      ∙ (ap (λ o. unwrap_or o 0) (are.rates class moment)
      ∙ given-rate (last_of (fixes_rate class moment) (rates_of journal).fixed) (find (declares class moment) (rates_of journal).declared)));
}
  where
    classes : (class : ℕ) → class_numbered (map class_in_book known.terms) class ≡ class_numbered (classes_of journal) class
    classes class = class_found known.terms class ∙ are.terms class

-- ---- the sheet at hand

at-hand : (known : Known) (journal : Journal) → sheets_known known ≡ (corrected_table journal).sheets → IsSheetOf journal known.sheet → slice_get (corrected_table journal).sheets (known.sheet - 1) ≡ Some (sheet_at_hand known)
at-hand known journal sheets is = elim (slice_get_cases (corrected_table journal).sheets (known.sheet - 1)).1 [
  | inl there ↦ there.2 ∙ ap Some (sym (ap (λ o. unwrap_or o no_sheet) there.2) ∙ same)
  | inr past ↦ absurd (let le = past.0 in let least = is.least in let most = is.most in omega (arith, le, least, most))
]
  where
    same : unwrap_or (slice_get (corrected_table journal).sheets (known.sheet - 1)) no_sheet ≡ sheet_at_hand known
    same =
        ap (λ o. unwrap_or o no_sheet) (numbered_at (corrected_table journal).sheets known.sheet (sheets_are_numbered journal) is.least)
        ∙ sym (ap (λ all. unwrap_or (sheet_numbered all known.sheet) no_sheet) sheets)

pub numbered-there : (journal : Journal) (sheet : ℕ) → IsSheetOf journal sheet → is_some (sheet_numbered (corrected_table journal).sheets sheet) ≡ true
numbered-there journal sheet is = elim (slice_get_cases (corrected_table journal).sheets (sheet - 1)).1 [
  | inl there ↦ ap is_some (sym (numbered_at (corrected_table journal).sheets sheet (sheets_are_numbered journal) is.least) ∙ there.2)
  | inr past ↦ absurd (let le = past.0 in let least = is.least in let most = is.most in omega (arith, le, least, most))
]

-- ---- the facts

pub serve : (known : Known) (journal : Journal) → IsLawful journal → AreTablesOf journal (tables_in known) → sheets_known known ≡ (corrected_table journal).sheets → is_some (sheet_numbered known.table.sheets known.sheet) ≡ true → IsSheetOf journal known.sheet → ServeFor known journal
serve known journal lawful are sheets there is = record {
  fit = record {
    sheet = there;
    terms_there = λ class listed.
        sym (some-map class_in_book (terms_numbered known.terms class))
        ∙ (ap is_some (are.terms class)
        ∙ (find-any (is_class class) (classes_of journal)
        ∙ has-at (λ sheet. lists_class sheet.prices class ≡ true → list_any (is_class class) (classes_of journal) ≡ true) (corrected_table journal).sheets (known.sheet - 1) (sheet_at_hand known) (corrected-known journal class lawful) at listed));
    terms_rise = are.stand.terms;
    accounts_rise = are.stand.accounts;
    rates_rise = are.stand.rates;
    rates_within = are.stand.within;
    few_terms = (let few = are.few_terms in let most = limits.classes in omega (arith, few, most));
    few_accounts = λ household. (let few = are.few_accounts household in let most = limits.accounts household in omega (arith, few, most));
  };
  alike = alike known journal are sheets;
  sheet = sym at;
}
  where
    at : slice_get (corrected_table journal).sheets (known.sheet - 1) ≡ Some (sheet_at_hand known)
    at = at-hand known journal sheets is

    limits : KeepsItsLimits journal
    limits = keeps_its_limits journal lawful

-- ---- under a correction on trial

-- the corrected table behind an event of this kind
pub table-behind : (journal : Journal) (event : Event) (kind : EventKind) → IsLawful (with_event journal event) → event.kind ≡ kind → corrected_table (with_event journal event) ≡ corrected_table_by (corrected_table journal) event.moment kind
table-behind journal event kind lawful is =
    (prices_anew journal event lawful).table ∙ ap (corrected_table_by (corrected_table journal) event.moment) is

-- as many sheets are as many
pub sheet-still : (journal other : Journal) (sheet : ℕ) → length (corrected_table other).sheets ≡ length (corrected_table journal).sheets → IsSheetOf journal sheet → IsSheetOf other sheet
sheet-still journal other sheet same is = record {
  least = is.least;
  most = subst (λ n. sheet ≤ n) (sym same) is.most;
}

pub tables-behind : (journal : Journal) (tables : Tables) (event : Event) (kind : EventKind) → event.kind ≡ kind → IsInRange kind → AreTablesOf journal tables → AreTablesOf (with_event journal event) (tables_after tables kind)
tables-behind journal tables event kind is range are =
    subst (λ k. AreTablesOf (with_event journal event) (tables_after tables k)) is
    (tables_go_on journal tables event are (subst IsInRange (sym is) range))

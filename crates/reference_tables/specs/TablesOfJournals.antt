-- Which tables are those of a journal, and what a step reads of a lawful one.
use Rattle.std.specs.List.{list_any}
use Rattle.std.specs.Option.{option_or}
use Rattle.std.specs.Prelude.{List, None, Option, Some, ℕ, ◌&&◌, ◌-◌, ◌==◌, ◌≡◌, ◌≤◌, count_by, find, length, option_map, slice_get, true}
use Rattle.agent_events.specs.Events.{Event}
use Rattle.agent_events.specs.declared.event.EventKind.{EventKind}
use Rattle.agent_events.specs.declared.request.FixPriceForm.{FixPriceForm}
use Rattle.agent_events.specs.declared.request.FixRateForm.{FixRateForm}
use Rattle.agent_events.specs.declared.request.SheetForm.{SheetForm}
use Rattle.agent_events.specs.declared.rows.RateRow.{RateRow}
use Rattle.forward_price.specs.declared.price_sheet.Patch.{Patch}
use Rattle.forward_price.specs.declared.price_sheet.Sheet.{Sheet}
use Rattle.household_fold.specs.Facts.{FactsFit, Known, book_of_facts, class_in_book, rate_numbered, row_numbered, sheet_at_hand, terms_numbered}
use Rattle.reference_tables.specs.Tables.{IsInRange, StandByNumber, Tables, brings_good_loads, row_of_account, row_of_fix, tables_after, with_fixed_rate}
use Rattle.register_laws.specs.AlikeBooks.{BooksAlike}
use Rattle.register_laws.specs.Lawful.{book_behind}
use Rattle.register_laws.specs.OneEventMore.{corrected_table}
use Rattle.register_machine.specs.journal.Choices.{last_of}
use Rattle.register_machine.specs.journal.Journals.{Journal, with_event}
use Rattle.register_machine.specs.journal.Kinds.{account_numbered, accounts_of, class_numbered, classes_of}
use Rattle.register_machine.specs.journal.Lawful.{IsLawful}
use Rattle.register_machine.specs.rules.NamedThings.{lists_at}
use Rattle.register_machine.specs.pricing.DividendRates.{Rates, declares, fixes_rate, rates_of}

-- the rate of the last correction of a class at a moment, else that of its dividend, and none without either
abbrev pub rate_given : Rates → ℕ → ℕ → Option ℕ
rate_given rates class moment =
    option_or (option_map (λ form. form.rate) (last_of (fixes_rate class moment) rates.fixed))
    (option_map (λ form. form.rate) (find (declares class moment) rates.declared))

-- The tables are those of the journal: each class, account and rate is found by its number as the journal has it, and there
-- are no more.
pub record AreTablesOf (journal : Journal) (tables : Tables) : Type 0 where
  pub stand : StandByNumber tables
  pub terms : (class : ℕ)
      → option_map class_in_book (terms_numbered tables.terms class) ≡ class_numbered (classes_of journal) class
  pub accounts : (account : ℕ)
      → row_numbered tables.accounts account ≡ option_map row_of_account (account_numbered (accounts_of journal) account)
  pub rates : (class moment : ℕ)
      → option_map (λ row. row.rate) (rate_numbered tables.rates class moment) ≡ rate_given (rates_of journal) class moment
  pub few_terms : length tables.terms ≤ length (classes_of journal)
  pub few_accounts : (household : ℕ)
      → count_by (λ row. row.household == household) tables.accounts
      ≤ count_by (λ form. form.household == household) (accounts_of journal)

-- ---- from event to event

abbrev pub TablesGoOn : Journal → Tables → Event → Type 0
TablesGoOn journal tables event =
    AreTablesOf journal tables → IsInRange event.kind
    → AreTablesOf (with_event journal event) (tables_after tables event.kind)

abbrev pub LawfulBringsGoodLoads : Journal → Event → Type 0
LawfulBringsGoodLoads journal event = IsLawful (with_event journal event) → brings_good_loads event.kind ≡ true

-- ---- what a step reads

abbrev pub known_of : Journal → Tables → ℕ → Known
known_of journal tables sheet = record {
  table = corrected_table journal;
  terms = tables.terms;
  accounts = tables.accounts;
  rates = tables.rates;
  patch = None;
  sheet = sheet;
}

-- The facts fit, their book does what that of a journal does, and the sheet at hand is that of its number.
pub record ServeFor (known : Known) (journal : Journal) : Type 0 where
  pub fit : FactsFit known
  pub alike : BooksAlike (book_of_facts known) (book_behind journal)
  pub sheet : Some (sheet_at_hand known) ≡ slice_get (corrected_table journal).sheets (known.sheet - 1)

-- one of the published sheets
pub record IsSheetOf (journal : Journal) (sheet : ℕ) : Type 0 where
  pub least : 1 ≤ sheet
  pub most : sheet ≤ length (corrected_table journal).sheets

abbrev pub LawfulServes : Journal → Tables → ℕ → Type 0
LawfulServes journal tables sheet =
    IsLawful journal → AreTablesOf journal tables → IsSheetOf journal sheet
    → ServeFor (known_of journal tables sheet) journal

-- ---- under a correction on trial

-- a corrected price of a class on the sheet of a number
abbrev pub patch_by : FixPriceForm → ℕ → Patch
patch_by form number = record { class = form.class; sheet = number; nav = form.nav }

abbrev pub known_with_patch : Known → Patch → Known
known_with_patch known patch = record {
  table = known.table;
  terms = known.terms;
  accounts = known.accounts;
  rates = known.rates;
  patch = Some patch;
  sheet = known.sheet;
}

-- the number is that of a sheet which lists the class at the moment of the correction
abbrev pub IsPricedOn : Journal → FixPriceForm → ℕ → Type 0
IsPricedOn journal form number =
    list_any (λ sheet. sheet.number == number && lists_at form.class form.moment sheet) (corrected_table journal).sheets
    ≡ true

abbrev pub LawfulServesFixedPrice : Journal → Tables → Event → FixPriceForm → ℕ → ℕ → Type 0
LawfulServesFixedPrice journal tables event form number sheet =
    IsLawful (with_event journal event) → event.kind ≡ EventKind.FixPrice form
    → AreTablesOf journal tables → IsSheetOf journal sheet → IsPricedOn journal form number
    → ServeFor (known_with_patch (known_of journal tables sheet) (patch_by form number)) (with_event journal event)

-- the patch of a corrected price: that of the sheet that lists the class at its moment
abbrev pub patch_on : List Sheet → FixPriceForm → Option Patch
patch_on sheets form =
    option_map (λ sheet. patch_by form sheet.number) (find (lists_at form.class form.moment) sheets)

-- there is one, of the number of such a sheet
pub record HasPatch (journal : Journal) (form : FixPriceForm) (number : ℕ) : Type 0 where
  pub patch : patch_on (corrected_table journal).sheets form ≡ Some (patch_by form number)
  pub priced : IsPricedOn journal form number

abbrev pub LawfulHasPatch : Journal → Event → FixPriceForm → Type 0
LawfulHasPatch journal event form =
    IsLawful (with_event journal event) → event.kind ≡ EventKind.FixPrice form
    → (number : ℕ) × HasPatch journal form number

abbrev pub known_with_rates : Known → List RateRow → Known
known_with_rates known rates = record {
  table = known.table;
  terms = known.terms;
  accounts = known.accounts;
  rates = rates;
  patch = known.patch;
  sheet = known.sheet;
}

abbrev pub LawfulServesFixedRate : Journal → Tables → Event → FixRateForm → ℕ → Type 0
LawfulServesFixedRate journal tables event form sheet =
    IsLawful (with_event journal event) → event.kind ≡ EventKind.FixRate form → form.rate ≤ 1000000000
    → AreTablesOf journal tables → IsSheetOf journal sheet
    → ServeFor (known_with_rates (known_of journal tables sheet) (with_fixed_rate tables.rates (row_of_fix form)))
    (with_event journal event)

-- ---- a sheet published on trial: the table of the journal with it, and the other tables as they are

abbrev pub LawfulServesNewSheet : Journal → Tables → Event → SheetForm → ℕ → Type 0
LawfulServesNewSheet journal tables event form sheet =
    IsLawful (with_event journal event) → event.kind ≡ EventKind.Sheet form
    → AreTablesOf journal tables → IsSheetOf (with_event journal event) sheet
    → ServeFor (known_of (with_event journal event) tables sheet) (with_event journal event)

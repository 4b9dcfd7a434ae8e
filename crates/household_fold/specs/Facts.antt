-- The facts that a step reads, the corrected book that they give, and the sheet at hand. What the register machine computes
-- from a journal stands here in tables by number.
use Rattle.agent_events.specs.declared.request.AccountForm.{AccountForm}
use Rattle.agent_events.specs.declared.request.ClassForm.{ClassForm}
use Rattle.agent_events.specs.declared.request.DividendForm.{DividendForm}
use Rattle.agent_events.specs.declared.rows.AccountRow.{AccountRow}
use Rattle.agent_events.specs.declared.rows.RateRow.{RateRow}
use Rattle.class_terms.specs.declared.form.TermsForm.{TermsForm}
use Rattle.forward_price.specs.PriceTables.{Table, corrected_sheet, sheets_on_trial, sheet_numbered, with_sheets}
use Rattle.forward_price.specs.Sheets.{lists_class}
use Rattle.forward_price.specs.declared.price_sheet.Patch.{Patch}
use Rattle.forward_price.specs.declared.price_sheet.Sheet.{Sheet}
use Rattle.register_machine.specs.pricing.CorrectedBook.{Book}
use Rattle.register_machine.specs.pricing.DividendRates.{Rates}
use Rattle.std.specs.Prelude.{All, AllPairs, Bool, List, None, Option, Some, [], ℕ, ◌&&◌, ◌<◌, ◌==◌, ◌||◌, ◌≡◌, ◌≤◌, count_by, find, is_some, length, map, nat_lt, true, unwrap_or}

-- the facts: the published prices, the terms of the classes, the accounts with their households, the dividend rates, a
-- correction of one price on trial, and the number of the sheet at hand
pub record Known : Type 0 where
  pub table : Table
  pub terms : List TermsForm
  pub accounts : List AccountRow
  pub rates : List RateRow
  pub patch : Option Patch
  pub sheet : ℕ

-- the rows of the tables as the corrected book has them
abbrev pub class_in_book : TermsForm → ClassForm
class_in_book terms = record {
  class = terms.class;
  calendar = terms.calendar;
  fund = terms.fund;
  name = terms.name;
  family = terms.family;
  counts = terms.counts;
  first_min = terms.first_min;
  later_min = terms.later_min;
  front = terms.front;
  deferred = terms.deferred;
}

abbrev pub account_in_book : AccountRow → AccountForm
account_in_book row = record { account = row.account; household = row.household; dealer = row.dealer; name = [] }

abbrev pub rate_in_book : RateRow → DividendForm
rate_in_book row = record { class = row.class; moment = row.moment; rate = row.rate }

abbrev pub rates_in_book : List RateRow → Rates
rates_in_book rows = record { declared = map rate_in_book rows; fixed = [] }

-- the sheets with the correction on trial
abbrev pub sheets_known : Known → List Sheet
sheets_known known = sheets_on_trial known.patch known.table.sheets

-- the corrected book that the facts give; a step reads none of its orders
abbrev pub book_of_facts : Known → Book
book_of_facts known = record {
  table = with_sheets known.table (sheets_known known);
  classes = map class_in_book known.terms;
  accounts = map account_in_book known.accounts;
  orders = [];
  rates = rates_in_book known.rates;
}

-- the sheet at hand, with the correction on trial
abbrev pub no_sheet : Sheet
no_sheet = record { number = 0; calendar = 0; moment = 0; day = 0; prices = [] }

abbrev pub sheet_at_hand : Known → Sheet
sheet_at_hand known = unwrap_or (sheet_numbered (sheets_known known) known.sheet) no_sheet

-- a sheet with the correction on trial
abbrev pub on_trial : Option Patch → Sheet → Sheet
on_trial None sheet = sheet
on_trial (Some patch) sheet = corrected_sheet patch.class patch.sheet patch.nav sheet

-- what is found in the tables
abbrev pub terms_numbered : List TermsForm → ℕ → Option TermsForm
terms_numbered terms class = find (λ row. row.class == class) terms

abbrev pub row_numbered : List AccountRow → ℕ → Option AccountRow
row_numbered accounts account = find (λ row. row.account == account) accounts

abbrev pub rate_numbered : List RateRow → ℕ → ℕ → Option RateRow
rate_numbered rates class moment = find (λ row. row.class == class && row.moment == moment) rates

-- the order of the rates by class and then moment
abbrev pub rate_stands_before : ℕ → ℕ → RateRow → Bool
rate_stands_before class moment row = nat_lt row.class class || (row.class == class && nat_lt row.moment moment)

-- the sheet at hand lists the class
abbrev pub IsListed : Known → ℕ → Type 0
IsListed known class = lists_class (sheet_at_hand known).prices class ≡ true

-- The facts fit: the sheet at hand is one of the table, each class on it has its terms, and the tables stand by number, with
-- rates up to 1,000 dollars per share, at most 1,000 classes and 64 accounts of a household.
pub record FactsFit (known : Known) : Type 0 where
  pub sheet : is_some (sheet_numbered known.table.sheets known.sheet) ≡ true
  pub terms_there : (class : ℕ) → IsListed known class → is_some (terms_numbered known.terms class) ≡ true
  pub terms_rise : AllPairs (λ a b. a.class < b.class) known.terms
  pub accounts_rise : AllPairs (λ a b. a.account < b.account) known.accounts
  pub rates_rise : AllPairs (λ a b. rate_stands_before b.class b.moment a ≡ true) known.rates
  pub rates_within : All (λ row. row.rate ≤ 1000000000) known.rates
  pub few_terms : length known.terms ≤ 1000
  pub few_accounts : (household : ℕ) → count_by (λ row. row.household == household) known.accounts ≤ 64

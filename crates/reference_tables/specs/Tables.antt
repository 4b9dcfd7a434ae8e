-- The tables by number that a household's step reads, and what an event makes of them.
use Rattle.std.specs.Prelude.{All, AllPairs, Bool, List, [], true, ℕ, ◌&&◌, ◌<◌, ◌==◌, ◌≡◌, ◌≤◌, nat_lt}
use Rattle.agent_events.specs.declared.event.EventKind.{EventKind}
use Rattle.agent_events.specs.declared.request.AccountForm.{AccountForm}
use Rattle.agent_events.specs.declared.request.DividendForm.{DividendForm}
use Rattle.agent_events.specs.declared.request.FixRateForm.{FixRateForm}
use Rattle.agent_events.specs.declared.rows.AccountRow.{AccountRow}
use Rattle.agent_events.specs.declared.rows.RateRow.{RateRow}
use Rattle.class_terms.specs.declared.form.TermsForm.{TermsForm}
use Rattle.household_fold.specs.Facts.{rate_stands_before}
use Rattle.reference_tables.specs.Places.{put_new, put_row}
use Rattle.register_laws.specs.LawfulLimits.{has_good_loads}
use Rattle.register_machine.specs.rules.Terms.{terms_of}

-- the terms of the classes, the accounts with their households, and the dividend rates
pub record Tables : Type 0 where
  pub terms : List TermsForm
  pub accounts : List AccountRow
  pub rates : List RateRow

abbrev pub no_tables : Tables
no_tables = record { terms = []; accounts = []; rates = [] }

-- ---- the rows of events

abbrev pub row_of_account : AccountForm → AccountRow
row_of_account form = record { account = form.account; household = form.household; dealer = form.dealer }

abbrev pub row_of_dividend : DividendForm → RateRow
row_of_dividend form = record { class = form.class; moment = form.moment; rate = form.rate }

abbrev pub row_of_fix : FixRateForm → RateRow
row_of_fix form = record { class = form.class; moment = form.moment; rate = form.rate }

-- ---- a table with one row more

abbrev pub has_class_number : ℕ → TermsForm → Bool
has_class_number class row = row.class == class

abbrev pub has_account_number : ℕ → AccountRow → Bool
has_account_number account row = row.account == account

abbrev pub is_rate_of : ℕ → ℕ → RateRow → Bool
is_rate_of class moment row = row.class == class && row.moment == moment

-- a class and an account stand as they came first
abbrev pub with_terms : List TermsForm → TermsForm → List TermsForm
with_terms terms row = put_new (λ other. nat_lt other.class row.class) (has_class_number row.class) row terms

abbrev pub with_account : List AccountRow → AccountRow → List AccountRow
with_account accounts row =
    put_new (λ other. nat_lt other.account row.account) (has_account_number row.account) row accounts

-- a dividend leaves the rate that stands, and a correction takes its place
abbrev pub with_dividend : List RateRow → RateRow → List RateRow
with_dividend rates row = put_new (rate_stands_before row.class row.moment) (is_rate_of row.class row.moment) row rates

abbrev pub with_fixed_rate : List RateRow → RateRow → List RateRow
with_fixed_rate rates row = put_row (rate_stands_before row.class row.moment) (is_rate_of row.class row.moment) row rates

-- ---- the tables after an event

abbrev pub terms_after : List TermsForm → EventKind → List TermsForm
terms_after terms (EventKind.Class form) = with_terms terms (terms_of form)
terms_after terms _ = terms

abbrev pub accounts_after : List AccountRow → EventKind → List AccountRow
accounts_after accounts (EventKind.Account form) = with_account accounts (row_of_account form)
accounts_after accounts _ = accounts

abbrev pub rates_after : List RateRow → EventKind → List RateRow
rates_after rates (EventKind.Dividend form) = with_dividend rates (row_of_dividend form)
rates_after rates (EventKind.FixRate form) = with_fixed_rate rates (row_of_fix form)
rates_after rates _ = rates

-- a class, an account, a dividend and a corrected rate come into their places; all else changes nothing
abbrev pub tables_after : Tables → EventKind → Tables
tables_after tables kind = record {
  terms = terms_after tables.terms kind;
  accounts = accounts_after tables.accounts kind;
  rates = rates_after tables.rates kind;
}

-- ---- what is true of them

-- each table rises by its number, and no rate passes 1,000 dollars per share
pub record StandByNumber (tables : Tables) : Type 0 where
  pub terms : AllPairs (λ a b. a.class < b.class) tables.terms
  pub accounts : AllPairs (λ a b. a.account < b.account) tables.accounts
  pub rates : AllPairs (λ a b. rate_stands_before b.class b.moment a ≡ true) tables.rates
  pub within : All (λ row. row.rate ≤ 1000000000) tables.rates

-- the loads of a class are good, as those of a lawful journal are
abbrev pub brings_good_loads : EventKind → Bool
brings_good_loads (EventKind.Class form) = has_good_loads form
brings_good_loads _ = true

-- a rate is in its range
abbrev pub IsInRange : EventKind → Type 0
IsInRange (EventKind.Dividend form) = form.rate ≤ 1000000000
IsInRange (EventKind.FixRate form) = form.rate ≤ 1000000000
IsInRange _ = Unit {0}

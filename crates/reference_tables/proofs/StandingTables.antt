-- The tables stand by number with one row more.
use Rattle.std.proofs.Common.{All, AllPairs, List, arith, false, nat_lt, true, ℕ, ◌<◌, ◌==◌, ◌≡◌, ◌≤◌}
use Rattle.std.proofs.lemmas.Bool.Decides.{nat_tests}
use Rattle.agent_events.specs.declared.event.EventKind.{EventKind}
use Rattle.agent_events.specs.declared.rows.AccountRow.{AccountRow}
use Rattle.agent_events.specs.declared.rows.RateRow.{RateRow}
use Rattle.class_terms.specs.declared.form.TermsForm.{TermsForm}
use Rattle.household_fold.specs.Facts.{rate_stands_before}
use Rattle.reference_tables.proofs.PutRows.{Ranks, new-all, put-all, put-pairs}
use Rattle.reference_tables.specs.Tables.{IsInRange, StandByNumber, Tables, has_account_number, has_class_number, is_rate_of, row_of_account, row_of_dividend, row_of_fix, tables_after, with_account, with_dividend, with_fixed_rate, with_terms}
use Rattle.register_machine.proofs.KeyOrder.{keys-either, keys-in-stead, keys-next}
use Rattle.register_machine.specs.rules.Terms.{terms_of}

-- ---- by one number

less : (a b : ℕ) → nat_lt a b ≡ true → a < b
less a b = grind (arith, nat_tests)

more : (a b : ℕ) → nat_lt a b ≡ false → (a == b) ≡ false → b < a
more a b = grind (arith, nat_tests)

stead : (a b c : ℕ) → (a == b) ≡ true → a < c → b < c
stead a b c = grind (arith, nat_tests)

through : (a b c : ℕ) → a < b → b < c → a < c
through a b c first second = omega (arith, first, second)

numbered : {R : Type 0} (n : R → ℕ) (row : R) → Ranks (λ x. nat_lt (n x) (n row)) (λ x. n x == n row) row (λ a b. n a < n b)
numbered n row = record {
  ahead = λ x. less (n x) (n row);
  behind = λ x. more (n x) (n row);
  stead = λ x y. stead (n x) (n row) (n y);
  through = λ x y. through (n row) (n x) (n y);
}

pub terms-rise : (terms : List TermsForm) (row : TermsForm) → AllPairs (λ a b. a.class < b.class) terms → AllPairs (λ a b. a.class < b.class) (with_terms terms row)
terms-rise terms row rise =
    new-all (AllPairs (λ a b. a.class < b.class)) (λ x. nat_lt x.class row.class) (has_class_number row.class) row terms rise
    (put-pairs (λ x. nat_lt x.class row.class) (has_class_number row.class) row (λ a b. a.class < b.class) (numbered (λ x. x.class) row) terms rise)

pub accounts-rise : (accounts : List AccountRow) (row : AccountRow) → AllPairs (λ a b. a.account < b.account) accounts → AllPairs (λ a b. a.account < b.account) (with_account accounts row)
accounts-rise accounts row rise =
    new-all (AllPairs (λ a b. a.account < b.account)) (λ x. nat_lt x.account row.account) (has_account_number row.account) row accounts rise
    (put-pairs (λ x. nat_lt x.account row.account) (has_account_number row.account) row (λ a b. a.account < b.account) (numbered (λ x. x.account) row) accounts rise)

-- ---- by class and moment

by-class : (row : RateRow) → Ranks (rate_stands_before row.class row.moment) (is_rate_of row.class row.moment) row (λ a b. rate_stands_before b.class b.moment a ≡ true)
by-class row = record {
  ahead = λ x e. e;
  behind = λ x. keys-either x.class x.moment row.class row.moment;
  stead = λ x y. keys-in-stead x.class x.moment row.class row.moment y.class y.moment;
  through = λ x y. keys-next row.class row.moment x.class x.moment y.class y.moment;
}

pub fixed-rise : (rates : List RateRow) (row : RateRow) → AllPairs (λ a b. rate_stands_before b.class b.moment a ≡ true) rates → AllPairs (λ a b. rate_stands_before b.class b.moment a ≡ true) (with_fixed_rate rates row)
fixed-rise rates row rise =
    put-pairs (rate_stands_before row.class row.moment) (is_rate_of row.class row.moment) row (λ a b. rate_stands_before b.class b.moment a ≡ true) (by-class row) rates rise

pub dividends-rise : (rates : List RateRow) (row : RateRow) → AllPairs (λ a b. rate_stands_before b.class b.moment a ≡ true) rates → AllPairs (λ a b. rate_stands_before b.class b.moment a ≡ true) (with_dividend rates row)
dividends-rise rates row rise =
    new-all (AllPairs (λ a b. rate_stands_before b.class b.moment a ≡ true)) (rate_stands_before row.class row.moment) (is_rate_of row.class row.moment) row rates rise
    (fixed-rise rates row rise)

pub fixed-within : (rates : List RateRow) (row : RateRow) → row.rate ≤ 1000000000 → All (λ x. x.rate ≤ 1000000000) rates → All (λ x. x.rate ≤ 1000000000) (with_fixed_rate rates row)
fixed-within rates row own all =
    put-all (λ x. x.rate ≤ 1000000000) (rate_stands_before row.class row.moment) (is_rate_of row.class row.moment) row rates own all

pub dividends-within : (rates : List RateRow) (row : RateRow) → row.rate ≤ 1000000000 → All (λ x. x.rate ≤ 1000000000) rates → All (λ x. x.rate ≤ 1000000000) (with_dividend rates row)
dividends-within rates row own all =
    new-all (All (λ x. x.rate ≤ 1000000000)) (rate_stands_before row.class row.moment) (is_rate_of row.class row.moment) row rates all
    (fixed-within rates row own all)

-- ---- all three

pub terms-stand : (tables : Tables) (row : TermsForm) → StandByNumber tables → StandByNumber (record { terms = with_terms tables.terms row; accounts = tables.accounts; rates = tables.rates })
terms-stand tables row stand =
    record { terms = terms-rise tables.terms row stand.terms; accounts = stand.accounts; rates = stand.rates; within = stand.within }

pub accounts-stand : (tables : Tables) (row : AccountRow) → StandByNumber tables → StandByNumber (record { terms = tables.terms; accounts = with_account tables.accounts row; rates = tables.rates })
accounts-stand tables row stand =
    record { terms = stand.terms; accounts = accounts-rise tables.accounts row stand.accounts; rates = stand.rates; within = stand.within }

pub dividends-stand : (tables : Tables) (row : RateRow) → row.rate ≤ 1000000000 → StandByNumber tables → StandByNumber (record { terms = tables.terms; accounts = tables.accounts; rates = with_dividend tables.rates row })
dividends-stand tables row most stand = record {
  terms = stand.terms;
  accounts = stand.accounts;
  rates = dividends-rise tables.rates row stand.rates;
  within = dividends-within tables.rates row most stand.within;
}

pub fixed-stand : (tables : Tables) (row : RateRow) → row.rate ≤ 1000000000 → StandByNumber tables → StandByNumber (record { terms = tables.terms; accounts = tables.accounts; rates = with_fixed_rate tables.rates row })
fixed-stand tables row most stand = record {
  terms = stand.terms;
  accounts = stand.accounts;
  rates = fixed-rise tables.rates row stand.rates;
  within = fixed-within tables.rates row most stand.within;
}

pub stand-after : (tables : Tables) (kind : EventKind) → IsInRange kind → StandByNumber tables → StandByNumber (tables_after tables kind)
stand-after tables (EventKind.Class form) range stand = terms-stand tables (terms_of form) stand
stand-after tables (EventKind.Account form) range stand = accounts-stand tables (row_of_account form) stand
stand-after tables (EventKind.Dividend form) range stand = dividends-stand tables (row_of_dividend form) range stand
stand-after tables (EventKind.FixRate form) range stand = fixed-stand tables (row_of_fix form) range stand
stand-after tables _ range stand =
    record { terms = stand.terms; accounts = stand.accounts; rates = stand.rates; within = stand.within }

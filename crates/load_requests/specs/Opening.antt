-- How a load begins: one calendar of ten years in New York, a class with a front-end load and one with deferred loads, both
-- without a minimum that matters, then the households, then an account in each of them.
use Rattle.std.specs.Prelude.{ℕ, ◌/◌, List, [], ◌∷◌, true, codes}
use Rattle.money_units.specs.Texts.{last_digit}
use Rattle.class_terms.specs.Tables.{row_of}
use Rattle.agent_events.specs.declared.request.AccountForm.{AccountForm}
use Rattle.agent_events.specs.declared.request.CalendarForm.{CalendarForm}
use Rattle.agent_events.specs.declared.request.ClassForm.{ClassForm}
use Rattle.agent_events.specs.declared.request.HouseholdForm.{HouseholdForm}
use Rattle.fund_calendar.specs.PricingDays.{Listing}
use Rattle.register_machine.specs.pricing.PublishedTable.{listing_of}

-- the moment of all of it, 2024-01-02 08:00 in New York
abbrev pub opening_moment : ℕ
opening_moment = 1704200400

-- New York at 16:00, from 2024-01-01 to 2033-12-31, without holidays
abbrev pub load_calendar : CalendarForm
load_calendar = record {
  calendar = 1;
  zone = codes "EST5EDT,M3.2.0,M11.1.0";
  minute = 960;
  first = 19723;
  last = 23375;
  holidays = [];
}

-- its pricing days
unfoldable pub load_listing : Listing
load_listing = listing_of load_calendar

-- class 11, whose front-end load falls from 5.75 percent to nothing at a million dollars
abbrev pub front_class : ClassForm
front_class = record {
  class = 11;
  calendar = 1;
  fund = 1;
  name = codes "GROWTH-A";
  family = 0;
  counts = true;
  first_min = 1;
  later_min = 1;
  front =
      row_of 0 575 ∷ row_of 2500000 500 ∷ row_of 5000000 450 ∷ row_of 10000000 350 ∷ row_of 25000000 250
      ∷ row_of 50000000 200 ∷ row_of 100000000 0 ∷ [];
  deferred = [];
}

-- class 12, whose deferred load falls from 5 percent in the first year to 1 percent in the fifth
abbrev pub deferred_class : ClassForm
deferred_class = record {
  class = 12;
  calendar = 1;
  fund = 1;
  name = codes "GROWTH-B";
  family = 7;
  counts = true;
  first_min = 1;
  later_min = 1;
  front = row_of 0 0 ∷ [];
  deferred = 500 ∷ 400 ∷ 300 ∷ 200 ∷ 100 ∷ [];
}

-- a number in eight digits
abbrev pub eight_digits : ℕ → List ℕ
eight_digits n =
    last_digit (n / 10000000) ∷ last_digit (n / 1000000) ∷ last_digit (n / 100000) ∷ last_digit (n / 10000)
    ∷ last_digit (n / 1000) ∷ last_digit (n / 100) ∷ last_digit (n / 10) ∷ last_digit n ∷ []

-- the key of a household
abbrev pub key_of : ℕ → List ℕ
key_of household = 104 ∷ 45 ∷ eight_digits household

abbrev pub household_form : ℕ → HouseholdForm
household_form household = record { household = household; key = key_of household }

-- an account in the household of the same number, without a dealer
abbrev pub account_form : ℕ → AccountForm
account_form household =
    record { account = household; household = household; dealer = 0; name = codes "HOLDER" }

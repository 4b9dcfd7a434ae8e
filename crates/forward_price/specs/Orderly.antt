-- Orderly price books: no pricing moment is passed over, so that the sheet of a priced order is that of its due moment.
use Rattle.std.specs.Prelude.{◌≡◌, ◌≢◌, ℕ, ◌<◌, ◌≤◌, false, List, Some, None, All, AllPairs, Contains}
use Rattle.fund_calendar.specs.PricingDays.{Listing}
use Rattle.forward_price.specs.declared.price_sheet.Opening.{Opening}
use Rattle.forward_price.specs.declared.price_sheet.Sheet.{Sheet}
use Rattle.forward_price.specs.Sheets.{lists_class}
use Rattle.forward_price.specs.PriceTables.{Table}
use Rattle.forward_price.specs.Turns.{pricing_pairs, must_list, is_awaited, expected_of, wrong_class}

-- each sheet is that of a pricing moment of its calendar
abbrev pub AreOnPricingDays : List Listing → List Sheet → Type 0
AreOnPricingDays calendars sheets = All (λ sheet. Contains (pricing_pairs calendars)
    (sheet.moment, sheet.calendar)) sheets

-- each sheet lists every class of its calendar opened before its moment, and no other
abbrev pub AreComplete : List Opening → List Sheet → Type 0
AreComplete classes sheets =
    All (λ sheet. (number : ℕ) → lists_class sheet.prices number
    ≡ must_list classes sheet.calendar sheet.moment number) sheets

-- no pricing moment of a calendar up to one of its sheets is awaited
abbrev pub NonePassedOver : List Listing → List Opening → List Sheet → Type 0
NonePassedOver calendars classes sheets =
    All (λ sheet. All (λ pair. pair.1 ≡ sheet.calendar → pair.0 ≤ sheet.moment
    → is_awaited classes sheets pair ≡ false) (pricing_pairs calendars)) sheets

pub record IsOrderly (t : Table) : Type 0 where
  pub calendars_differ : AllPairs (λ a b. a.number ≢ b.number) t.calendars
  pub classes_differ : AllPairs (λ a b. a.class ≢ b.class) t.classes
  pub on_pricing_days : AreOnPricingDays t.calendars t.sheets
  pub complete : AreComplete t.classes t.sheets
  pub none_passed : NonePassedOver t.calendars t.classes t.sheets
  pub rises : AllPairs (λ a b. a.calendar ≡ b.calendar → a.moment < b.moment) t.sheets

-- a class is opened no earlier than the sheets of its calendar
abbrev pub OpensAfter : List Sheet → ℕ → ℕ → Type 0
OpensAfter sheets calendar opened = All (λ sheet. sheet.calendar ≡ calendar
    → sheet.moment ≤ opened) sheets

-- the sheet is expected, and its list complete
pub record IsInTurn (t : Table) (calendar moment : ℕ) (prices : List (ℕ × ℕ)) : Type 0 where
  pub expected : expected_of t ≡ Some (moment, calendar)
  pub complete : wrong_class t.classes calendar moment prices ≡ None

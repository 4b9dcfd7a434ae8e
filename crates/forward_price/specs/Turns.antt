-- Whose turn it is: the due moment of an order, the sheet that is expected next, and what a sheet must list. The net
-- asset value is computed at least once on each pricing day (17 CFR 270.22c-1(b)(1)), so no pricing moment is passed over.
use Rattle.std.specs.Prelude.{◌<◌, true, ◌≡◌, ℕ, nat_lt, Bool, false, not, ◌&&◌, ◌||◌, ◌==◌, if◌then◌else◌, List, ◌++◌, map, flat_map, Option, Some, None, All, AllPairs, find, option_and_then}
use Rattle.fund_calendar.specs.PricingDays.{Listing}
use Rattle.fund_calendar.specs.declared.pricing_day.PricingDay.{PricingDay}
use Rattle.std.specs.List.{list_any, list_all}
use Rattle.forward_price.specs.declared.price_sheet.Opening.{Opening}
use Rattle.forward_price.specs.declared.price_sheet.Sheet.{Sheet}
use Rattle.forward_price.specs.declared.price_sheet.PublishFault.{PublishFault}
use Rattle.forward_price.specs.declared.price_sheet.PublishFault.TheVariants.{SheetOutOfTurn, SheetIncomplete, TooSoon}
use Rattle.forward_price.specs.Sheets.{lists_class}
use Rattle.forward_price.specs.Choices.{IsBest, best}
use Rattle.forward_price.specs.PriceTables.{Table, calendar_numbered, is_sheet_at}

-- the class is one of those asked for
abbrev pub asks_for : List ℕ → Opening → Bool
asks_for asked class = list_any (λ number. number == class.class) asked

-- the class isn't among those asked for, or it was opened before the moment
abbrev pub opened_by : List ℕ → ℕ → Opening → Bool
opened_by asked moment class = not (asks_for asked class) || nat_lt class.opened moment

-- the moment is greater than the receipt and than the opening of every class asked for
abbrev pub is_due : List Opening → List ℕ → ℕ → ℕ → Bool
is_due classes asked receipt moment = nat_lt receipt moment
    && list_all (opened_by asked moment) classes

-- the calendar of the classes asked for
abbrev pub calendar_in : List Listing → List Opening → List ℕ → Option Listing
calendar_in calendars classes asked =
    option_and_then (λ class. calendar_numbered calendars class.calendar)
    (find (asks_for asked) classes)

-- the moments of its pricing days
abbrev pub moments_of : Listing → List ℕ
moments_of c = map (λ e. e.moment) c.days

-- The due moment is the least pricing moment of the calendar that is greater than the receipt and than every opening.
abbrev pub IsDueOn : List Opening → List ℕ → ℕ → Listing → ℕ → Type 0
IsDueOn classes asked receipt c moment = IsBest (is_due classes asked receipt) nat_lt
    (moments_of c) moment

-- the due moment, computed
abbrev pub due_on : List Opening → List ℕ → ℕ → Listing → Option ℕ
due_on classes asked receipt c = best (is_due classes asked receipt) nat_lt (moments_of c)

abbrev pub due_in : List Listing → List Opening → List ℕ → ℕ → Option ℕ
due_in calendars classes asked receipt = option_and_then (due_on classes asked receipt)
    (calendar_in calendars classes asked)

-- the due moment of an order of these classes with this receipt
abbrev pub due_of : Table → List ℕ → ℕ → Option ℕ
due_of t asked receipt = due_in t.calendars t.classes asked receipt

-- the due moment of an order, on the calendar of its classes
abbrev pub IsDue : Table → List ℕ → ℕ → ℕ → Type 0
IsDue t asked receipt moment =
    (c : Listing) × (calendar_in t.calendars t.classes asked ≡ Some c)
    × IsDueOn t.classes asked receipt c moment

-- the calendar of the classes has no moment that is due
abbrev pub NoneDue : Table → List ℕ → ℕ → Type 0
NoneDue t asked receipt =
    (c : Listing) → calendar_in t.calendars t.classes asked ≡ Some c
    → All (λ moment. is_due t.classes asked receipt moment ≡ false) (moments_of c)

-- a pricing moment of a calendar
abbrev pub pricing_pair : ℕ → PricingDay → ℕ × ℕ
pricing_pair calendar e = (e.moment, calendar)

abbrev pub pairs_of : Listing → List (ℕ × ℕ)
pairs_of c = map (pricing_pair c.number) c.days

-- all pricing moments with their calendars
abbrev pub pricing_pairs : List Listing → List (ℕ × ℕ)
pricing_pairs calendars = flat_map pairs_of calendars

-- a class of the calendar that was opened before the moment
abbrev pub is_offered_at : ℕ → ℕ → Opening → Bool
is_offered_at calendar moment class = class.calendar == calendar && nat_lt class.opened moment

-- a class of the calendar was opened earlier, and no sheet of the pricing moment is published
abbrev pub is_awaited : List Opening → List Sheet → ℕ × ℕ → Bool
is_awaited classes sheets pair =
    list_any (is_offered_at pair.1 pair.0) classes
    && not (list_any (is_sheet_at pair.1 pair.0) sheets)

-- the moment is smaller, or it is the same and the calendar has the smaller number
abbrev pub is_sooner : ℕ × ℕ → ℕ × ℕ → Bool
is_sooner pair other = nat_lt pair.0 other.0 || (pair.0 == other.0 && nat_lt pair.1 other.1)

-- The expected sheet is that of the least pair of moment and calendar over all pricing moments that are awaited.
abbrev pub IsExpected : Table → ℕ × ℕ → Type 0
IsExpected t pair = IsBest (is_awaited t.classes t.sheets) is_sooner
    (pricing_pairs t.calendars) pair

-- none is expected
abbrev pub NoneExpected : Table → Type 0
NoneExpected t = All (λ pair. is_awaited t.classes t.sheets pair ≡ false)
    (pricing_pairs t.calendars)

-- no pricing moment up to here is awaited
pub record NoneAwaitedTo (calendars : List Listing) (classes : List Opening) (sheets : List Sheet)
    (passed : ℕ) : Type 0 where
  pub later : All (λ pair. is_awaited classes sheets pair ≡ true
      → passed < pair.0) (pricing_pairs calendars)

-- the expected sheet, computed
abbrev pub expected_in : List Listing → List Opening → List Sheet → Option (ℕ × ℕ)
expected_in calendars classes sheets = best (is_awaited classes sheets) is_sooner
    (pricing_pairs calendars)

abbrev pub expected_of : Table → Option (ℕ × ℕ)
expected_of t = expected_in t.calendars t.classes t.sheets

-- a sheet must list the class
abbrev pub must_list : List Opening → ℕ → ℕ → ℕ → Bool
must_list classes calendar moment number =
    list_any (λ class. class.class == number && is_offered_at calendar moment class) classes

-- the class is missing on the list, or too many on it
abbrev pub is_wrong : List Opening → ℕ → ℕ → List (ℕ × ℕ) → ℕ → Bool
is_wrong classes calendar moment prices number =
    if lists_class prices number then not (must_list classes calendar moment number)
    else must_list classes calendar moment number

abbrev pub class_numbers : List Opening → List ℕ
class_numbers classes = map (λ class. class.class) classes

abbrev pub price_numbers : List (ℕ × ℕ) → List ℕ
price_numbers prices = map (λ price. price.0) prices

-- the least class that is missing or too many
abbrev pub wrong_class : List Opening → ℕ → ℕ → List (ℕ × ℕ) → Option ℕ
wrong_class classes calendar moment prices =
    best (is_wrong classes calendar moment prices) nat_lt
    (class_numbers classes ++ price_numbers prices)

-- the class numbers rise
abbrev pub IsRising : List (ℕ × ℕ) → Type 0
IsRising prices = AllPairs (λ a b. a.0 < b.0) prices

-- A sheet lists every class of its calendar opened before its moment, and no other, by rising class number.
pub record IsComplete (classes : List Opening) (calendar moment : ℕ)
    (prices : List (ℕ × ℕ)) : Type 0 where
  pub rises : IsRising prices
  pub lists : (number : ℕ) → lists_class prices number ≡ must_list classes calendar moment number

-- the pair is that of the sheet
abbrev pub is_pair : ℕ → ℕ → ℕ × ℕ → Bool
is_pair calendar moment pair = pair.0 == moment && pair.1 == calendar

-- the fault of a sheet whose turn it is: its list, or that its moment is to come
abbrev pub list_fault : Option ℕ → ℕ → ℕ → Option PublishFault
list_fault (Some class) moment now = Some (SheetIncomplete class)
list_fault None moment now = if nat_lt now moment then Some (TooSoon moment) else None

-- why a sheet can't be published, given the expected one and the least class that is missing or too many
abbrev pub fault_of : Option (ℕ × ℕ) → Option ℕ → ℕ → ℕ → ℕ → Option PublishFault
fault_of None wrong calendar moment now = Some (SheetOutOfTurn 0 0)
fault_of (Some pair) wrong calendar moment now =
    if is_pair calendar moment pair then list_fault wrong moment now
    else Some (SheetOutOfTurn pair.0 pair.1)

-- why a sheet can't be published: it isn't the expected one, its list isn't complete, or its moment is to come
abbrev pub publish_fault : Table → ℕ → ℕ → List (ℕ × ℕ) → ℕ → Option PublishFault
publish_fault t calendar moment prices now =
    fault_of (expected_of t) (wrong_class t.classes calendar moment prices) calendar moment now

-- The price table: the calendars of the funds, the openings of their classes, and the published sheets in order. An
-- order is executed only at a price based on the net asset value next computed after its receipt (17 CFR 270.22c-1(a)).
use Rattle.std.specs.Prelude.{◌<◌, slice_index_or, ◌≡◌, ℕ, ◌≤◌, nat_lt, Bool, true, ◌&&◌, ◌==◌, if◌then◌else◌, List, [], ◌∷◌, ◌++◌, length, ◌+◌, ◌-◌, take, map, max, slice_get, Option, Some, None, All, AllPairs, Contains, find, option_map, option_and_then, unwrap_or}
use Rattle.fund_calendar.specs.PricingDays.{Listing, date_at, without_day, lists_day}
use Rattle.std.specs.List.{list_any}
use Rattle.std.specs.Option.{option_map_or}
use Rattle.forward_price.specs.declared.price_sheet.Opening.{Opening}
use Rattle.forward_price.specs.declared.price_sheet.Sheet.{Sheet}
use Rattle.forward_price.specs.declared.price_sheet.Patch.{Patch}
use Rattle.forward_price.specs.Choices.{best}
use Rattle.forward_price.specs.Sheets.{lists_class, lists_all, nav_on}

pub record Table : Type 0 where
  pub calendars : List Listing
  pub classes : List Opening
  pub sheets : List Sheet

-- a price book: its table; how many calendars or classes more take no memory; and how many prices the list of the next
-- sheet may have without any
pub record Book : Type 0 where
  pub table : Table
  pub spare : ℕ
  pub list : ℕ

-- the sheet lists all the classes, and its moment is greater than the receipt
abbrev pub prices_order : List ℕ → ℕ → Sheet → Bool
prices_order asked receipt sheet = nat_lt receipt sheet.moment && lists_all sheet.prices asked

abbrev pub is_earlier : Sheet → Sheet → Bool
is_earlier sheet other = nat_lt sheet.moment other.moment

abbrev pub is_later : Sheet → Sheet → Bool
is_later sheet other = nat_lt other.moment sheet.moment

-- The next price: the sheet lists all the classes, its moment is greater than the receipt, and no sheet that lists them
-- all lies between the two.
pub record NextPrice (sheets : List Sheet) (asked : List ℕ) (receipt : ℕ)
    (sheet : Sheet) : Type 0 where
  pub among : Contains sheets sheet
  pub lists : lists_all sheet.prices asked ≡ true
  pub after : receipt < sheet.moment
  pub next : All (λ other. lists_all other.prices asked ≡ true → receipt < other.moment
      → sheet.moment ≤ other.moment) sheets

-- the sheet of this number has the next price
abbrev pub IsPricedBy : List Sheet → List ℕ → ℕ → ℕ → Type 0
IsPricedBy sheets asked receipt number = (sheet : Sheet) × (sheet.number ≡ number)
    × NextPrice sheets asked receipt sheet

-- no sheet has the next price yet: none that lists all the classes is after the receipt
abbrev pub IsPending : List Sheet → List ℕ → ℕ → Type 0
IsPending sheets asked receipt = All (λ sheet. lists_all sheet.prices asked ≡ true
    → receipt < sheet.moment → ⊥) sheets

-- the sheet of the next price, computed
abbrev pub next_sheet : List Sheet → List ℕ → ℕ → Option Sheet
next_sheet sheets asked receipt = best (prices_order asked receipt) is_earlier sheets

-- the sheet lists the class, and its moment is smaller
abbrev pub is_before : ℕ → ℕ → Sheet → Bool
is_before class moment sheet = nat_lt sheet.moment moment && lists_class sheet.prices class

-- The last sheet before a moment: it lists the class, and no sheet that lists it lies between the two.
pub record LastPrice (sheets : List Sheet) (class moment : ℕ) (sheet : Sheet) : Type 0 where
  pub among : Contains sheets sheet
  pub lists : lists_class sheet.prices class ≡ true
  pub before : sheet.moment < moment
  pub last : All (λ other. lists_class other.prices class ≡ true → other.moment < moment
      → other.moment ≤ sheet.moment) sheets

-- the last sheet before a moment, computed
abbrev pub sheet_before : List Sheet → ℕ → ℕ → Option Sheet
sheet_before sheets class moment = best (is_before class moment) is_later sheets

-- the sheets are numbered 1, 2, 3 in order of publication
pub record AreNumbered (sheets : List Sheet) : Type 0 where
  pub each : (place : ℕ) (d : Sheet) → place < length sheets
      → (slice_index_or sheets place d).number ≡ place + 1

-- no sheet's moment is before that of a sheet published earlier
abbrev pub NeverFall : List Sheet → Type 0
NeverFall sheets = AllPairs (λ a b. a.moment ≤ b.moment) sheets

abbrev pub sheet_numbered : List Sheet → ℕ → Option Sheet
sheet_numbered sheets number = find (λ sheet. sheet.number == number) sheets

-- the sheet is that of a calendar's pricing moment
abbrev pub is_sheet_at : ℕ → ℕ → Sheet → Bool
is_sheet_at calendar moment sheet = sheet.calendar == calendar && sheet.moment == moment

-- the number of the sheet of a pricing moment
abbrev pub number_at : List Sheet → ℕ → ℕ → Option ℕ
number_at sheets calendar moment = option_map (λ sheet. sheet.number)
    (find (is_sheet_at calendar moment) sheets)

-- the net asset value of a class on the sheet of this number
abbrev pub price_on : List Sheet → ℕ → ℕ → Option ℕ
price_on sheets number class = option_and_then
    (λ sheet. nav_on sheet.prices class) (sheet_numbered sheets number)

-- the net asset value of a class on its last sheet before a moment
abbrev pub price_before : List Sheet → ℕ → ℕ → Option ℕ
price_before sheets class moment = option_and_then
    (λ sheet. nav_on sheet.prices class) (sheet_before sheets class moment)

-- a price, with another net asset value for one class
abbrev pub corrected_price : ℕ → ℕ → ℕ × ℕ → ℕ × ℕ
corrected_price class nav price = if price.0 == class then (price.0, nav) else price

abbrev pub with_prices : Sheet → List (ℕ × ℕ) → Sheet
with_prices sheet prices = record {
  number = sheet.number;
  calendar = sheet.calendar;
  moment = sheet.moment;
  day = sheet.day;
  prices = prices;
}

abbrev pub corrected_sheet : ℕ → ℕ → ℕ → Sheet → Sheet
corrected_sheet class number nav sheet =
    if sheet.number == number then with_prices sheet (map (corrected_price class nav) sheet.prices)
    else sheet

-- the sheets with another net asset value of one class on the sheet of one number
abbrev pub sheets_with_nav : ℕ → ℕ → ℕ → List Sheet → List Sheet
sheets_with_nav class number nav sheets = map (corrected_sheet class number nav) sheets

-- the sheets under a correction on trial
abbrev pub sheets_on_trial : Option Patch → List Sheet → List Sheet
sheets_on_trial None sheets = sheets
sheets_on_trial (Some patch) sheets = sheets_with_nav patch.class patch.sheet patch.nav sheets

-- the net asset value of a class on one sheet under a correction on trial, which is read for its class and sheet alone
abbrev pub trial_nav : Option Patch → Sheet → ℕ → ℕ → ℕ
trial_nav None sheet class nav = nav
trial_nav (Some patch) sheet class nav = if sheet.number == patch.sheet && class == patch.class
    then patch.nav else nav

abbrev pub patched_nav : Option Patch → Sheet → ℕ → Option ℕ
patched_nav patch sheet class = option_map (trial_nav patch sheet class) (nav_on sheet.prices class)

-- the calendar of this number
abbrev pub calendar_numbered : List Listing → ℕ → Option Listing
calendar_numbered calendars number = find (λ c. c.number == number) calendars

-- the opening of the class of this number
abbrev pub class_opened : List Opening → ℕ → Option Opening
class_opened classes number = find (λ class. class.class == number) classes

-- the date that a calendar prices at a moment, and 0 where it prices none then
abbrev pub date_priced : List Listing → ℕ → ℕ → ℕ
date_priced calendars calendar moment =
    unwrap_or (option_and_then (λ c. date_at c moment) (calendar_numbered calendars calendar)) 0

-- a sheet as it is published, numbered in order of publication
abbrev pub sheet_published : Table → ℕ → ℕ → List (ℕ × ℕ) → Sheet
sheet_published t calendar moment prices = record {
  number = length t.sheets + 1;
  calendar = calendar;
  moment = moment;
  day = date_priced t.calendars calendar moment;
  prices = prices;
}

abbrev pub with_sheets : Table → List Sheet → Table
with_sheets t sheets = record { calendars = t.calendars; classes = t.classes; sheets = sheets }

-- the sheets but the last one
abbrev pub but_last : List Sheet → List Sheet
but_last sheets = take (length sheets - 1) sheets

-- a calendar without a day, where it has this number
abbrev pub closed_in : ℕ → ℕ → Listing → Listing
closed_in calendar day c = if c.number == calendar then without_day c day else c

-- the day is one of those of the calendar of this number
abbrev pub is_priced_day : ℕ → ℕ → Listing → Bool
is_priced_day calendar day c = c.number == calendar && lists_day c day

-- the day is priced by the calendar of this number
abbrev pub is_priced : List Listing → ℕ → ℕ → Bool
is_priced calendars calendar day = list_any (is_priced_day calendar day) calendars

abbrev pub with_calendars : Table → List Listing → Table
with_calendars t calendars = record { calendars = calendars; classes = t.classes; sheets = t.sheets }

-- the table with one more calendar
abbrev pub with_calendar : Table → Listing → Table
with_calendar t calendar = with_calendars t (t.calendars ++ calendar ∷ [])

-- the table with one more class
abbrev pub with_class : Table → ℕ → ℕ → ℕ → Table
with_class t class calendar opened = record {
  calendars = t.calendars;
  classes = t.classes ++ record { class = class; calendar = calendar; opened = opened } ∷ [];
  sheets = t.sheets;
}

-- the table without a day of a calendar
abbrev pub without_day_of : Table → ℕ → ℕ → Table
without_day_of t calendar day = with_calendars t (map (closed_in calendar day) t.calendars)

-- the table with one more sheet
abbrev pub with_published : Table → ℕ → ℕ → List (ℕ × ℕ) → Table
with_published t calendar moment prices = with_sheets t
    (t.sheets ++ sheet_published t calendar moment prices ∷ [])

-- the table without its last sheet
abbrev pub without_last : Table → Table
without_last t = with_sheets t (but_last t.sheets)

-- the table with another net asset value of one class on one sheet
abbrev pub with_correction : Table → ℕ → ℕ → ℕ → Table
with_correction t class number nav = with_sheets t (sheets_with_nav class number nav t.sheets)

-- nothing is known, published or reserved
abbrev pub empty_book : Book
empty_book = record { table = record { calendars = []; classes = []; sheets = [] }; spare = 0; list = 0 }

-- the book with another table and its room as before
abbrev pub with_table : Book → Table → Book
with_table book t = record { table = t; spare = book.spare; list = book.list }

-- the prices of the last sheet, and 0 without one
abbrev pub last_length : List Sheet → ℕ
last_length sheets = option_map_or (λ sheet. length sheet.prices)
    (slice_get sheets (length sheets - 1)) 0

-- the book with one more sheet, for whose list the room was taken
abbrev pub published_book : Book → ℕ → ℕ → List (ℕ × ℕ) → Book
published_book book calendar moment prices = record {
  table = with_published book.table calendar moment prices;
  spare = book.spare;
  list = 0;
}

-- the book without its last sheet, whose list gives its room back
abbrev pub withdrawn_book : Book → Book
withdrawn_book book = record {
  table = without_last book.table;
  spare = book.spare;
  list = max book.list (last_length book.table.sheets);
}

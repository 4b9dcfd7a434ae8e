-- What an event changes in the price book: the calendar that it brings, the room that it takes, and what it asks of the table.
use Rattle.std.specs.Prelude.{None, Ok, Option, Some, is_some, length, true, ℕ, ◌<◌, ◌≡◌, ◌≤◌}
use Rattle.agent_events.specs.Calendars.{calendar_checked}
use Rattle.agent_events.specs.declared.event.EventKind.{EventKind}
use Rattle.agent_events.specs.declared.request.FixPriceForm.{FixPriceForm}
use Rattle.agent_events.specs.declared.request.SheetForm.{SheetForm}
use Rattle.forward_price.specs.PriceTables.{Book, Table, calendar_numbered, class_opened, price_on, with_correction}
use Rattle.forward_price.specs.Turns.{expected_of, wrong_class}
use Rattle.fund_calendar.specs.PricingDays.{Listing}
use Rattle.reference_tables.specs.TablesOfJournals.{patch_by, patch_on}
use Rattle.register_laws.specs.OneEventMore.{with_price_fixed}
use Rattle.register_machine.specs.pricing.PublishedTable.{listing_of}

-- the pricing days of a calendar that an event brings
abbrev pub listing_brought : EventKind → Option Listing
listing_brought (EventKind.Calendar form) = Some (listing_of form)
listing_brought _ = None

-- and they can be listed
abbrev pub HasGoodCalendar : EventKind → Type 0
HasGoodCalendar (EventKind.Calendar form) = calendar_checked form ≡ Ok (listing_of form)
HasGoodCalendar _ = Unit {0}

-- so many calendars and classes more, or prices of a sheet, take no memory
abbrev pub HasRoomFor : Book → EventKind → Type 0
HasRoomFor book (EventKind.Calendar form) = 1 ≤ book.spare
HasRoomFor book (EventKind.Class form) = 1 ≤ book.spare
HasRoomFor book (EventKind.Sheet form) = length form.prices ≤ book.list
HasRoomFor book _ = Unit {0}

-- the sheet is the expected one and complete, and it has a number
pub record IsNextSheet (table : Table) (form : SheetForm) : Type 0 where
  pub expected : expected_of table ≡ Some (form.moment, form.calendar)
  pub complete : wrong_class table.classes form.calendar form.moment form.prices ≡ None
  pub count : length table.sheets < 4294967295

-- the corrected price is that of one sheet, found by its class and moment
pub record IsOfOneSheet (table : Table) (form : FixPriceForm) : Type 0 where
  pub number : ℕ
  pub found : patch_on table.sheets form ≡ Some (patch_by form number)
  pub listed : is_some (price_on table.sheets number form.class) ≡ true
  pub fixed : with_price_fixed form table ≡ with_correction table form.class number form.nav

-- What an event asks of the table: a new calendar, a new class of a calendar that is there, the next sheet, a price of a sheet.
abbrev pub CanChange : Table → EventKind → Type 0
CanChange table (EventKind.Calendar form) = calendar_numbered table.calendars (listing_of form).number ≡ None
CanChange table (EventKind.Class form) =
    (class_opened table.classes form.class ≡ None)
    × (is_some (calendar_numbered table.calendars form.calendar) ≡ true)
CanChange table (EventKind.Sheet form) = IsNextSheet table form
CanChange table (EventKind.FixPrice form) = IsOfOneSheet table form
CanChange table _ = Unit {0}

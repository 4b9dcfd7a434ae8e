-- Which events have a row: each field is in its range. An event of the program always is, by its types, but for how many
-- loads a class has: a request may ask for any number, and the terms' own rules take no others than these.
use Rattle.std.specs.Prelude.{ℕ, ◌<◌, ◌^◌, Bool, true, ◌&&◌, nat_le, List, length}
use Rattle.class_terms.specs.declared.lists.Bracket.{Bracket}
use Rattle.agent_events.specs.declared.event.EventKind.{EventKind}
use Rattle.agent_events.specs.declared.event.Placed.{Placed}
use Rattle.agent_events.specs.declared.order.Body.{Body}
use Rattle.agent_events.specs.declared.request.AccountForm.{AccountForm}
use Rattle.agent_events.specs.declared.request.CalendarForm.{CalendarForm}
use Rattle.agent_events.specs.declared.request.CancelForm.{CancelForm}
use Rattle.agent_events.specs.declared.request.ClassForm.{ClassForm}
use Rattle.agent_events.specs.declared.request.CloseForm.{CloseForm}
use Rattle.agent_events.specs.declared.request.DealerForm.{DealerForm}
use Rattle.agent_events.specs.declared.request.DividendForm.{DividendForm}
use Rattle.agent_events.specs.declared.request.EntryForm.{EntryForm}
use Rattle.agent_events.specs.declared.request.FixPriceForm.{FixPriceForm}
use Rattle.agent_events.specs.declared.request.FixRateForm.{FixRateForm}
use Rattle.agent_events.specs.declared.request.HouseholdForm.{HouseholdForm}
use Rattle.agent_events.specs.declared.request.SheetForm.{SheetForm}
use Rattle.agent_events.specs.declared.request.VoidForm.{VoidForm}
use Rattle.agent_events.specs.Events.{Event}
use Rattle.agent_events.specs.Fields.{is_label, is_zone_text, is_household_key, is_dealer_key, are_floors, is_rising, are_holidays}
use Rattle.event_rows.specs.Ranges.{IsIdentifier, IsIdentifierOrNone, IsReference, IsMoment, IsDay, IsAmount, IsMinimum, IsNav, IsQuantity, IsDividendRate, IsCorrectedRate, IsTimeOfDay, IsWindow, IsBps, Passes, AreListed, IsBearer}

abbrev pub IsBody : Body → Type 0
IsBody (Body.Buy class gross) = IsIdentifier class × IsAmount gross
IsBody (Body.Sell class mils) = IsIdentifier class × IsQuantity mils
IsBody (Body.SellCash class amount) = IsIdentifier class × IsAmount amount
IsBody (Body.SellAll class) = IsIdentifier class
IsBody (Body.Exchange class to mils) = IsIdentifier class × (IsIdentifier to × IsQuantity mils)
IsBody (Body.ExchangeAll class to) = IsIdentifier class × IsIdentifier to
IsBody (Body.Letter class amount) = IsIdentifier class × IsAmount amount
IsBody (Body.Elect class in_cash) = IsIdentifier class × Unit {0}

abbrev pub AreHolidays : List ℕ → Type 0
AreHolidays days = AreListed IsDay days × Passes are_holidays days

abbrev pub IsBracket : Bracket → Type 0
IsBracket row = (row.floor < 2 ^ 64) × IsBps row.rate

-- a class has one to 16 rows of front-end loads, and no more than ten rates of a deferred load
abbrev pub has_front_rows : List Bracket → Bool
has_front_rows rows = nat_le 1 (length rows) && nat_le (length rows) 16

abbrev pub has_deferred_rates : List ℕ → Bool
has_deferred_rates rates = nat_le (length rates) 10

abbrev pub AreBrackets : List Bracket → Type 0
AreBrackets rows = (AreListed IsBracket rows × Passes has_front_rows rows) × Passes are_floors rows

abbrev pub AreRates : List ℕ → Type 0
AreRates rates = AreListed IsBps rates × Passes has_deferred_rates rates

-- a price of a sheet by its types alone: that the classes are in range follows from their rising
abbrev pub IsListedPrice : ℕ × ℕ → Type 0
IsListedPrice priced = (priced.0 < 2 ^ 32) × IsNav priced.1

abbrev pub ArePrices : List (ℕ × ℕ) → Type 0
ArePrices prices = AreListed IsListedPrice prices × Passes is_rising prices

abbrev pub IsCalendar : CalendarForm → Type 0
IsCalendar form =
    IsIdentifier form.calendar × (Passes is_zone_text form.zone × (IsTimeOfDay form.minute × (IsDay form.first
    × (IsDay form.last × AreHolidays form.holidays))))

abbrev pub IsClose : CloseForm → Type 0
IsClose form = IsIdentifier form.calendar × IsDay form.day

abbrev pub AreLoads : ClassForm → Type 0
AreLoads form =
    Unit {0} × (IsMinimum form.first_min × (IsMinimum form.later_min × (AreBrackets form.front × AreRates form.deferred)))

abbrev pub IsClass : ClassForm → Type 0
IsClass form =
    IsIdentifier form.class × (IsIdentifier form.calendar × (IsIdentifier form.fund × (Passes is_label form.name
    × (IsIdentifierOrNone form.family × AreLoads form))))

abbrev pub IsDealer : DealerForm → Type 0
IsDealer form = IsIdentifier form.dealer × (Passes is_dealer_key form.key × IsWindow form.window)

abbrev pub IsHousehold : HouseholdForm → Type 0
IsHousehold form = IsIdentifier form.household × Passes is_household_key form.key

abbrev pub IsAccount : AccountForm → Type 0
IsAccount form =
    IsIdentifier form.account × (IsIdentifier form.household × (IsIdentifierOrNone form.dealer × Passes is_label form.name))

abbrev pub IsPlaced : Placed → Type 0
IsPlaced row =
    IsIdentifier row.order.account × (IsReference row.order.ref_no × (Unit {0} × (IsMoment row.receipt
    × (IsMoment row.due × IsBody row.order.body))))

abbrev pub IsCancel : CancelForm → Type 0
IsCancel form = IsIdentifier form.account × (IsReference form.ref_no × IsReference form.target)

abbrev pub IsSheet : SheetForm → Type 0
IsSheet form = IsIdentifier form.calendar × (IsMoment form.moment × ArePrices form.prices)

abbrev pub IsDividend : DividendForm → Type 0
IsDividend form = IsIdentifier form.class × (IsMoment form.moment × IsDividendRate form.rate)

abbrev pub IsFixPrice : FixPriceForm → Type 0
IsFixPrice form =
    IsReference form.fix × (IsBearer form.bearer × (IsIdentifier form.class × (IsMoment form.moment × IsNav form.nav)))

abbrev pub IsFixRate : FixRateForm → Type 0
IsFixRate form =
    IsReference form.fix × (IsBearer form.bearer × (IsIdentifier form.class × (IsMoment form.moment × IsCorrectedRate form.rate)))

abbrev pub IsEntry : EntryForm → Type 0
IsEntry form =
    IsReference form.fix × (IsBearer form.bearer × (IsIdentifier form.order.account × (IsReference form.order.ref_no
    × (IsMoment form.receipt × IsBody form.order.body))))

abbrev pub IsVoid : VoidForm → Type 0
IsVoid form = IsReference form.fix × (IsBearer form.bearer × (IsIdentifier form.account × IsReference form.ref_no))

abbrev pub IsKind : EventKind → Type 0
IsKind (EventKind.Calendar form) = IsCalendar form
IsKind (EventKind.Close form) = IsClose form
IsKind (EventKind.Class form) = IsClass form
IsKind (EventKind.Dealer form) = IsDealer form
IsKind (EventKind.Household form) = IsHousehold form
IsKind (EventKind.Account form) = IsAccount form
IsKind (EventKind.Order row) = IsPlaced row
IsKind (EventKind.Cancel form) = IsCancel form
IsKind (EventKind.Sheet form) = IsSheet form
IsKind (EventKind.Dividend form) = IsDividend form
IsKind (EventKind.FixPrice form) = IsFixPrice form
IsKind (EventKind.FixRate form) = IsFixRate form
IsKind (EventKind.Enter form) = IsEntry form
IsKind (EventKind.Replace form) = IsEntry form
IsKind (EventKind.Void form) = IsVoid form

-- a class with as many loads as a row may have
abbrev pub has_loads : EventKind → Bool
has_loads (EventKind.Class form) = has_front_rows form.front && has_deferred_rates form.deferred
has_loads _ = true

-- the moment and each field of the kind in its range
abbrev pub InForm : Event → Type 0
InForm event = IsMoment event.moment × IsKind event.kind

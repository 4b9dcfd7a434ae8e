-- The reader of each kind: the value at the front of the bytes and what is left behind it.
use Rattle.std.specs.Prelude.{ℕ, Bool, ◌==◌, if◌then◌else◌, List, Option, None, option_and_then}
use Rattle.std.specs.Int.{w32, w64}
use Rattle.class_terms.specs.declared.lists.Bracket.{Bracket}
use Rattle.agent_events.specs.declared.event.EventKind.{EventKind}
use Rattle.agent_events.specs.declared.event.Placed.{Placed}
use Rattle.agent_events.specs.declared.event.Source.{Source}
use Rattle.agent_events.specs.declared.order.Body.{Body}
use Rattle.agent_events.specs.declared.request.AccountForm.{AccountForm}
use Rattle.agent_events.specs.declared.request.CalendarForm.{CalendarForm}
use Rattle.agent_events.specs.declared.request.CancelForm.{CancelForm}
use Rattle.agent_events.specs.declared.request.ClassForm.{ClassForm}
use Rattle.agent_events.specs.declared.request.CloseForm.{CloseForm}
use Rattle.agent_events.specs.declared.request.DealerForm.{DealerForm}
use Rattle.agent_events.specs.declared.request.DividendForm.{DividendForm}
use Rattle.agent_events.specs.declared.request.EntryForm.{EntryForm}
use Rattle.agent_events.specs.declared.request.FixPriceForm.{FixPriceForm}
use Rattle.agent_events.specs.declared.request.FixRateForm.{FixRateForm}
use Rattle.agent_events.specs.declared.request.HouseholdForm.{HouseholdForm}
use Rattle.agent_events.specs.declared.request.SheetForm.{SheetForm}
use Rattle.agent_events.specs.declared.request.VoidForm.{VoidForm}
use Rattle.agent_events.specs.declared.order.Bearer.{Bearer}
use Rattle.agent_events.specs.Events.{Event}
use Rattle.agent_events.specs.Fields.{are_floors, is_rising, are_holidays}
use Rattle.event_rows.specs.InForm.{has_front_rows, has_deferred_rates}
use Rattle.event_rows.specs.FieldReading.{◌&◌, map_read, kept, behind, byte_at, number_at, list_at, if_whole}
use Rattle.event_rows.specs.Readers.{flag_at, identifier_at, identifier_or_none_at, reference_at, moment_at, day_at, amount_at, minimum_at, nav_at, quantity_at, dividend_rate_at, corrected_rate_at, time_of_day_at, window_at, rate_at, name_at, zone_at, household_key_at, dealer_key_at, bearer_at}

-- what an order does, by the tag
abbrev pub buy_of : ℕ × ℕ → Body
buy_of x = Body.Buy x.0 x.1

abbrev pub sell_of : ℕ × ℕ → Body
sell_of x = Body.Sell x.0 x.1

abbrev pub sell_cash_of : ℕ × ℕ → Body
sell_cash_of x = Body.SellCash x.0 x.1

abbrev pub exchange_of : ℕ × (ℕ × ℕ) → Body
exchange_of x = Body.Exchange x.0 x.1.0 x.1.1

abbrev pub exchange_all_of : ℕ × ℕ → Body
exchange_all_of x = Body.ExchangeAll x.0 x.1

abbrev pub letter_of : ℕ × ℕ → Body
letter_of x = Body.Letter x.0 x.1

abbrev pub elect_of : ℕ × Bool → Body
elect_of x = Body.Elect x.0 x.1

abbrev pub body_behind : ℕ → List ℕ → Option (Body × List ℕ)
body_behind tag rest =
    if tag == 1 then map_read buy_of (identifier_at & amount_at) rest
    else if tag == 2 then map_read sell_of (identifier_at & quantity_at) rest
    else if tag == 3 then map_read sell_cash_of (identifier_at & amount_at) rest
    else if tag == 4 then map_read Body.SellAll identifier_at rest
    else if tag == 5 then map_read exchange_of (identifier_at & identifier_at & quantity_at) rest
    else if tag == 6 then map_read exchange_all_of (identifier_at & identifier_at) rest
    else if tag == 7 then map_read letter_of (identifier_at & amount_at) rest
    else if tag == 8 then map_read elect_of (identifier_at & flag_at) rest
    else None

unfoldable pub body_at : List ℕ → Option (Body × List ℕ)
body_at bytes = behind body_behind (byte_at bytes)

-- where the receipt of an order comes from
abbrev pub source_of : Bool → Source
source_of is_dealers = if is_dealers then Source.Dealer else Source.Direct

unfoldable pub source_at : List ℕ → Option (Source × List ℕ)
source_at = map_read source_of flag_at

-- the lists
unfoldable pub holidays_at : List ℕ → Option (List ℕ × List ℕ)
holidays_at = kept are_holidays (list_at day_at)

abbrev pub bracket_of : ℕ × ℕ → Bracket
bracket_of x = record { floor = x.0; rate = x.1 }

unfoldable pub bracket_at : List ℕ → Option (Bracket × List ℕ)
bracket_at = map_read bracket_of (number_at w64 & rate_at)

unfoldable pub front_at : List ℕ → Option (List Bracket × List ℕ)
front_at = kept are_floors (kept has_front_rows (list_at bracket_at))

unfoldable pub deferred_at : List ℕ → Option (List ℕ × List ℕ)
deferred_at = kept has_deferred_rates (list_at rate_at)

unfoldable pub price_at : List ℕ → Option ((ℕ × ℕ) × List ℕ)
price_at = number_at w32 & nav_at

unfoldable pub prices_at : List ℕ → Option (List (ℕ × ℕ) × List ℕ)
prices_at = kept is_rising (list_at price_at)

-- the kinds
abbrev pub calendar_of : ℕ × (List ℕ × (ℕ × (ℕ × (ℕ × List ℕ)))) → CalendarForm
calendar_of x = record { calendar = x.0; zone = x.1.0; minute = x.1.1.0; first = x.1.1.1.0; last = x.1.1.1.1.0; holidays = x.1.1.1.1.1 }

unfoldable pub calendar_at : List ℕ → Option (CalendarForm × List ℕ)
calendar_at = map_read calendar_of (identifier_at & zone_at & time_of_day_at & day_at & day_at & holidays_at)

abbrev pub close_of : ℕ × ℕ → CloseForm
close_of x = record { calendar = x.0; day = x.1 }

unfoldable pub close_at : List ℕ → Option (CloseForm × List ℕ)
close_at = map_read close_of (identifier_at & day_at)

abbrev pub class_of : ℕ × (ℕ × (ℕ × (List ℕ × (ℕ × (Bool × (ℕ × (ℕ × (List Bracket × List ℕ)))))))) → ClassForm
class_of x = record { class = x.0; calendar = x.1.0; fund = x.1.1.0; name = x.1.1.1.0; family = x.1.1.1.1.0; counts = x.1.1.1.1.1.0; first_min = x.1.1.1.1.1.1.0; later_min = x.1.1.1.1.1.1.1.0; front = x.1.1.1.1.1.1.1.1.0; deferred = x.1.1.1.1.1.1.1.1.1 }

unfoldable pub class_at : List ℕ → Option (ClassForm × List ℕ)
class_at = map_read class_of (identifier_at & identifier_at & identifier_at & name_at & identifier_or_none_at & flag_at & minimum_at & minimum_at & front_at & deferred_at)

abbrev pub dealer_of : ℕ × (List ℕ × ℕ) → DealerForm
dealer_of x = record { dealer = x.0; key = x.1.0; window = x.1.1 }

unfoldable pub dealer_at : List ℕ → Option (DealerForm × List ℕ)
dealer_at = map_read dealer_of (identifier_at & dealer_key_at & window_at)

abbrev pub household_of : ℕ × List ℕ → HouseholdForm
household_of x = record { household = x.0; key = x.1 }

unfoldable pub household_at : List ℕ → Option (HouseholdForm × List ℕ)
household_at = map_read household_of (identifier_at & household_key_at)

abbrev pub account_of : ℕ × (ℕ × (ℕ × List ℕ)) → AccountForm
account_of x = record { account = x.0; household = x.1.0; dealer = x.1.1.0; name = x.1.1.1 }

unfoldable pub account_at : List ℕ → Option (AccountForm × List ℕ)
account_at = map_read account_of (identifier_at & identifier_at & identifier_or_none_at & name_at)

abbrev pub cancel_of : ℕ × (ℕ × ℕ) → CancelForm
cancel_of x = record { account = x.0; ref_no = x.1.0; target = x.1.1 }

unfoldable pub cancel_at : List ℕ → Option (CancelForm × List ℕ)
cancel_at = map_read cancel_of (identifier_at & reference_at & reference_at)

abbrev pub sheet_of : ℕ × (ℕ × (List (ℕ × ℕ))) → SheetForm
sheet_of x = record { calendar = x.0; moment = x.1.0; prices = x.1.1 }

unfoldable pub sheet_at : List ℕ → Option (SheetForm × List ℕ)
sheet_at = map_read sheet_of (identifier_at & moment_at & prices_at)

abbrev pub dividend_of : ℕ × (ℕ × ℕ) → DividendForm
dividend_of x = record { class = x.0; moment = x.1.0; rate = x.1.1 }

unfoldable pub dividend_at : List ℕ → Option (DividendForm × List ℕ)
dividend_at = map_read dividend_of (identifier_at & moment_at & dividend_rate_at)

abbrev pub fix_price_of : ℕ × (Bearer × (ℕ × (ℕ × ℕ))) → FixPriceForm
fix_price_of x = record { fix = x.0; bearer = x.1.0; class = x.1.1.0; moment = x.1.1.1.0; nav = x.1.1.1.1 }

unfoldable pub fix_price_at : List ℕ → Option (FixPriceForm × List ℕ)
fix_price_at = map_read fix_price_of (reference_at & bearer_at & identifier_at & moment_at & nav_at)

abbrev pub fix_rate_of : ℕ × (Bearer × (ℕ × (ℕ × ℕ))) → FixRateForm
fix_rate_of x = record { fix = x.0; bearer = x.1.0; class = x.1.1.0; moment = x.1.1.1.0; rate = x.1.1.1.1 }

unfoldable pub fix_rate_at : List ℕ → Option (FixRateForm × List ℕ)
fix_rate_at = map_read fix_rate_of (reference_at & bearer_at & identifier_at & moment_at & corrected_rate_at)

abbrev pub void_of : ℕ × (Bearer × (ℕ × ℕ)) → VoidForm
void_of x = record { fix = x.0; bearer = x.1.0; account = x.1.1.0; ref_no = x.1.1.1 }

unfoldable pub void_at : List ℕ → Option (VoidForm × List ℕ)
void_at = map_read void_of (reference_at & bearer_at & identifier_at & reference_at)

abbrev pub placed_of : ℕ × (ℕ × (Source × (ℕ × (ℕ × Body)))) → Placed
placed_of x = record { order = record { account = x.0; ref_no = x.1.0; body = x.1.1.1.1.1 }; source = x.1.1.0; receipt = x.1.1.1.0; due = x.1.1.1.1.0 }

unfoldable pub placed_at : List ℕ → Option (Placed × List ℕ)
placed_at = map_read placed_of (identifier_at & reference_at & source_at & moment_at & moment_at & body_at)

abbrev pub entry_of : ℕ × (Bearer × (ℕ × (ℕ × (ℕ × Body)))) → EntryForm
entry_of x = record { fix = x.0; bearer = x.1.0; receipt = x.1.1.1.1.0; order = record { account = x.1.1.0; ref_no = x.1.1.1.0; body = x.1.1.1.1.1 } }

unfoldable pub entry_at : List ℕ → Option (EntryForm × List ℕ)
entry_at = map_read entry_of (reference_at & bearer_at & identifier_at & reference_at & moment_at & body_at)

-- the fields of a kind, by its number
unfoldable pub fields_at : ℕ → List ℕ → Option (EventKind × List ℕ)
fields_at number rest =
    if number == 1 then map_read EventKind.Calendar calendar_at rest
    else if number == 2 then map_read EventKind.Close close_at rest
    else if number == 3 then map_read EventKind.Class class_at rest
    else if number == 4 then map_read EventKind.Dealer dealer_at rest
    else if number == 5 then map_read EventKind.Household household_at rest
    else if number == 6 then map_read EventKind.Account account_at rest
    else if number == 7 then map_read EventKind.Order placed_at rest
    else if number == 8 then map_read EventKind.Cancel cancel_at rest
    else if number == 9 then map_read EventKind.Sheet sheet_at rest
    else if number == 10 then map_read EventKind.Dividend dividend_at rest
    else if number == 11 then map_read EventKind.FixPrice fix_price_at rest
    else if number == 12 then map_read EventKind.FixRate fix_rate_at rest
    else if number == 13 then map_read EventKind.Enter entry_at rest
    else if number == 14 then map_read EventKind.Replace entry_at rest
    else if number == 15 then map_read EventKind.Void void_at rest
    else None

-- the kind, the moment and the fields
abbrev pub event_with : ℕ → EventKind → Event
event_with moment kind = record { moment = moment; kind = kind }

abbrev pub event_behind : ℕ → Option (ℕ × List ℕ) → Option (Event × List ℕ)
event_behind number moment = option_and_then (λ x. map_read (event_with x.0) (fields_at number) x.1) moment

unfoldable pub first_version_at : List ℕ → Option (Event × List ℕ)
first_version_at bytes = behind (λ number rest. event_behind number (moment_at rest)) (byte_at bytes)

-- the version, and what it has
abbrev pub version_behind : ℕ → List ℕ → Option (Event × List ℕ)
version_behind version rest = if version == 1 then first_version_at rest else None

unfoldable pub event_at : List ℕ → Option (Event × List ℕ)
event_at bytes = behind version_behind (byte_at bytes)

-- all of the bytes
abbrev pub event_of_row : List ℕ → Option Event
event_of_row bytes = if_whole (event_at bytes)

-- The row of an event: the version 01, the kind, the moment, the fields of the kind, and nothing behind them.
use Rattle.std.specs.Prelude.{ℕ, Bool, true, false, List, ◌++◌}
use Rattle.class_terms.specs.declared.lists.Bracket.{Bracket}
use Rattle.agent_events.specs.declared.event.EventKind.{EventKind}
use Rattle.agent_events.specs.declared.event.Placed.{Placed}
use Rattle.agent_events.specs.declared.event.Source.{Source}
use Rattle.agent_events.specs.declared.order.Body.{Body}
use Rattle.agent_events.specs.declared.request.AccountForm.{AccountForm}
use Rattle.agent_events.specs.declared.request.CalendarForm.{CalendarForm}
use Rattle.agent_events.specs.declared.request.CancelForm.{CancelForm}
use Rattle.agent_events.specs.declared.request.ClassForm.{ClassForm}
use Rattle.agent_events.specs.declared.request.CloseForm.{CloseForm}
use Rattle.agent_events.specs.declared.request.DealerForm.{DealerForm}
use Rattle.agent_events.specs.declared.request.DividendForm.{DividendForm}
use Rattle.agent_events.specs.declared.request.EntryForm.{EntryForm}
use Rattle.agent_events.specs.declared.request.FixPriceForm.{FixPriceForm}
use Rattle.agent_events.specs.declared.request.FixRateForm.{FixRateForm}
use Rattle.agent_events.specs.declared.request.HouseholdForm.{HouseholdForm}
use Rattle.agent_events.specs.declared.request.SheetForm.{SheetForm}
use Rattle.agent_events.specs.declared.request.VoidForm.{VoidForm}
use Rattle.agent_events.specs.Events.{Event}
use Rattle.event_rows.specs.Spelling.{one_byte, two_bytes, four_bytes, eight_bytes, flag, text, list_bytes, bearer}

-- what an order does: a tag and its fields; an election is 00 for shares and 01 for cash
unfoldable pub body : Body → List ℕ
body (Body.Buy class gross) = one_byte 1 ++ (four_bytes class ++ eight_bytes gross)
body (Body.Sell class mils) = one_byte 2 ++ (four_bytes class ++ eight_bytes mils)
body (Body.SellCash class amount) = one_byte 3 ++ (four_bytes class ++ eight_bytes amount)
body (Body.SellAll class) = one_byte 4 ++ four_bytes class
body (Body.Exchange class to mils) = one_byte 5 ++ (four_bytes class ++ (four_bytes to ++ eight_bytes mils))
body (Body.ExchangeAll class to) = one_byte 6 ++ (four_bytes class ++ four_bytes to)
body (Body.Letter class amount) = one_byte 7 ++ (four_bytes class ++ eight_bytes amount)
body (Body.Elect class in_cash) = one_byte 8 ++ (four_bytes class ++ flag in_cash)

-- 00 for an order that was received with its request, 01 for a dealer's line
abbrev pub is_dealers : Source → Bool
is_dealers Source.Direct = false
is_dealers Source.Dealer = true

-- a row of a table of front-end loads, and a price of a sheet
abbrev pub bracket : Bracket → List ℕ
bracket row = eight_bytes row.floor ++ two_bytes row.rate

abbrev pub price : ℕ × ℕ → List ℕ
price priced = four_bytes priced.0 ++ eight_bytes priced.1

-- kind 01
unfoldable pub calendar : CalendarForm → List ℕ
calendar form =
    four_bytes form.calendar ++ (text form.zone ++ (two_bytes form.minute ++ (four_bytes form.first
    ++ (four_bytes form.last ++ list_bytes four_bytes form.holidays))))

-- kind 02
unfoldable pub close : CloseForm → List ℕ
close form = four_bytes form.calendar ++ four_bytes form.day

-- kind 03: its numbers and its name, then whether it counts, its minimums and its loads
unfoldable pub class_loads : ClassForm → List ℕ
class_loads form =
    flag form.counts ++ (eight_bytes form.first_min ++ (eight_bytes form.later_min
    ++ (list_bytes bracket form.front ++ list_bytes two_bytes form.deferred)))

unfoldable pub class : ClassForm → List ℕ
class form =
    four_bytes form.class ++ (four_bytes form.calendar ++ (four_bytes form.fund ++ (text form.name
    ++ (four_bytes form.family ++ class_loads form))))

-- kind 04
unfoldable pub dealer : DealerForm → List ℕ
dealer form = four_bytes form.dealer ++ (text form.key ++ four_bytes form.window)

-- kind 05
unfoldable pub household : HouseholdForm → List ℕ
household form = four_bytes form.household ++ text form.key

-- kind 06
unfoldable pub account : AccountForm → List ℕ
account form = four_bytes form.account ++ (four_bytes form.household ++ (four_bytes form.dealer ++ text form.name))

-- kind 07
unfoldable pub accepted_order : Placed → List ℕ
accepted_order row =
    four_bytes row.order.account ++ (eight_bytes row.order.ref_no ++ (flag (is_dealers row.source)
    ++ (eight_bytes row.receipt ++ (eight_bytes row.due ++ body row.order.body))))

-- kind 08
unfoldable pub cancel : CancelForm → List ℕ
cancel form = four_bytes form.account ++ (eight_bytes form.ref_no ++ eight_bytes form.target)

-- kind 09
unfoldable pub sheet : SheetForm → List ℕ
sheet form = four_bytes form.calendar ++ (eight_bytes form.moment ++ list_bytes price form.prices)

-- kind 0a
unfoldable pub dividend : DividendForm → List ℕ
dividend form = four_bytes form.class ++ (eight_bytes form.moment ++ eight_bytes form.rate)

-- kind 0b
unfoldable pub fix_price : FixPriceForm → List ℕ
fix_price form =
    eight_bytes form.fix ++ (bearer form.bearer ++ (four_bytes form.class ++ (eight_bytes form.moment ++ eight_bytes form.nav)))

-- kind 0c
unfoldable pub fix_rate : FixRateForm → List ℕ
fix_rate form =
    eight_bytes form.fix ++ (bearer form.bearer ++ (four_bytes form.class ++ (eight_bytes form.moment ++ eight_bytes form.rate)))

-- kinds 0d and 0e
unfoldable pub entry : EntryForm → List ℕ
entry form =
    eight_bytes form.fix ++ (bearer form.bearer ++ (four_bytes form.order.account ++ (eight_bytes form.order.ref_no
    ++ (eight_bytes form.receipt ++ body form.order.body))))

-- kind 0f
unfoldable pub void : VoidForm → List ℕ
void form = eight_bytes form.fix ++ (bearer form.bearer ++ (four_bytes form.account ++ eight_bytes form.ref_no))

abbrev pub kind_number : EventKind → ℕ
kind_number (EventKind.Calendar form) = 1
kind_number (EventKind.Close form) = 2
kind_number (EventKind.Class form) = 3
kind_number (EventKind.Dealer form) = 4
kind_number (EventKind.Household form) = 5
kind_number (EventKind.Account form) = 6
kind_number (EventKind.Order row) = 7
kind_number (EventKind.Cancel form) = 8
kind_number (EventKind.Sheet form) = 9
kind_number (EventKind.Dividend form) = 10
kind_number (EventKind.FixPrice form) = 11
kind_number (EventKind.FixRate form) = 12
kind_number (EventKind.Enter form) = 13
kind_number (EventKind.Replace form) = 14
kind_number (EventKind.Void form) = 15

abbrev pub fields : EventKind → List ℕ
fields (EventKind.Calendar form) = calendar form
fields (EventKind.Close form) = close form
fields (EventKind.Class form) = class form
fields (EventKind.Dealer form) = dealer form
fields (EventKind.Household form) = household form
fields (EventKind.Account form) = account form
fields (EventKind.Order row) = accepted_order row
fields (EventKind.Cancel form) = cancel form
fields (EventKind.Sheet form) = sheet form
fields (EventKind.Dividend form) = dividend form
fields (EventKind.FixPrice form) = fix_price form
fields (EventKind.FixRate form) = fix_rate form
fields (EventKind.Enter form) = entry form
fields (EventKind.Replace form) = entry form
fields (EventKind.Void form) = void form

unfoldable pub event_row : Event → List ℕ
event_row event =
    one_byte 1 ++ (one_byte (kind_number event.kind) ++ (eight_bytes event.moment ++ fields event.kind))

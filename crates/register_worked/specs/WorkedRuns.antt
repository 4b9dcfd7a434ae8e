-- Whole scripts as examples: what is written in a row of a script, and the line that it gets. Most stand behind one
-- preamble: a calendar of New York, four classes, a dealer, two households and their accounts. Some have a calendar with
-- few pricing days in it, and some have lines of their own in its place.
use Rattle.std.specs.List.{join_with_byte, list_any}
use Rattle.std.specs.Prelude.{Bool, List, None, [], ℕ, ◌&&◌, ◌++◌, ◌+◌, ◌==◌, ◌∷◌, ◌≡◌, codes, false, filter, flat_map, if◌then◌else◌, length, map, not, replicate, suc, true, zero}
use Rattle.agent_events.specs.AnswerTexts.{day_text, list_text}
use Rattle.agent_events.specs.Events.{Event, placed_now}
use Rattle.agent_events.specs.declared.event.EventKind.{EventKind}
use Rattle.agent_events.specs.declared.order.Body.{Body}
use Rattle.agent_events.specs.declared.order.Order.{Order}
use Rattle.agent_events.specs.declared.request.ClassForm.{ClassForm}
use Rattle.agent_events.specs.declared.request.DealerForm.{DealerForm}
use Rattle.agent_events.specs.declared.request.HouseholdForm.{HouseholdForm}
use Rattle.agent_events.specs.declared.request.Request.{Request}
use Rattle.fund_calendar.specs.PricingDays.{days_from, is_priced}
use Rattle.money_units.specs.Texts.{number_text}
use Rattle.register_machine.specs.journal.Journals.{Journal}
use Rattle.register_machine.specs.journal.Views.{view}
use Rattle.register_machine.specs.pricing.PublishedTable.{empty_table}
use Rattle.agent_events.specs.declared.verdict.Caller.{Caller}
use Rattle.register_machine.specs.replay.Positions.{Position}
use Rattle.register_machine.specs.rules.Situations.{Situation, situation_at}
use Rattle.share_lots.specs.Lots.{Holding}
use Rattle.register_machine.specs.run.Scripts.{Run, batch_text, empty_run, run_from, script_items, script_text}

abbrev pub operator_key : List ℕ
operator_key = codes "op-desk000001"

-- lines with their line feeds, and a text in quotes
abbrev pub text_of : List (List ℕ) → List ℕ
text_of lines = flat_map (λ line. line ++ 10 ∷ []) lines

abbrev pub in_quotes : List ℕ → List ℕ
in_quotes text = 34 ∷ text ++ 34 ∷ []

-- a calendar of New York by its number, over a span: its first date, its last one and its holidays
abbrev pub calendar_over : List ℕ → List ℕ → List ℕ
calendar_over number span =
    codes "1719835200,op-desk000001,calendar," ++ number ++ 44 ∷ in_quotes (codes "EST5EDT,M3.2.0,M11.1.0")
    ++ codes ",16:00," ++ span

-- from 2024 to 2026, and over twelve days of July 2024, of which nine are pricing days
abbrev pub calendar_line : List ℕ
calendar_line = calendar_over (codes "1") (codes "2024-01-01,2026-12-31,2024-07-04 2024-11-28 2024-12-25")

abbrev pub days_of_july : List ℕ
days_of_july = codes "2024-07-01,2024-07-12,2024-07-04"

abbrev pub class_11 : List ℕ
class_11 =
    codes "1719835200,op-desk000001,class,11,1,1,GROWTH-A,0,1,250.00,50.00,"
    ++ codes "0.00:575 25000.00:500 50000.00:450 100000.00:350 250000.00:250 500000.00:200 1000000.00:0,"

abbrev pub class_12 : List ℕ
class_12 = codes "1719835200,op-desk000001,class,12,1,1,GROWTH-B,7,1,0.01,0.01,0.00:0,500 400 300 200 100"

abbrev pub class_13 : List ℕ
class_13 = codes "1719835200,op-desk000001,class,13,1,2,INCOME-B,7,1,0.01,0.01,0.00:0,500 400 300 200 100"

abbrev pub class_14 : List ℕ
class_14 = codes "1719835200,op-desk000001,class,14,1,3,INDEX-N,0,0,0.01,0.01,0.00:0,"

-- the lines behind the calendar, and what they get
abbrev pub openings : List (List ℕ)
openings =
    class_11 ∷ class_12 ∷ class_13 ∷ class_14
    ∷ codes "1719835200,op-desk000001,dealer,5,d-broker00005,21600"
    ∷ codes "1719835200,op-desk000001,household,1,h-mary000001"
    ∷ codes "1719835200,op-desk000001,household,2,h-omar000002"
    ∷ codes "1719835200,op-desk000001,account,101,1,0,MARY DOE"
    ∷ codes "1719835200,op-desk000001,account,102,1,0,MARY DOE IRA"
    ∷ codes "1719835200,op-desk000001,account,103,2,5,OMAR ROE" ∷ []

abbrev pub opening_answers : List (List ℕ)
opening_answers =
    codes "ok,calendar,1" ∷ codes "ok,class,11" ∷ codes "ok,class,12" ∷ codes "ok,class,13" ∷ codes "ok,class,14"
    ∷ codes "ok,dealer,5" ∷ codes "ok,household,1" ∷ codes "ok,household,2" ∷ codes "ok,account,101"
    ∷ codes "ok,account,102" ∷ codes "ok,account,103" ∷ []

-- these lines, behind the preamble, get these answers
abbrev pub Answers : List (List ℕ) → List (List ℕ) → Type 0
Answers items lines =
    script_text operator_key (text_of (calendar_line ∷ openings ++ items)) ≡ text_of (opening_answers ++ lines)

-- the same behind a preamble whose calendar has another span
abbrev pub AnswersOver : List ℕ → List (List ℕ) → List (List ℕ) → Type 0
AnswersOver span items lines =
    script_text operator_key (text_of (calendar_over (codes "1") span ∷ openings ++ items))
    ≡ text_of (opening_answers ++ lines)

abbrev pub AnswersInJuly : List (List ℕ) → List (List ℕ) → Type 0
AnswersInJuly items lines = AnswersOver days_of_july items lines

-- these lines get these answers by themselves
abbrev pub AnswersAlone : List (List ℕ) → List (List ℕ) → Type 0
AnswersAlone items lines = script_text operator_key (text_of items) ≡ text_of lines

-- lines that publish sheets too early, in part and out of turn, and then one in its turn, and what they get
abbrev pub sheet_lines : List (List ℕ)
sheet_lines =
    calendar_line
    ∷ class_14
    ∷ codes "1719835200,op-desk000001,class,24,1,3,INDEX-M,0,0,0.01,0.01,0.00:0,"
    ∷ codes "1719835200,op-desk000001,household,1,h-mary000001"
    ∷ codes "1719835200,op-desk000001,account,101,1,0,MARY DOE"
    ∷ codes "1719860000,op-desk000001,sheet,1,1719864000,14:10.00 24:10.00"
    ∷ codes "1719867600,op-desk000001,sheet,1,1719864000,14:10.00"
    ∷ codes "1719867600,op-desk000001,sheet,1,1719950400,14:10.00"
    ∷ codes "1719867600,op-desk000001,sheet,1,1719864000,14:10.00 24:10.00"
    ∷ []

abbrev pub sheet_answers : List (List ℕ)
sheet_answers =
    codes "ok,calendar,1"
    ∷ codes "ok,class,14"
    ∷ codes "ok,class,24"
    ∷ codes "ok,household,1"
    ∷ codes "ok,account,101"
    ∷ codes "no,18,1719864000"
    ∷ codes "no,13,24"
    ∷ codes "no,12,1719864000,1"
    ∷ codes "ok,sheet,1"
    ∷ []

-- the sheet of 2024-07-01: 10.00, 10.00, 20.00 and 10.00
abbrev pub first_sheet : List ℕ
first_sheet = codes "1719867600,op-desk000001,sheet,1,1719864000,11:10.00 12:10.00 13:20.00 14:10.00"

-- A calendar by its number that prices on these days alone, of those from 2024-07-01 to 2025-08-04: all other weekdays are
-- holidays.
abbrev pub is_holiday_beside : List ℕ → ℕ → Bool
is_holiday_beside days day = is_priced [] day && not (list_any (λ other. other == day) days)

abbrev pub calendar_of_days : List ℕ → List ℕ → List ℕ
calendar_of_days number days =
    calendar_over number (codes "2024-07-01,2025-08-04,")
    ++ list_text (map day_text (filter (is_holiday_beside days) (days_from 400 19905)))

-- 2024-07-01, 2024-07-02, 2025-07-01, 2025-08-01 and 2025-08-04
abbrev pub few_days : List ℕ
few_days = 19905 ∷ 19906 ∷ 20270 ∷ 20301 ∷ 20304 ∷ []

abbrev pub AnswersOnFewDays : List (List ℕ) → List (List ℕ) → Type 0
AnswersOnFewDays items lines =
    script_text operator_key (text_of (calendar_of_days (codes "1") few_days ∷ openings ++ items)) ≡ text_of (opening_answers ++ lines)

-- the line that a statement is answered by: its lines stand in quotes
abbrev pub statement_of : List ℕ → List (List ℕ) → List ℕ
statement_of account lines = codes "ok,statement," ++ account ++ 44 ∷ in_quotes (text_of lines)

-- the first so many accounts of household 1, numbered from 101 on, and what they get
abbrev pub account_item : ℕ → List ℕ
account_item n = codes "1719835200,op-desk000001,account," ++ number_text (100 + n) ++ codes ",1,0,MARY DOE " ++ number_text n

abbrev pub account_items : ℕ → List (List ℕ)
account_items count = map account_item (days_from count 1)

abbrev pub account_answers : ℕ → List (List ℕ)
account_answers count = map (λ n. codes "ok,account," ++ number_text (100 + n)) (days_from count 1)

-- the first so many calendars of one day, and what they get
abbrev pub calendar_items : ℕ → List (List ℕ)
calendar_items count = map (λ n. calendar_over (number_text n) (codes "2024-07-01,2024-07-01,")) (days_from count 1)

abbrev pub calendar_answers : ℕ → List (List ℕ)
calendar_answers count = map (λ n. codes "ok,calendar," ++ number_text n) (days_from count 1)

-- a record with all its fields in quotes, ended by carriage return and line feed
abbrev pub quoted_record : List (List ℕ) → List ℕ
quoted_record fields = join_with_byte 44 (map in_quotes fields) ++ 13 ∷ 10 ∷ []

abbrev pub record_line : List ℕ → List ℕ
record_line text = text ++ 13 ∷ 10 ∷ []

-- the run over the preamble and these lines
abbrev pub run_over : List (List ℕ) → Run
run_over items =
    run_from operator_key empty_run (script_items (text_of (calendar_line ∷ openings ++ items)))

-- a batch, sent with a key behind the preamble and these lines, gets these answers
abbrev pub BatchAnswers : List (List ℕ) → ℕ → List ℕ → List ℕ → List (List ℕ) → Type 0
BatchAnswers items now key batch lines =
    batch_text operator_key (run_over items) (record { now = now; key = key; bytes = batch }) ≡ text_of lines

-- the situation of the operator behind one event so many times
abbrev pub situation_behind_many : EventKind → ℕ → Situation
situation_behind_many kind count =
    situation_at empty_table (replicate count (record { moment = 0; kind = kind })) 0 Caller.Operator

abbrev pub some_class : ClassForm
some_class = record {
  class = 12;
  calendar = 1;
  fund = 1;
  name = codes "GROWTH-B";
  family = 0;
  counts = true;
  first_min = 1;
  later_min = 1;
  front = [];
  deferred = [];
}

abbrev pub some_dealer : DealerForm
some_dealer = record { dealer = 5; key = codes "d-broker00005"; window = 21600 }

abbrev pub some_household : HouseholdForm
some_household = record { household = 1; key = codes "h-mary000001" }

-- an account with so many cancels, and another order of an account
abbrev pub cancel_event : Event
cancel_event = record { moment = 0; kind = EventKind.Cancel (record { account = 101; ref_no = 1; target = 1 }) }

abbrev pub with_cancels : ℕ → Situation
with_cancels count = situation_at empty_table (replicate count cancel_event) 0 Caller.Operator

abbrev pub sell_all : ℕ → ℕ → Order
sell_all account ref_no = record { account = account; ref_no = ref_no; body = Body.SellAll 14 }

abbrev pub order_of : ℕ → Request
order_of account = Request.Order (sell_all account 9)

-- orders 1, 2, 3 .. of account 101, all of 2024-07-01 09:00 in New York, which are due that day
abbrev pub order_taken : ℕ → Event
order_taken ref_no = record {
  moment = 1719838800;
  kind = EventKind.Order (placed_now (sell_all 101 ref_no) 1719838800 1719864000);
}

-- so many of them, in front of later events
abbrev pub orders_taken : ℕ → List Event → List Event
orders_taken zero later = later
orders_taken (suc n) later = orders_taken n (order_taken (suc n) ∷ later)

-- a run with so many of them more, and no lines yet
abbrev pub with_orders : ℕ → Run → Run
with_orders count run =
    record { journal = run.journal ++ orders_taken count []; table = run.table; lines = [] }

-- these lines get these answers behind the preamble and so many such orders
abbrev pub AnswersWithOrders : ℕ → List (List ℕ) → List (List ℕ) → Type 0
AnswersWithOrders count items lines =
    (run_from operator_key (with_orders count (run_over [])) (script_items (text_of items))).lines
    ≡ text_of lines

-- what the operator alone may ask, with the content that it has behind a sheet of 2024-07-01
abbrev pub operator_requests : List (List ℕ)
operator_requests =
    codes "calendar,2,EST5,16:00,2024-07-01,2024-07-12," ∷ codes "close,1,2024-07-05"
    ∷ codes "class,15,1,3,INDEX-I,0,0,0.01,0.01,0.00:0," ∷ codes "dealer,6,d-second00006,0"
    ∷ codes "household,3,h-third00003" ∷ codes "account,104,1,0,MARY DOE 2"
    ∷ codes "sheet,1,1719950400,11:20.00 12:10.00 13:15.00 14:50.00" ∷ codes "dividend,12,1720036800,0.100000"
    ∷ codes "fixprice,1,fund,12,1719864000,8.00" ∷ codes "fixrate,2,fund,12,1719864000,0.100000"
    ∷ codes "enter,3,fund,1719842460,buy,101,2,12,50.00" ∷ codes "replace,4,fund,1719842400,buy,101,1,12,2000.00"
    ∷ codes "void,5,fund,101,1" ∷ codes "books" ∷ []

-- requests as items behind a moment and a key, and so many refusals for want of a right
abbrev pub requests_at : List ℕ → List (List ℕ) → List (List ℕ)
requests_at front requests = map (λ request. front ++ request) requests

abbrev pub no_rights : List (List ℕ) → List (List ℕ)
no_rights requests = map (λ request. codes "no,1") requests

-- bytes behind a byte-order mark, and lines that get these answers behind one
abbrev pub with_mark : List ℕ → List ℕ
with_mark bytes = 239 ∷ 187 ∷ 191 ∷ bytes

abbrev pub AnswersBehindMark : List (List ℕ) → List (List ℕ) → Type 0
AnswersBehindMark items lines = script_text operator_key (with_mark (text_of items)) ≡ text_of lines

-- so many records of one field
abbrev pub short_records : ℕ → List ℕ
short_records count = text_of (replicate count (codes "1"))

-- a position's lots: one of so many loose mils, which cost so many cents
abbrev pub holding_of : ℕ → ℕ → Holding
holding_of mils cents = record {
  lots = record { number = 1; day = 19905; loose = mils; held = 0; cost = cents; free = false } ∷ [];
  next_lot = 2;
}

-- and a position with these lots, whose dividends are reinvested
abbrev pub position_with : Holding → Position
position_with holding =
    record { account = 101; class = 14; holding = holding; in_cash = false; letter = None }

-- an item whose event a household sees, and one whose event it doesn't see
abbrev pub seen : List ℕ → Bool × List ℕ
seen item = (true, item)

abbrev pub hidden : List ℕ → Bool × List ℕ
hidden item = (false, item)

-- the sheet of 2024-07-01 where there is one class
abbrev pub first_price : List ℕ
first_price = codes "1719867600,op-desk000001,sheet,1,1719864000,12:10.00"

-- the journal of these items
abbrev pub journal_of : List (Bool × List ℕ) → Journal
journal_of items = (run_from operator_key empty_run (script_items (text_of (map (λ item. item.1) items)))).journal

-- of the events of these items, one each, those whose items are seen
abbrev pub events_seen : List (Bool × List ℕ) → Journal → Journal
events_seen [] journal = []
events_seen (item ∷ items) [] = []
events_seen (item ∷ items) (event ∷ events) =
    if item.0 then event ∷ events_seen items events else events_seen items events

-- each of these items brings an event, and of these the household sees those whose items are seen
pub record SeesOfARun (household : ℕ) (items : List (Bool × List ℕ)) : Type 0 where
  pub each : length (journal_of items) ≡ length items
  pub shown : view household (journal_of items) ≡ events_seen items (journal_of items)

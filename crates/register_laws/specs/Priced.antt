-- What the laws of pricing say of a lawful journal: its price table is orderly and has few sheets, an order has the sheet of
-- its due moment and one trade on it, and no correction leaves an order unfilled that was filled before.
use Rattle.register_machine.specs.pricing.OrderClasses.{class_of, target_of}
use Rattle.agent_events.specs.declared.order.Body.{Body}
use Rattle.agent_events.specs.declared.reply.Refusal.{Refusal}
use Rattle.register_machine.specs.rules.Situations.{Situation}
use Rattle.std.specs.Option.{option_map_or}
use Rattle.std.specs.Prelude.{All, AllPairs, Bool, Contains, List, None, Option, Some, [], count_by, false, filter, find, flat_map, if◌then◌else◌, is_some, length, map, option_map, option_to_list, slice_get, take, true, unwrap_or, ℕ, ◌&&◌, ◌++◌, ◌-◌, ◌<◌, ◌==◌, ◌^◌, ◌∷◌, ◌≡◌, ◌≤◌, ◌⊎◌}
use Rattle.agent_events.specs.Events.{Event}
use Rattle.agent_events.specs.declared.event.EventKind.{EventKind}
use Rattle.agent_events.specs.declared.event.Placed.{Placed}
use Rattle.agent_events.specs.declared.order.Order.{Order}
use Rattle.agent_events.specs.declared.order.OrderRow.{OrderRow}
use Rattle.agent_events.specs.declared.request.ClassForm.{ClassForm}
use Rattle.forward_price.specs.Orderly.{IsOrderly}
use Rattle.forward_price.specs.PriceTables.{AreNumbered, Table}
use Rattle.forward_price.specs.declared.price_sheet.Sheet.{Sheet}
use Rattle.fund_calendar.specs.PricingDays.{Listing, longest_span}
use Rattle.register_laws.specs.Lawful.{book_behind}
use Rattle.register_machine.specs.corrections.Payments.{bearer_in}
use Rattle.register_machine.specs.journal.Journals.{Journal, with_event}
use Rattle.register_machine.specs.pricing.CorrectedBook.{Book, book_of, due_moment, sheet_of}
use Rattle.register_machine.specs.pricing.CorrectedOrders.{row_as_sent}
use Rattle.register_machine.specs.pricing.PublishedTable.{table_of}
use Rattle.register_machine.specs.replay.Replay.{orders_on, priced_in, priced_orders, replay}
use Rattle.agent_events.specs.declared.trade.Trade.{Trade}
use Rattle.agent_events.specs.declared.trade.TradeKind.{TradeKind}
use Rattle.register_machine.specs.rules.Breaks.{breaks, is_broken, is_filled, is_trade_of, order_corrected, was_filled}
use Rattle.register_machine.specs.run.Replies.{first_reply, order_reply}

-- ---- Tables and sheets.

-- The price table is orderly, as it was published and as its prices were corrected.
pub record HasOrderlyTables (journal : Journal) : Type 0 where
  pub published : IsOrderly (table_of journal)
  pub corrected : IsOrderly (book_behind journal).table

-- The sheets are numbered 1, 2, 3 in the order of their publication.
pub record NumbersItsSheets (journal : Journal) : Type 0 where
  pub published : AreNumbered (table_of journal).sheets
  pub corrected : AreNumbered (book_behind journal).table.sheets

abbrev pub is_sheet_of : ℕ → Sheet → Bool
is_sheet_of calendar sheet = sheet.calendar == calendar

-- a calendar has no more sheets than pricing days, and these for ten years at most
pub record IsWithFewSheets (sheets : List Sheet) (calendar : Listing) : Type 0 where
  pub days : length calendar.days ≤ longest_span
  pub each_day : count_by (is_sheet_of calendar.number) sheets ≤ length calendar.days

-- the most calendars, and the most sheets: 16 calendars of 3,660 pricing days
abbrev pub most_calendars : ℕ
most_calendars = 16

abbrev pub most_sheets : ℕ
most_sheets = 58560

pub record KeepsFewSheets (table : Table) : Type 0 where
  pub calendars : length table.calendars ≤ most_calendars
  pub of_each : All (IsWithFewSheets table.sheets) table.calendars
  pub of_all : length table.sheets ≤ most_sheets
  pub in_range : length table.sheets < 2 ^ 32 - 1

pub record HasFewSheets (journal : Journal) : Type 0 where
  pub published : KeepsFewSheets (table_of journal)
  pub corrected : KeepsFewSheets (book_behind journal).table

-- ---- Orders on their sheets.

-- An order that has its sheet has the one of its due moment under the present calendars.
abbrev pub IsPricedWhenDue : Book → OrderRow → Type 0
IsPricedWhenDue book row =
    (sheet : Sheet) → sheet_of book.table.sheets row ≡ Some sheet → due_moment book row ≡ Some sheet.moment

-- the kinds of trades that an order brings, filled or not; dividends and ends of letters have none
abbrev pub is_order_kind : TradeKind → Bool
is_order_kind TradeKind.Buy = true
is_order_kind TradeKind.Sell = true
is_order_kind TradeKind.Exchange = true
is_order_kind TradeKind.Letter = true
is_order_kind TradeKind.ElectCash = true
is_order_kind TradeKind.ElectShares = true
is_order_kind TradeKind.LetterReached = false
is_order_kind TradeKind.LetterEnded = false
is_order_kind TradeKind.DividendShares = false
is_order_kind TradeKind.DividendCash = false

abbrev pub is_order_trade : ℕ → ℕ → Trade → Bool
is_order_trade account ref_no trade = is_order_kind trade.kind && is_trade_of account ref_no trade

-- the sheets on which an order is traded, by their numbers
abbrev pub sheets_traded : List Trade → Order → List ℕ
sheets_traded trades order =
    map (λ trade. trade.sheet) (filter (is_order_trade order.account order.ref_no) trades)

-- the sheet on which an order is to be traded: that of its next price, and none where it is struck or pending
abbrev pub number_due : Book → OrderRow → Option ℕ
number_due book row = if row.struck then None else (priced_in book.table.sheets row).sheet

-- An order is traded once, on its sheet, and while it is pending or struck never.
abbrev pub IsTradedOnItsSheet : Book → OrderRow → Type 0
IsTradedOnItsSheet book row = sheets_traded (replay book).trades row.order ≡ option_to_list (number_due book row)

-- So its trade is found by its account and reference.
abbrev pub sheet_found : List Trade → Order → Option ℕ
sheet_found trades order = option_map (λ trade. trade.sheet) (find (is_trade_of order.account order.ref_no) trades)

abbrev pub IsFoundOnItsSheet : Book → OrderRow → Type 0
IsFoundOnItsSheet book row =
    0 < row.order.ref_no → sheet_found (replay book).trades row.order ≡ number_due book row

-- All orders of a book are traded so.
pub record TradesOrdersOnce (book : Book) : Type 0 where
  pub traded : All (IsTradedOnItsSheet book) book.orders
  pub found : All (IsFoundOnItsSheet book) book.orders

-- the kind of trade that an order brings
abbrev pub kind_of : Body → TradeKind
kind_of (Body.Buy class gross) = TradeKind.Buy
kind_of (Body.Sell class mils) = TradeKind.Sell
kind_of (Body.SellCash class amount) = TradeKind.Sell
kind_of (Body.SellAll class) = TradeKind.Sell
kind_of (Body.Exchange class to mils) = TradeKind.Exchange
kind_of (Body.ExchangeAll class to) = TradeKind.Exchange
kind_of (Body.Letter class amount) = TradeKind.Letter
kind_of (Body.Elect class in_cash) = if in_cash then TradeKind.ElectCash else TradeKind.ElectShares

-- what a trade says of its sheet and its order, whatever its numbers
pub record OrderTraded : Type 0 where
  pub sheet : ℕ
  pub moment : ℕ
  pub day : ℕ
  pub account : ℕ
  pub ref_no : ℕ
  pub kind : TradeKind
  pub class : ℕ
  pub to_class : ℕ

abbrev pub order_traded : Trade → OrderTraded
order_traded trade = record {
  sheet = trade.sheet;
  moment = trade.moment;
  day = trade.day;
  account = trade.account;
  ref_no = trade.ref_no;
  kind = trade.kind;
  class = trade.class;
  to_class = trade.to_class;
}

abbrev pub traded_as : Sheet → Order → TradeKind → OrderTraded
traded_as sheet order kind = record {
  sheet = sheet.number;
  moment = sheet.moment;
  day = sheet.day;
  account = order.account;
  ref_no = order.ref_no;
  kind = kind;
  class = class_of order.body;
  to_class = unwrap_or (target_of order.body) 0;
}

abbrev pub row_traded : Sheet → OrderRow → OrderTraded
row_traded sheet row = traded_as sheet row.order (kind_of row.order.body)

-- The trades of orders are those of each sheet in its order, and on a sheet those of its orders in turn.
abbrev pub TradesFollowOrders : Book → Type 0
TradesFollowOrders book =
    map order_traded (filter (λ trade. is_order_kind trade.kind) (replay book).trades)
    ≡ flat_map (λ sheet. map (row_traded sheet) (orders_on (priced_orders book) sheet)) book.table.sheets

-- One order goes before another where it was received before it, or with it and placed before.
abbrev pub GoesBefore : OrderRow → OrderRow → Type 0
GoesBefore row other =
    (row.receipt < other.receipt) ⊎ ((row.receipt ≡ other.receipt) × (row.place < other.place))

-- Each sheet executes its orders so.
pub record ExecutesInTurn (book : Book) : Type 0 where
  pub each : (sheet : Sheet) → AllPairs GoesBefore (orders_on (priced_orders book) sheet)

-- ---- Due moments.

-- The order that an event places, as it stands behind the events before it: not struck, as it was sent.
abbrev pub row_placed : Journal → Placed → OrderRow
row_placed journal placed = row_as_sent (length journal) placed.receipt placed.order

-- An order is accepted with its due moment, which its reply says; it stands in the book behind its event, with the same one.
pub record IsDueAsReplied (journal : Journal) (placed : Placed) (event : Event) : Type 0 where
  pub due : due_moment (book_behind journal) (row_placed journal placed) ≡ Some placed.due
  pub replied : first_reply journal event ≡ order_reply placed
  pub stands : (book_behind (with_event journal event)).orders
      ≡ (book_behind journal).orders ++ row_placed journal placed ∷ []
  pub still_due : due_moment (book_behind (with_event journal event)) (row_placed journal placed) ≡ Some placed.due

pub record RepliesItsDueMoment (journal : Journal) (event : Event) : Type 0 where
  pub of_order : (placed : Placed) → event.kind ≡ EventKind.Order placed → IsDueAsReplied journal placed event

-- the classes of a family other than 0 have one calendar
abbrev pub AreOfOneCalendar : ClassForm → ClassForm → Type 0
AreOfOneCalendar class other =
    class.family ≡ other.family → (class.family ≡ 0 → ⊥) → class.calendar ≡ other.calendar

pub record FamiliesAgree (classes : List ClassForm) : Type 0 where
  pub each : (class other : ClassForm) → Contains classes class → Contains classes other → AreOfOneCalendar class other

-- ---- Corrections.

-- The order of an unfilled trade was unfilled before, and it isn't the order that the correction enters or replaces.
abbrev pub is_traded_by : Option Order → Trade → Bool
is_traded_by order trade = option_map_or (λ own. is_trade_of own.account own.ref_no trade) order false

pub record WasUnfilled (event : Event) (before : List Trade) (trade : Trade) : Type 0 where
  pub was_unfilled : was_filled before trade ≡ false
  pub not_corrected : is_traded_by (order_corrected event.kind) trade ≡ false

abbrev pub LeavesFilled : Event → List Trade → Trade → Type 0
LeavesFilled event before trade = is_filled trade.outcome ≡ false → WasUnfilled event before trade

-- Behind a correction no order is unfilled that was filled before, nor one that it enters or replaces.
pub record LeavesOrdersFilled (journal : Journal) (event : Event) : Type 0 where
  pub of_correction : is_some (bearer_in event.kind) ≡ true
      → All (LeavesFilled event (replay (book_behind journal)).trades)
      (replay (book_behind (with_event journal event))).trades

-- The first trade that a correction would break, in the order of execution.
pub record IsFirstBroken (order : Option Order) (before after : List Trade) (account ref_no : ℕ) : Type 0 where
  pub place : ℕ
  pub trade : Trade
  pub there : slice_get after place ≡ Some trade
  pub account_is : trade.account ≡ account
  pub ref_no_is : trade.ref_no ≡ ref_no
  pub broken : is_broken order before trade ≡ true
  pub first : All (λ other. is_broken order before other ≡ false) (take place after)

-- A correction that is refused for what it would break is answered with the order of the first broken trade.
abbrev pub BreaksFirst : Situation → Event → ℕ → ℕ → Type 0
BreaksFirst situation event account ref_no =
    breaks situation event ≡ Some (Refusal.Breaks account ref_no)
    → IsFirstBroken (order_corrected event.kind) (replay situation.book).trades
    (replay (book_of situation.book.table (with_event situation.journal event))).trades account ref_no

-- only an order's trade is ever unfilled
abbrev pub IsOfAnOrder : Trade → Type 0
IsOfAnOrder trade = is_filled trade.outcome ≡ false → is_order_kind trade.kind ≡ true

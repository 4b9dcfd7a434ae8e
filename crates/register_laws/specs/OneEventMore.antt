-- What one event more does to what a journal says: to the price table, the corrected prices, the orders as corrected, the
-- dividend rates, what is gathered by kinds, the payments, and a household's view.
use Rattle.register_machine.specs.pricing.CorrectedOrders.{is_named}
use Rattle.std.specs.List.{list_any}
use Rattle.std.specs.Option.{option_map_or}
use Rattle.std.specs.Prelude.{Bool, List, None, Option, Some, [], false, if◌then◌else◌, length, map, not, option_to_list, true, ℕ, ◌&&◌, ◌++◌, ◌==◌, ◌∷◌, ◌≡◌}
use Rattle.agent_events.specs.Events.{Event}
use Rattle.agent_events.specs.Fields.{moment, rates}
use Rattle.agent_events.specs.declared.event.EventKind.{EventKind}
use Rattle.agent_events.specs.declared.order.Order.{Order}
use Rattle.agent_events.specs.declared.order.OrderRow.{OrderRow}
use Rattle.agent_events.specs.declared.request.EntryForm.{EntryForm}
use Rattle.agent_events.specs.declared.request.FixPriceForm.{FixPriceForm}
use Rattle.agent_events.specs.declared.request.SheetForm.{SheetForm}
use Rattle.forward_price.specs.PriceTables.{Table, with_correction, with_sheets}
use Rattle.forward_price.specs.Sheets.{lists_class}
use Rattle.register_laws.specs.Lawful.{book_behind}
use Rattle.register_machine.specs.corrections.Payments.{bearer_in, payments_for, payments_of}
use Rattle.register_machine.specs.journal.Journals.{Journal, with_event}
use Rattle.register_machine.specs.journal.Kinds.{account_in, accounts_of, calendar_in, class_in, closure_in, dealer_in, each_in, household_in, price_fix_in, replacement_in, sheet_in}
use Rattle.register_machine.specs.journal.Lawful.{IsLawful}
use Rattle.register_machine.specs.journal.Views.{is_seen_by, view}
use Rattle.register_machine.specs.pricing.CorrectedBook.{Book}
use Rattle.register_machine.specs.pricing.CorrectedOrders.{is_struck, orders_of, replaces, row_as_sent, struck_in}
use Rattle.register_machine.specs.pricing.CorrectedPrices.{sheet_as_corrected, table_as_corrected}
use Rattle.register_machine.specs.pricing.DividendRates.{Rates, rates_of}
use Rattle.register_machine.specs.pricing.PublishedTable.{table_after, table_by, table_of}
use Rattle.register_machine.specs.rules.NamedThings.{lists_at}

-- ---- The price table.

abbrev pub TableGoesOn : Journal → Event → Type 0
TableGoesOn journal event = table_of (with_event journal event) ≡ table_after (table_of journal) event

-- ---- The table with its corrected prices.

abbrev pub corrected_table : Journal → Table
corrected_table journal = table_as_corrected journal (table_of journal)

-- a corrected price changes the sheets of its moment alone, and there its class alone
abbrev pub with_price_fixed : FixPriceForm → Table → Table
with_price_fixed form table = with_sheets table (map (sheet_as_corrected (form ∷ [])) table.sheets)

abbrev pub corrected_table_by : Table → ℕ → EventKind → Table
corrected_table_by table moment (EventKind.FixPrice form) = with_price_fixed form table
corrected_table_by table moment kind = table_by table moment kind

-- no price of the sheet was corrected before it is published
abbrev pub fixes_sheet : SheetForm → FixPriceForm → Bool
fixes_sheet sheet fix = sheet.moment == fix.moment && lists_class sheet.prices fix.class

abbrev pub is_unfixed : Journal → EventKind → Bool
is_unfixed journal (EventKind.Sheet form) = not (list_any (fixes_sheet form) (each_in price_fix_in journal))
is_unfixed journal _ = true

abbrev pub CorrectedTableGoesOn : Journal → Event → Type 0
CorrectedTableGoesOn journal event =
    is_unfixed journal event.kind ≡ true
    → corrected_table (with_event journal event) ≡ corrected_table_by (corrected_table journal) event.moment event.kind

-- ---- The orders as corrected.

-- an order that is struck, and one with the receipt and the content of its replacement
abbrev pub struck_by : ℕ × ℕ → OrderRow → OrderRow
struck_by named row =
    if is_named named.0 named.1 row.order
    then record { place = row.place; receipt = row.receipt; struck = true; order = row.order }
    else row

abbrev pub replaced_by : EntryForm → OrderRow → OrderRow
replaced_by form row =
    if replaces row.order form
    then record { place = row.place; receipt = form.receipt; struck = row.struck; order = form.order }
    else row

-- An order and an entered order come behind the others; a cancel and a void strike the order that they name, and a
-- replacement gives it another receipt and content.
abbrev pub orders_after : ℕ → List OrderRow → EventKind → List OrderRow
orders_after place rows (EventKind.Order placed) = rows ++ row_as_sent place placed.receipt placed.order ∷ []
orders_after place rows (EventKind.Enter form) = rows ++ row_as_sent place form.receipt form.order ∷ []
orders_after place rows (EventKind.Cancel form) = map (struck_by (form.account, form.target)) rows
orders_after place rows (EventKind.Void form) = map (struck_by (form.account, form.ref_no)) rows
orders_after place rows (EventKind.Replace form) = map (replaced_by form) rows
orders_after place rows _ = rows

-- no strike and no replacement before names the order that the event begins
abbrev pub is_untouched : Journal → Order → Bool
is_untouched journal order =
    not (is_struck (each_in struck_in journal) order)
    && not (list_any (replaces order) (each_in replacement_in journal))

abbrev pub begins_untouched : Journal → EventKind → Bool
begins_untouched journal (EventKind.Order placed) = is_untouched journal placed.order
begins_untouched journal (EventKind.Enter form) = is_untouched journal form.order
begins_untouched journal _ = true

abbrev pub OrdersGoOn : Journal → Event → Type 0
OrdersGoOn journal event =
    begins_untouched journal event.kind ≡ true
    → orders_of (with_event journal event) ≡ orders_after (length journal) (orders_of journal) event.kind

-- ---- The dividend rates.

abbrev pub rates_after : Rates → EventKind → Rates
rates_after rates (EventKind.Dividend form) = record { declared = rates.declared ++ form ∷ []; fixed = rates.fixed }
rates_after rates (EventKind.FixRate form) = record { declared = rates.declared; fixed = rates.fixed ++ form ∷ [] }
rates_after rates _ = rates

abbrev pub RatesGoOn : Journal → Event → Type 0
RatesGoOn journal event = rates_of (with_event journal event) ≡ rates_after (rates_of journal) event.kind

-- ---- What is gathered by kinds: each comes behind the others of its kind.

abbrev pub GathersOn : {X : Type 0} → (EventKind → Option X) → Journal → Event → Type 0
GathersOn chosen journal event =
    each_in chosen (with_event journal event) ≡ each_in chosen journal ++ option_to_list (chosen event.kind)

pub record KindsGoOn (journal : Journal) (event : Event) : Type 0 where
  pub calendars : GathersOn calendar_in journal event
  pub closures : GathersOn closure_in journal event
  pub classes : GathersOn class_in journal event
  pub dealers : GathersOn dealer_in journal event
  pub households : GathersOn household_in journal event
  pub accounts : GathersOn account_in journal event
  pub sheets : GathersOn sheet_in journal event

-- ---- The payments of corrections.

abbrev pub PaymentsGoOn : Journal → Event → Type 0
PaymentsGoOn journal event =
    payments_of (with_event journal event)
    ≡ payments_of journal ++ payments_for (bearer_in event.kind) (table_of journal) journal event

-- ---- A household's view.

-- the account that an event is about
abbrev pub account_named : EventKind → Option ℕ
account_named (EventKind.Order placed) = Some placed.order.account
account_named (EventKind.Cancel form) = Some form.account
account_named (EventKind.Enter form) = Some form.order.account
account_named (EventKind.Replace form) = Some form.order.account
account_named (EventKind.Void form) = Some form.account
account_named _ = None

abbrev pub is_about : ℕ → Event → Bool
is_about number event = option_map_or (λ own. own == number) (account_named event.kind) false

-- no event before is about the account that is opened
abbrev pub opens_untouched : Journal → EventKind → Bool
opens_untouched journal (EventKind.Account form) = not (list_any (is_about form.account) journal)
opens_untouched journal _ = true

-- What everybody sees and what is the household's own comes behind what it saw; anything else it doesn't see.
abbrev pub ViewGoesOn : ℕ → Journal → Event → Type 0
ViewGoesOn household journal event =
    opens_untouched journal event.kind ≡ true
    → view household (with_event journal event)
    ≡ view household journal ++ (if is_seen_by (accounts_of journal) household event then event ∷ [] else [])

-- ---- Every event of a lawful journal begins, opens and prices what nothing touched before.

-- so orders and views of a lawful journal go on by each of its events
pub record BeginsAnew (journal : Journal) (event : Event) : Type 0 where
  pub begins : begins_untouched journal event.kind ≡ true
  pub opens : opens_untouched journal event.kind ≡ true
  pub orders : orders_of (with_event journal event) ≡ orders_after (length journal) (orders_of journal) event.kind
  pub views : (household : ℕ) → view household (with_event journal event) ≡ view household journal ++ (if is_seen_by (accounts_of journal) household event then event ∷ [] else [])

abbrev pub LawfulBeginsAnew : Journal → Event → Type 0
LawfulBeginsAnew journal event = IsLawful (with_event journal event) → BeginsAnew journal event

-- and so do its corrected prices
pub record PricesAnew (journal : Journal) (event : Event) : Type 0 where
  pub unfixed : is_unfixed journal event.kind ≡ true
  pub table : corrected_table (with_event journal event) ≡ corrected_table_by (corrected_table journal) event.moment event.kind

abbrev pub LawfulPricesAnew : Journal → Event → Type 0
LawfulPricesAnew journal event = IsLawful (with_event journal event) → PricesAnew journal event

-- ---- The corrected book of a lawful journal, by each of its events.

-- behind so many events
abbrev pub book_after : ℕ → Book → ℕ → EventKind → Book
book_after place book moment kind = record {
  table = corrected_table_by book.table moment kind;
  classes = book.classes ++ option_to_list (class_in kind);
  accounts = book.accounts ++ option_to_list (account_in kind);
  orders = orders_after place book.orders kind;
  rates = rates_after book.rates kind;
}

-- The event touches nothing that was changed before it: an order that it begins, and the prices of a sheet that it publishes.
pub record TouchesNothing (journal : Journal) (event : Event) : Type 0 where
  pub begins : begins_untouched journal event.kind ≡ true
  pub unfixed : is_unfixed journal event.kind ≡ true

-- So the book goes on by an event that isn't judged yet, too.
abbrev pub BookGoesOn : Journal → Event → Type 0
BookGoesOn journal event =
    TouchesNothing journal event
    → book_behind (with_event journal event) ≡ book_after (length journal) (book_behind journal) event.moment event.kind

abbrev pub LawfulBookGoesOn : Journal → Event → Type 0
LawfulBookGoesOn journal event =
    IsLawful (with_event journal event)
    → book_behind (with_event journal event) ≡ book_after (length journal) (book_behind journal) event.moment event.kind

-- A corrected price is that of one sheet, by its number, in a lawful journal.
pub record FixesOnePrice (journal : Journal) (form : FixPriceForm) (number : ℕ) : Type 0 where
  pub listed : list_any (λ sheet. sheet.number == number && lists_at form.class form.moment sheet) (corrected_table journal).sheets ≡ true
  pub table : with_price_fixed form (corrected_table journal) ≡ with_correction (corrected_table journal) form.class number form.nav

abbrev pub LawfulFixesOnePrice : Journal → Event → Type 0
LawfulFixesOnePrice journal event =
    IsLawful (with_event journal event)
    → (form : FixPriceForm) → event.kind ≡ EventKind.FixPrice form → (number : ℕ) × FixesOnePrice journal form number

-- A household's orders under the numbers of their sheets, and a sheet's orders under the numbers of their households.
use Rattle.std.specs.List.{filter_map}
use Rattle.std.specs.Prelude.{AllPairs, List, Option, filter, flat_map, map, option_map, ℕ, ◌≡◌, ◌≤◌}
use Rattle.agent_events.specs.declared.order.Order.{Order}
use Rattle.agent_events.specs.declared.order.OrderRow.{OrderRow}
use Rattle.agent_events.specs.declared.request.AccountForm.{AccountForm}
use Rattle.forward_price.specs.PriceTables.{AreNumbered}
use Rattle.forward_price.specs.declared.price_sheet.Sheet.{Sheet}
use Rattle.checkpoint_replay.specs.Replays.{NumberedOrder, orders_under}
use Rattle.ledger_laws.specs.PartsByFacts.{AreRowsOf, orders_of_part}
use Rattle.register_laws.specs.Households.{own_orders}
use Rattle.register_machine.specs.journal.Kinds.{household_of}
use Rattle.register_machine.specs.pricing.CorrectedBook.{Book}
use Rattle.register_machine.specs.pricing.CorrectedOrders.{stands}
use Rattle.register_machine.specs.replay.Replay.{all_in_turn, orders_on, priced_in, priced_orders}

-- the order of a row under a number
abbrev pub order_under : OrderRow → ℕ → NumberedOrder
order_under row number = record { number = number; order = row.order }

-- ---- By sheets.

-- under the sheet that prices it, where there is one
abbrev pub under_its_sheet : List Sheet → OrderRow → Option NumberedOrder
under_its_sheet sheets row = option_map (order_under row) (priced_in sheets row).sheet

-- the standing orders of a household that are priced, in turn
abbrev pub rows_of_part : Book → ℕ → List NumberedOrder
rows_of_part book household =
    filter_map (under_its_sheet book.table.sheets)
    (all_in_turn (own_orders book.accounts household (filter stands book.orders)))

-- They are the household's orders on each sheet.
abbrev pub RowsOfPartAreItsOrders : Book → ℕ → Type 0
RowsOfPartAreItsOrders book household =
    AreNumbered book.table.sheets → AreRowsOf (rows_of_part book household) book household

-- Or sheet by sheet: those on each sheet in turn, under its number.
abbrev pub under_number : ℕ → Order → NumberedOrder
under_number number order = record { number = number; order = order }

abbrev pub rows_on_sheet : Book → ℕ → Sheet → List NumberedOrder
rows_on_sheet book household sheet = map (under_number sheet.number) (orders_of_part book household sheet)

abbrev pub rows_sheet_by_sheet : Book → ℕ → List NumberedOrder
rows_sheet_by_sheet book household = flat_map (rows_on_sheet book household) book.table.sheets

-- They are the household's orders on each sheet too, and their numbers never fall.
pub record StandSheetBySheet (book : Book) (household : ℕ) : Type 0 where
  pub are : AreRowsOf (rows_sheet_by_sheet book household) book household
  pub rise : AllPairs (λ row other. row.number ≤ other.number) (rows_sheet_by_sheet book household)

abbrev pub RowsStandSheetBySheet : Book → ℕ → Type 0
RowsStandSheetBySheet book household = AreNumbered book.table.sheets → StandSheetBySheet book household

-- ---- By households.

-- under the household of its account
abbrev pub under_its_household : List AccountForm → OrderRow → Option NumberedOrder
under_its_household accounts row = option_map (order_under row) (household_of accounts row.order.account)

-- the orders of a sheet, in turn
abbrev pub rows_of_sheet : Book → Sheet → List NumberedOrder
rows_of_sheet book sheet = filter_map (under_its_household book.accounts) (orders_on (priced_orders book) sheet)

-- They are each household's orders on the sheet.
abbrev pub RowsOfSheetAreOfHouseholds : Book → Sheet → ℕ → Type 0
RowsOfSheetAreOfHouseholds book sheet household =
    orders_under household (rows_of_sheet book sheet) ≡ orders_of_part book household sheet

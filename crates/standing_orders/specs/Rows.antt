-- The rows of a book of orders: whose they are, and which of them wait for a price.
use Rattle.std.specs.List.{slice_get}
use Rattle.std.specs.Option.{option_map_or}
use Rattle.std.specs.Prelude.{Bool, List, Option, Some, false, is_none, map, nat_le, not, option_map, true, ℕ, ◌&&◌, ◌==◌, ◌||◌, ◌≡◌}
use Rattle.agent_events.specs.declared.order.OrderRow.{OrderRow}
use Rattle.agent_events.specs.declared.request.AccountForm.{AccountForm}
use Rattle.forward_price.specs.PriceTables.{prices_order, sheet_numbered}
use Rattle.forward_price.specs.declared.price_sheet.Sheet.{Sheet}
use Rattle.register_machine.specs.journal.Kinds.{household_of}
use Rattle.register_machine.specs.pricing.CorrectedBook.{sheet_of}
use Rattle.register_machine.specs.pricing.CorrectedOrders.{stands}
use Rattle.register_machine.specs.pricing.OrderClasses.{classes_in}
use Rattle.standing_orders.specs.Places.{is_among}

-- the households are those of the rows' accounts, in turn
abbrev pub AreOwners : List AccountForm → List OrderRow → List ℕ → Type 0
AreOwners accounts rows owners = map (λ row. household_of accounts row.order.account) rows ≡ map Some owners

-- the order is of this household
abbrev pub is_owner : ℕ → ℕ → Bool
is_owner household owner = owner == household

-- the number of the sheet that prices an order
abbrev pub sheet_number : List Sheet → OrderRow → Option ℕ
sheet_number sheets row = option_map (λ sheet. sheet.number) (sheet_of sheets row)

-- the order stands, and no sheet prices it yet
abbrev pub waits : List Sheet → OrderRow → Bool
waits sheets row = stands row && is_none (sheet_number sheets row)

-- the order is struck, or a sheet up to the one of this number prices it
abbrev pub is_settled : List Sheet → ℕ → OrderRow → Bool
is_settled sheets number row =
    not (stands row) || option_map_or (λ own. nat_le own number) (sheet_number sheets row) false

-- the sheet lists the classes of an order, and its moment is greater than the receipt
abbrev pub could_price : Sheet → OrderRow → Bool
could_price sheet row = prices_order (classes_in row.order.body) row.receipt sheet

-- the sheet of this number could price an order
abbrev pub is_within : ℕ → List Sheet → OrderRow → Bool
is_within number sheets row = option_map_or (λ sheet. could_price sheet row) (sheet_numbered sheets number) false

-- the order stands, and the sheet of this number could price it, or couldn't
abbrev pub is_taken : ℕ → List Sheet → OrderRow → Bool
is_taken number sheets row = stands row && is_within number sheets row

abbrev pub stays : ℕ → List Sheet → OrderRow → Bool
stays number sheets row = stands row && not (is_within number sheets row)

-- every row that passes is among the places
abbrev pub HasEach : (OrderRow → Bool) → List OrderRow → List ℕ → Type 0
HasEach test rows places =
    (place : ℕ) (row : OrderRow) → slice_get rows place ≡ Some row → test row ≡ true → is_among places place ≡ true

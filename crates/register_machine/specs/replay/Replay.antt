-- The replay: the register is what all sheets of the corrected book do in turn, from the empty register on.
use Rattle.std.specs.Option.{option_map_or}
use Rattle.std.specs.Prelude.{Bool, List, Option, [], ℕ, ◌++◌, ◌==◌, ◌∷◌, false, filter, fold, map, nat_le, nat_lt, option_map, take}
use Rattle.agent_events.specs.declared.order.OrderRow.{OrderRow}
use Rattle.forward_price.specs.declared.price_sheet.Sheet.{Sheet}
use Rattle.register_machine.specs.pricing.CorrectedBook.{Book, sheet_of}
use Rattle.register_machine.specs.pricing.CorrectedOrders.{stands}
use Rattle.register_machine.specs.replay.DayStep.{day_step}
use Rattle.register_machine.specs.replay.Trades.{Day}

-- an order with the number of the sheet that prices it, where there is one
pub record Priced : Type 0 where
  pub row : OrderRow
  pub sheet : Option ℕ

abbrev pub priced_in : List Sheet → OrderRow → Priced
priced_in sheets row = record { row = row; sheet = option_map (λ sheet. sheet.number) (sheet_of sheets row) }

-- the standing orders, priced
abbrev pub priced_orders : Book → List Priced
priced_orders book = map (priced_in book.table.sheets) (filter stands book.orders)

abbrev pub is_priced_on : ℕ → Priced → Bool
is_priced_on number priced = option_map_or (λ sheet. sheet == number) priced.sheet false

-- The order of execution: by receipt, and at equal receipts by place in the journal. Rows come by place, so a row goes in behind
-- those that were received before it or when it was.
abbrev pub in_turn : OrderRow → List OrderRow → List OrderRow
in_turn row rows =
    filter (λ other. nat_le other.receipt row.receipt) rows ++ row ∷ filter (λ other. nat_lt row.receipt other.receipt) rows

abbrev pub all_in_turn : List OrderRow → List OrderRow
all_in_turn rows = fold (λ ordered row. in_turn row ordered) [] rows

-- the orders of one sheet, in turn
abbrev pub orders_on : List Priced → Sheet → List OrderRow
orders_on priced sheet = all_in_turn (map (λ order. order.row) (filter (is_priced_on sheet.number) priced))

abbrev pub day_after_sheet : Book → List Priced → Day → Sheet → Day
day_after_sheet book priced day sheet = day_step book sheet (orders_on priced sheet) day

abbrev pub first_day : Day
first_day = record { register = []; trades = [] }

-- the register and all trades after so many sheets
abbrev pub replay_over : Book → List Sheet → Day
replay_over book sheets = fold (day_after_sheet book (priced_orders book)) first_day sheets

unfoldable pub replay : Book → Day
replay book = replay_over book book.table.sheets

-- the replay up to a sheet
abbrev pub replay_to : Book → ℕ → Day
replay_to book number = replay_over book (take number book.table.sheets)

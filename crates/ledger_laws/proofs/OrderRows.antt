-- Orders under the numbers of their sheets, or of their households, are those on a sheet, or of a household.
use Rattle.std.proofs.Common.{Bool, List, None, Option, Some, [], ap, cond, false, filter, get_or, map, option_map, refl, sym, true, ℕ, ◌+◌, ◌==◌, ◌∙◌, ◌∷◌, ◌≡◌}
use Rattle.std.specs.List.{cons_option, filter_map}
use Rattle.std.specs.Option.{option_map_or}
use Rattle.agent_events.specs.declared.order.Order.{Order}
use Rattle.agent_events.specs.declared.order.OrderRow.{OrderRow}
use Rattle.forward_price.specs.declared.price_sheet.Sheet.{Sheet}
use Rattle.household_fold.specs.Households.{orders_of}
use Rattle.checkpoint_replay.specs.Replays.{NumberedOrder, orders_under}
use Rattle.ledger_laws.specs.OrderRows.{RowsOfPartAreItsOrders, RowsOfSheetAreOfHouseholds, order_under}
use Rattle.register_laws.proofs.ListParts.{filter-swap}
use Rattle.register_laws.proofs.OrdersStanding.{orders-standing}
use Rattle.register_laws.proofs.TurnsFiltered.{turns-filter}
use Rattle.register_laws.specs.Households.{is_of_household, is_own_row}
use Rattle.register_machine.specs.journal.Kinds.{household_of}
use Rattle.register_machine.specs.pricing.CorrectedBook.{Book}
use Rattle.register_machine.specs.pricing.CorrectedOrders.{stands}
use Rattle.register_machine.specs.replay.Replay.{all_in_turn, is_priced_on, orders_on, priced_in, priced_orders}

-- ---- orders under a number

-- those under a number are those whose number it is
pub under-number : (number_of : OrderRow → Option ℕ) (number : ℕ) (rows : List OrderRow) → orders_under number (filter_map (λ row. option_map (order_under row) (number_of row)) rows) ≡ orders_of (filter (λ row. option_map_or (λ own. own == number) (number_of row) false) rows)
under-number number_of number [] = refl
under-number number_of number (row ∷ rows) =
    by (number_of row) (under-number number_of number rows)
  where
    by_number : (b : Bool) → (later : List NumberedOrder) (same : List OrderRow) → orders_under number later ≡ orders_of same → map (λ (r : NumberedOrder). r.order) (cond b (order_under row 0 ∷ filter (λ (r : NumberedOrder). r.number == number) later) (filter (λ (r : NumberedOrder). r.number == number) later)) ≡ orders_of (cond b (row ∷ same) same)
    by_number true later same is = ap (λ (orders : List Order). row.order ∷ orders) is
    by_number false later same is = is

    numbered : (own : ℕ) (b : Bool) (later : List NumberedOrder) → map (λ (r : NumberedOrder). r.order) (cond b (order_under row own ∷ filter (λ (r : NumberedOrder). r.number == number) later) (filter (λ (r : NumberedOrder). r.number == number) later)) ≡ map (λ (r : NumberedOrder). r.order) (cond b (order_under row 0 ∷ filter (λ (r : NumberedOrder). r.number == number) later) (filter (λ (r : NumberedOrder). r.number == number) later))
    numbered own true later = refl
    numbered own false later = refl

    by : (found : Option ℕ) → orders_under number (filter_map (λ r. option_map (order_under r) (number_of r)) rows) ≡ orders_of (filter (λ r. option_map_or (λ own. own == number) (number_of r) false) rows) → orders_under number (cons_option (option_map (order_under row) found) (filter_map (λ r. option_map (order_under r) (number_of r)) rows)) ≡ orders_of (cond (option_map_or (λ own. own == number) found false) (row ∷ filter (λ r. option_map_or (λ own. own == number) (number_of r) false) rows) (filter (λ r. option_map_or (λ own. own == number) (number_of r) false) rows))
    by None rest = rest
    by (Some own) rest =
        numbered own (own == number) (filter_map (λ r. option_map (order_under r) (number_of r)) rows)
        ∙ by_number (own == number) (filter_map (λ r. option_map (order_under r) (number_of r)) rows) (filter (λ r. option_map_or (λ o. o == number) (number_of r) false) rows) rest

-- ---- the orders on a sheet

pub rows_by_sheets : (book : Book) (household : ℕ) → RowsOfPartAreItsOrders book household
rows_by_sheets book household numbered = record {
  on_sheet = λ place d short.
      let sheet = get_or book.table.sheets place d in
      let own = is_own_row (is_of_household book.accounts household) in
      let standing = filter stands book.orders in
      let on : ℕ → OrderRow → Bool = λ number row. is_priced_on number (priced_in book.table.sheets row) in
      let number : sheet.number ≡ place + 1 = numbered.each place d short in
      under-number (λ row. (priced_in book.table.sheets row).sheet) (place + 1) (all_in_turn (filter own standing))
      ∙ (ap (λ n. orders_of (filter (on n) (all_in_turn (filter own standing)))) (sym number)
      ∙ (ap orders_of (turns-filter (on sheet.number) (filter own standing))
      ∙ (ap (λ rows. orders_of (all_in_turn rows)) (filter-swap (on sheet.number) own standing)
      ∙ (ap orders_of (sym (turns-filter own (filter (on sheet.number) standing)))
      ∙ ap (λ rows. orders_of (filter own rows)) (sym (orders-standing book sheet))))));
}

pub rows_by_households : (book : Book) (sheet : Sheet) (household : ℕ) → RowsOfSheetAreOfHouseholds book sheet household
rows_by_households book sheet household =
    under-number (λ row. household_of book.accounts row.order.account) household (orders_on (priced_orders book) sheet)

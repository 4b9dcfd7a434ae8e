-- The orders on a sheet are the standing ones that it prices, in turn.
use Rattle.std.proofs.Common.{List, [], ap, filter, map, refl, ◌∙◌, ◌∷◌, ◌≡◌, ℕ}
use Rattle.agent_events.specs.declared.order.OrderRow.{OrderRow}
use Rattle.forward_price.specs.declared.price_sheet.Sheet.{Sheet}
use Rattle.register_laws.proofs.ListParts.{filter-map}
use Rattle.register_machine.specs.pricing.CorrectedBook.{Book}
use Rattle.register_machine.specs.pricing.CorrectedOrders.{stands}
use Rattle.register_machine.specs.replay.Replay.{Priced, all_in_turn, is_priced_on, orders_on, priced_in, priced_orders}

-- the standing orders of a list that the sheet of a number prices
abbrev pub standing_on : List Sheet → List OrderRow → ℕ → List OrderRow
standing_on sheets orders number = filter (λ row. is_priced_on number (priced_in sheets row)) (filter stands orders)

pub orders-standing : (book : Book) (sheet : Sheet) → orders_on (priced_orders book) sheet ≡ all_in_turn (standing_on book.table.sheets book.orders sheet.number)
orders-standing book sheet =
    ap (λ priced. all_in_turn (map (λ (priced : Priced). priced.row) priced)) (filter-map (is_priced_on sheet.number) (priced_in book.table.sheets) (filter stands book.orders))
    ∙ ap all_in_turn (rows-back (standing_on book.table.sheets book.orders sheet.number))
  where
    rows-back : (rows : List OrderRow) → map (λ (priced : Priced). priced.row) (map (priced_in book.table.sheets) rows) ≡ rows
    rows-back [] = refl
    rows-back (row ∷ rows) = ap (λ rest. row ∷ rest) (rows-back rows)

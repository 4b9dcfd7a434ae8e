-- An order that has its sheet has the next price after its receipt.
use Rattle.std.proofs.Common.{All, IfSome, List, None, Some, [], filter, option_map, refl, ◌∷◌, ◌≡◌}
use Rattle.std.proofs.lemmas.List.Elements.{All-cons, All-map, All-nil}
use Rattle.agent_events.specs.declared.order.OrderRow.{OrderRow}
use Rattle.forward_price.proofs.PricingFacts.{next_sheet-next}
use Rattle.forward_price.specs.PriceTables.{IsPricedBy, next_sheet}
use Rattle.forward_price.specs.declared.price_sheet.Sheet.{Sheet}
use Rattle.register_laws.specs.Answers.{IsForwardPriced}
use Rattle.register_machine.specs.pricing.CorrectedBook.{Book}
use Rattle.register_machine.specs.pricing.CorrectedOrders.{stands}
use Rattle.register_machine.specs.pricing.OrderClasses.{classes_in}
use Rattle.register_machine.specs.replay.Replay.{priced_in, priced_orders}

forward : (sheets : List Sheet) (row : OrderRow) → IsForwardPriced sheets (priced_in sheets row)
forward sheets row =
    elim (next_sheet sheets (classes_in row.order.body) row.receipt) as (λ found. next_sheet sheets (classes_in row.order.body) row.receipt ≡ found → IfSome (option_map (λ sheet. sheet.number) found) (IsPricedBy sheets (classes_in row.order.body) row.receipt)) [
      | None ↦ λ _. tt
      | Some sheet ↦ λ e. (sheet, refl, next_sheet-next sheets (classes_in row.order.body) row.receipt sheet e)
    ] refl

pub orders_are_forward_priced : (book : Book) → All (IsForwardPriced book.table.sheets) (priced_orders book)
orders_are_forward_priced book =
    All-map (IsForwardPriced book.table.sheets) (priced_in book.table.sheets) (filter stands book.orders) (each (filter stands book.orders))
  where
    each : (rows : List OrderRow) → All (λ row. IsForwardPriced book.table.sheets (priced_in book.table.sheets row)) rows
    each [] = All-nil (λ row. IsForwardPriced book.table.sheets (priced_in book.table.sheets row))
    each (first ∷ rest) = All-cons (λ row. IsForwardPriced book.table.sheets (priced_in book.table.sheets row)) first rest (forward book.table.sheets first) (each rest)

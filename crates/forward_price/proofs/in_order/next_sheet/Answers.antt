-- That `next_sheet` keeps its contract.
use Rattle.std.proofs.Common.{◌∙◌, ap}
use Rattle.forward_price.specs.PriceTables.{next_sheet}
use Rattle.forward_price.proofs.SearchFacts.{rest_of, next_from}
use Rattle.forward_price.proofs.in_order.next_sheet.Goals as goal

pub returns : goal.returns
returns c =
    let point = c.place_after-start.ensures.point in
    c.next_behind.ensures
    ∙ ap (λ l. next_sheet l c.args.asked.now c.args.receipt) (rest_of c.place_after-start.result c.args.sheets.now)
    ∙ next_from c.args.sheets.now c.args.asked.now c.args.receipt c.place_after-start.result point

-- That `sheet_before` keeps its contract.
use Rattle.std.proofs.Common.{◌∙◌}
use Rattle.forward_price.proofs.SearchFacts.{before_within}
use Rattle.forward_price.proofs.in_order.sheet_before.Goals as goal

pub returns : goal.returns
returns c =
    let point = c.place_from-end.ensures.point in
    c.last_of.ensures
    ∙ before_within c.args.sheets.now c.args.class c.args.moment c.place_from-end.result point

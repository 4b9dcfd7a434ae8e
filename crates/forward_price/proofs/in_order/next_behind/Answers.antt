-- That `next_behind` keeps its contract.
use Rattle.std.proofs.Common.{sym, ◌∙◌, ap}
use Rattle.std.specs.Option.{option_copied}
use Rattle.forward_price.proofs.SearchFacts.{none_listed_next, next_within}
use Rattle.forward_price.proofs.in_order.next_behind.Goals as goal

pub returns-in_err-first : goal.returns-in_err-first
returns-in_err-first c =
    ap (λ r. option_copied r) c.from_residual.ensures ∙ sym (none_listed_next c.args.sheets.now c.args.asked.now c.args.receipt c.in_err-first.ensures.none)

pub returns : goal.returns
returns c =
    let point = rw c.moment_of.ensures at c.place_after-end.ensures.point in
    c.next_among.ensures
    ∙ next_within c.args.sheets.now c.args.asked.now c.args.receipt c.place_after-end.result c.in_ok-first.first.now c.in_ok-first.ensures.some.0 c.in_ok-first.ensures.some.1 c.requires.after point

-- That `last_of` keeps its contract.
use Rattle.std.proofs.Common.{sym, ◌∙◌, ap}
use Rattle.std.specs.Option.{option_copied}
use Rattle.forward_price.specs.PriceTables.{sheet_before}
use Rattle.forward_price.proofs.SearchFacts.{none_listed_before, before_from_last, rest_of}
use Rattle.forward_price.proofs.in_order.last_of.Goals as goal

pub returns-in_err-last : goal.returns-in_err-last
returns-in_err-last c =
    ap (λ r. option_copied r) c.from_residual.ensures ∙ sym (none_listed_before c.args.sheets.now c.args.class c.args.moment c.in_err-last.ensures.none)

pub returns : goal.returns
returns c =
    let point = rw c.moment_of.ensures at c.place_from-start.ensures.point in
    c.last_among.ensures
    ∙ ap (λ l. sheet_before l c.args.class c.args.moment) (rest_of c.place_from-start.result c.args.sheets.now)
    ∙ before_from_last c.args.sheets.now c.args.class c.args.moment c.place_from-start.result c.in_ok-last.last.now c.in_ok-last.ensures.some.0 c.in_ok-last.ensures.some.1 c.requires.before point

-- That `last_among` keeps its contract.
use Rattle.std.proofs.Common.{ap, ◌∙◌, arith}
use Rattle.std.proofs.lemmas.List.{take_all}
use Rattle.forward_price.specs.PriceTables.{sheet_before}
use Rattle.forward_price.proofs.next_price.last_among.Goals as goal

pub returns : goal.returns
returns c =
    c.loop-sheet.invariant
    ∙ ap (λ sheets. sheet_before sheets c.args.class c.args.moment) (take_all c.loop-sheet.sheet-index c.args.sheets.now (omega arith))

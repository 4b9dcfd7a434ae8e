-- That `next_among` keeps its contract.
use Rattle.std.proofs.Common.{ap, ◌∙◌, arith}
use Rattle.std.proofs.lemmas.List.{take_all}
use Rattle.forward_price.specs.PriceTables.{next_sheet}
use Rattle.forward_price.proofs.next_price.next_among.Goals as goal

pub returns : goal.returns
returns c =
    c.loop-sheet.invariant
    ∙ ap (λ sheets. next_sheet sheets c.args.asked.now c.args.receipt) (take_all c.loop-sheet.sheet-index c.args.sheets.now (omega arith))

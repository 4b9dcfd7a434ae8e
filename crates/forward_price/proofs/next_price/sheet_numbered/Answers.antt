-- That `sheet_numbered` keeps its contract.
use Rattle.std.proofs.Common.{◌<◌, sym, ◌∙◌, arith}
use Rattle.forward_price.proofs.NumberFacts.{numbered_at, numbered_zero}
use Rattle.forward_price.proofs.next_price.sheet_numbered.Goals as goal

pub returns-then-number-eq0 : goal.returns-then-number-eq0
returns-then-number-eq0 c = sym (numbered_zero c.args.sheets.now c.args.number c.requires c.if-number-eq0.true)

pub returns : goal.returns
returns c =
    let some : 0 < c.args.number = omega arith in
    c.sheet_in_place.ensures ∙ numbered_at c.args.sheets.now c.args.number c.requires some

-- That `precede` keeps its contract.
use Rattle.std.proofs.Common.{◌∙◌, sym, ap}
use Rattle.std.specs.Option.{option_copied}
use Rattle.share_lots.proofs.RowLemmas.{all-precede}
use Rattle.share_lots.proofs.lot_list.precede.Goals as goal

pub returns-in-Some : goal.returns-in-Some
returns-in-Some c = λ first.
    all-precede c.args.lots.now c.args.lot.now c.in-Some.last.now c.requires (sym c.last.ensures.value ∙ ap option_copied c.in-Some.is) (sym c.ranks_before.ensures ∙ first)

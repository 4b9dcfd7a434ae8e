-- What holds at each turn of the loops of `last_among`.
use Rattle.std.proofs.Common.{◌≡◌, fold, take, None}
use Rattle.std.specs.Option.{option_copied}
use Rattle.forward_price.specs.Choices.{best_so_far}
use Rattle.forward_price.specs.PriceTables.{is_before, is_later}
use Rattle.forward_price.proofs.next_price.last_among.Given as goal

abbrev pub invariant-loop-sheet : goal.invariant-loop-sheet
invariant-loop-sheet l =
    option_copied l.found ≡ fold (best_so_far (is_before l.class l.moment) is_later) None (take l.sheet-index l.sheets)

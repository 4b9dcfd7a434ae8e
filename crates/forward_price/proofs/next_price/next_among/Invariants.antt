-- What holds at each turn of the loops of `next_among`.
use Rattle.std.proofs.Common.{◌≡◌, fold, take, None}
use Rattle.std.specs.Option.{option_copied}
use Rattle.forward_price.specs.Choices.{best_so_far}
use Rattle.forward_price.specs.PriceTables.{prices_order, is_earlier}
use Rattle.forward_price.proofs.next_price.next_among.Given as goal

abbrev pub invariant-loop-sheet : goal.invariant-loop-sheet
invariant-loop-sheet l =
    option_copied l.found ≡ fold (best_so_far (prices_order l.asked l.receipt) is_earlier) None (take l.sheet-index l.sheets)

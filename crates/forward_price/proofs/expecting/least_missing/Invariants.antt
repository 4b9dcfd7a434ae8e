-- What holds at each turn of the loops of `least_missing`.
use Rattle.std.proofs.Common.{◌≡◌, nat_lt, fold, take, None}
use Rattle.forward_price.specs.Choices.{best_so_far}
use Rattle.forward_price.specs.Turns.{is_wrong, class_numbers}
use Rattle.forward_price.proofs.expecting.least_missing.Given as goal

abbrev pub invariant-loop-class : goal.invariant-loop-class
invariant-loop-class l =
    l.found ≡ fold (best_so_far (is_wrong l.classes l.calendar l.moment l.prices) nat_lt) None (class_numbers (take l.class-index l.classes))

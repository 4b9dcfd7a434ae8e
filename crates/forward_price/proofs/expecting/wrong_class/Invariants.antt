-- What holds at each turn of the loops of `wrong_class`.
use Rattle.std.proofs.Common.{◌≡◌, ◌++◌, nat_lt, fold, take, None}
use Rattle.forward_price.specs.Choices.{best_so_far}
use Rattle.forward_price.specs.Turns.{is_wrong, class_numbers, price_numbers}
use Rattle.forward_price.proofs.expecting.wrong_class.Given as goal

abbrev pub invariant-loop-price : goal.invariant-loop-price
invariant-loop-price l =
    l.found ≡ fold (best_so_far (is_wrong l.classes l.calendar l.moment l.prices) nat_lt) None (class_numbers l.classes ++ price_numbers (take l.price-index l.prices))

-- That `wrong_class` keeps its contract.
use Rattle.std.proofs.Common.{◌++◌, nat_lt, fold, ap, ◌∙◌, None, arith}
use Rattle.std.proofs.lemmas.List.{take_all}
use Rattle.forward_price.specs.Choices.{best_so_far}
use Rattle.forward_price.specs.Turns.{is_wrong, class_numbers, price_numbers}
use Rattle.forward_price.proofs.expecting.wrong_class.Goals as goal

pub returns : goal.returns
returns c =
    c.loop-price.invariant
    ∙ ap (λ prices. fold (best_so_far (is_wrong c.args.classes.now c.args.calendar c.args.moment c.args.prices.now) nat_lt) None (class_numbers c.args.classes.now ++ price_numbers prices)) (take_all c.loop-price.price-index c.args.prices.now (omega arith))

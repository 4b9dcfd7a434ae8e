-- That `least_missing` keeps its contract.
use Rattle.std.proofs.Common.{nat_lt, fold, ap, ◌∙◌, None, arith}
use Rattle.std.proofs.lemmas.List.{take_all}
use Rattle.forward_price.specs.Choices.{best_so_far}
use Rattle.forward_price.specs.Turns.{is_wrong, class_numbers}
use Rattle.forward_price.proofs.expecting.least_missing.Goals as goal

pub returns : goal.returns
returns c =
    c.loop-class.invariant
    ∙ ap (λ classes. fold (best_so_far (is_wrong c.args.classes.now c.args.calendar c.args.moment c.args.prices.now) nat_lt) None (class_numbers classes)) (take_all c.loop-class.class-index c.args.classes.now (omega arith))

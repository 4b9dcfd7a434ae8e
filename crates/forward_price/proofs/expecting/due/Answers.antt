-- That `due` keeps its contract.
use Rattle.std.proofs.Common.{option_and_then, ap, ◌∙◌}
use Rattle.forward_price.specs.Turns.{due_on}
use Rattle.forward_price.proofs.expecting.due.Goals as goal

pub returns : goal.returns
returns c =
    c.due_on.ensures
    ∙ ap (option_and_then (due_on c.args.classes.now c.args.asked.now c.args.receipt)) c.in_ok-calendar.ensures

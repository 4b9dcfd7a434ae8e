-- That `due_on` keeps its contract.
use Rattle.forward_price.specs.Turns.{is_due}
use Rattle.forward_price.proofs.TurnFacts.{due-is}
use Rattle.forward_price.proofs.expecting.due_on.Goals as goal

pub returns : goal.returns
returns c =
    due-is (is_due c.args.classes.now c.args.asked.now c.args.receipt) c.args.calendar.now.days c.last_opening-after.result c.next_after.result
    c.last_opening-after.ensures c.next_after.ensures.first c.next_after.ensures.least c.next_after.ensures.none

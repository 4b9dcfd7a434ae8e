-- That `are_few_classes` keeps its contract.
use Rattle.state_rows.proofs.ClassesMet.{few-positions}
use Rattle.state_rows.proofs.classes.are_few_classes.Goals as goal

pub returns-then-rows-le-MOST_CLASSES : goal.returns-then-rows-le-MOST_CLASSES
returns-then-rows-le-MOST_CLASSES c = few-positions c.args.rows.now c.if-rows-le-MOST_CLASSES.true

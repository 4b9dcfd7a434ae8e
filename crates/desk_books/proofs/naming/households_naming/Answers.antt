-- That `households_naming` keeps its contract.
use Rattle.desk_books.proofs.NamedOwners.{are-naming, left-listed}
use Rattle.desk_books.proofs.naming.households_naming.Goals as goal
use Rattle.std.proofs.Common.{ap, filter, ◌∙◌}

pub returns-clause-naming : goal.returns-clause-naming
returns-clause-naming c =
    are-naming c.args.book.now.journal c.args.index.now.owners c.args.classes.now c.args.class c.keep_naming.new.households.items c.put_each_once.new.households.items
    (c.keep_naming.ensures ∙ ap (filter _) c.in_ok-households.ensures) c.put_each_once.ensures.keeps c.put_each_once.ensures.adds_none

pub returns-clause-listed : goal.returns-clause-listed
returns-clause-listed c h among =
    left-listed c.args.index.now.owners _ c.args.classes.now c.args.class c.keep_naming.new.households.items
    (c.keep_naming.ensures ∙ ap (filter _) c.in_ok-households.ensures) h (c.put_each_once.ensures.adds_none h among)

-- That `reopen_more` keeps its contract.
use Rattle.desk_books.proofs.KeptUnbroken.{unbroken_before}
use Rattle.desk_books.proofs.ReopenedMore.{more_reopened}
use Rattle.desk_books.proofs.TrialSteps.{sees_part}
use Rattle.desk_books.proofs.reopening.reopen_more.Goals as goal

pub see_broken-requires-clause-unbroken : goal.see_broken-requires-clause-unbroken
see_broken-requires-clause-unbroken g c =
    unbroken_before c.args.books.now c.args.event.now c.args.facts.now c.args.household c.requires.tried c.references_in.ensures

pub returns-clause-more : goal.returns-clause-more
returns-clause-more g c =
    more_reopened c.args.books.now c.args.event.now c.args.facts.now c.args.household c.in_ok-one.one c.args.first.now.least c.see_broken.new.first.least c.in_ok-one.ensures.one
    (sees_part c.args.books.now c.args.event.now c.args.facts.now c.args.household c.in_ok-one.one c.args.first.now.least c.see_broken.new.first.least c.requires.tried c.in_ok-one.ensures.one c.in_ok-see_broken.ensures)

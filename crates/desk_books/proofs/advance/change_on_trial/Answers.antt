-- That `change_on_trial` keeps its contract.
use Rattle.desk_books.proofs.ChangeOnTrial.{made-change, made-steps, priced-there}
use Rattle.desk_books.proofs.SheetOnTrial.{advances}
use Rattle.desk_books.proofs.advance.change_on_trial.Goals as goal

pub advanced-requires-clause-facts : goal.advanced-requires-clause-facts
advanced-requires-clause-facts g c =
    let books = c.args.books.now in
    let rows = c.in_ok-orders.orders in
    let priced = priced-there books c.args.number rows c.orders.result.now c.orders.ensures c.in_ok-orders.ensures.priced in
    (advances books c.args.number c.requires.0 c.requires.1 rows priced).facts

pub advanced-requires-clause-households : goal.advanced-requires-clause-households
advanced-requires-clause-households g c =
    let books = c.args.books.now in
    let rows = c.in_ok-orders.orders in
    let priced = priced-there books c.args.number rows c.orders.result.now c.orders.ensures c.in_ok-orders.ensures.priced in
    (advances books c.args.number c.requires.0 c.requires.1 rows priced).households

pub returns-clause-change : goal.returns-clause-change
returns-clause-change g c =
    let books = c.args.books.now in
    let rows = c.in_ok-orders.orders in
    let priced = priced-there books c.args.number rows c.orders.result.now c.orders.ensures c.in_ok-orders.ensures.priced in
    let given = c.in_ok-change.ensures in
    let within = c.within_limits.ensures in
    made-change books c.args.number rows priced c.in_ok-change.change given.days given.differences c.within_limits.result within.change within.moves within.correction within.cash within.mils

pub returns-clause-steps : goal.returns-clause-steps
returns-clause-steps g c =
    let books = c.args.books.now in
    let rows = c.in_ok-orders.orders in
    let priced = priced-there books c.args.number rows c.orders.result.now c.orders.ensures c.in_ok-orders.ensures.priced in
    let given = c.in_ok-change.ensures in
    let within = c.within_limits.ensures in
    made-steps books c.args.number rows priced c.in_ok-change.change given.reached c.args.steps.now c.advanced.new.steps given.steps c.within_limits.result within.change within.moves

-- That `reopen_one` keeps its contract.
use Rattle.std.proofs.Common.{Some, [], refl, subst, ◌+◌, ◌-◌, ◌∷◌, ◌≤◌}
use Rattle.checkpoint_replay.specs.Reopenings.{move_by_replay}
use Rattle.desk_books.proofs.OneMore.{one_more}
use Rattle.desk_books.proofs.ReopenedOne.{day, ready, serves}
use Rattle.desk_books.proofs.TrialSteps.{all_rows, own_rows}
use Rattle.desk_books.specs.declared.starts.KeptStart.{KeptStart}
use Rattle.order_book.specs.Books.{NotedJournal}
use Rattle.standing_orders.specs.Priced.{AreOwnOnTrial}
use Rattle.desk_books.proofs.reopening.reopen_one.Goals as goal

pub move_by_replay-requires-clause-begin : goal.move_by_replay-requires-clause-begin
move_by_replay-requires-clause-begin g c =
    (serves c.args.books.now c.args.event.now c.args.facts.now c.args.household c.args.before c.in_ok-start.start c.in_ok-orders.orders c.requires.tried c.requires.before c.in_ok-start.ensures
    (subst (λ (book : NotedJournal). AreOwnOnTrial book.journal (Some c.args.event.now) c.args.books.now.prices.table.sheets c.args.books.now.orders.owners c.args.household c.in_ok-start.start.orders c.in_ok-orders.orders) c.orders.ensures c.in_ok-orders.ensures.own)).begin

pub move_by_replay-requires-clause-number : goal.move_by_replay-requires-clause-number
move_by_replay-requires-clause-number g c =
    (serves c.args.books.now c.args.event.now c.args.facts.now c.args.household c.args.before c.in_ok-start.start c.in_ok-orders.orders c.requires.tried c.requires.before c.in_ok-start.ensures
    (subst (λ (book : NotedJournal). AreOwnOnTrial book.journal (Some c.args.event.now) c.args.books.now.prices.table.sheets c.args.books.now.orders.owners c.args.household c.in_ok-start.start.orders c.in_ok-orders.orders) c.orders.ensures c.in_ok-orders.ensures.own)).number

pub move_by_replay-requires-clause-ready : goal.move_by_replay-requires-clause-ready
move_by_replay-requires-clause-ready g c =
    ready c.args.books.now c.args.event.now c.args.facts.now c.args.household c.args.before c.in_ok-start.start c.in_ok-orders.orders c.requires.tried c.requires.before c.in_ok-start.ensures
    (subst (λ (book : NotedJournal). AreOwnOnTrial book.journal (Some c.args.event.now) c.args.books.now.prices.table.sheets c.args.books.now.orders.owners c.args.household c.in_ok-start.start.orders c.in_ok-orders.orders) c.orders.ensures c.in_ok-orders.ensures.own)

pub returns-clause-one : goal.returns-clause-one
returns-clause-one g c =
    let books = c.args.books.now in
    let event = c.args.event.now in
    let known = c.args.facts.now in
    let own =
    subst (λ (book : NotedJournal). AreOwnOnTrial book.journal (Some event) books.prices.table.sheets books.orders.owners c.args.household c.in_ok-start.start.orders c.in_ok-orders.orders)
    c.orders.ensures c.in_ok-orders.ensures.own in
    let served = serves books event known c.args.household c.args.before c.in_ok-start.start c.in_ok-orders.orders c.requires.tried c.requires.before c.in_ok-start.ensures own in
    one_more books event known c.args.household (all_rows books event c.args.household) c.in_ok-orders.orders c.in_ok-start.start.replay c.move_by_replay.result
    (own_rows books event known c.args.household c.requires.tried) served.own
    (day books event known c.args.household c.args.before c.in_ok-start.start c.in_ok-orders.orders c.requires.tried c.requires.before c.in_ok-start.ensures own (move_by_replay c.args.facts.now c.in_ok-orders.orders c.in_ok-start.start.replay ∷ []) refl)
    c.move_by_replay.ensures.change

pub returns-clause-behind : goal.returns-clause-behind
returns-clause-behind g c =
    subst (λ (start : KeptStart). c.move_by_replay.new.steps ≤ c.args.steps.now + (c.args.facts.now.sheet - start.replay.sheet)) c.in_ok-start.ensures c.move_by_replay.ensures.steps

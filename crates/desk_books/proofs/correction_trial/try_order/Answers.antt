-- That `try_order` keeps its contract.
use Rattle.std.proofs.Common.{List, None, subst, sym}
use Rattle.agent_events.specs.declared.rows.RateRow.{RateRow}
use Rattle.desk_books.specs.Reopened.{IsTriedOver}
use Rattle.desk_books.specs.Served.{known_in}
use Rattle.desk_books.proofs.FreshTrials.{fresh_is_on_trial}
use Rattle.desk_books.proofs.StartsServe.{none_before}
use Rattle.desk_books.proofs.ServedTrials.{order_served}
use Rattle.desk_books.proofs.correction_trial.try_order.Goals as goal

pub try_with-requires-clause-tried : goal.try_with-requires-clause-tried
try_with-requires-clause-tried g c =
    subst (λ (rates : List RateRow). IsTriedOver c.args.books.now c.args.event.now (known_in c.args.books.now rates None)) (sym c.rates.ensures.value)
    (record {
      books_are = c.requires.books;
      corrects = c.requires.correction;
      trial = (fresh_is_on_trial c.args.books.now.book.journal c.args.event.now c.requires.books.lawful c.requires.correction c.requires.fresh);
      serve = order_served c.args.books.now c.args.event.now c.requires.books c.requires.correction c.requires.order (fresh_is_on_trial c.args.books.now.book.journal c.args.event.now c.requires.books.lawful c.requires.correction c.requires.fresh);
    })

pub try_with-requires-clause-before : goal.try_with-requires-clause-before
try_with-requires-clause-before g c = none_before c.args.books.now.book.journal c.args.event.now

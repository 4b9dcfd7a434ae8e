-- That `try_price` keeps its contract.
use Rattle.std.proofs.Common.{List, Some, subst, sym, ◌∙◌}
use Rattle.agent_events.specs.declared.rows.RateRow.{RateRow}
use Rattle.desk_books.specs.Reopened.{IsTriedOver}
use Rattle.desk_books.specs.Served.{known_in}
use Rattle.desk_books.proofs.FreshTrials.{fresh_is_on_trial, price_patched}
use Rattle.desk_books.proofs.StartsServe.{price_before}
use Rattle.desk_books.proofs.ServedTrials.{price_listed, price_served}
use Rattle.desk_books.proofs.correction_trial.try_price.Goals as goal

pub try_with-requires-clause-tried : goal.try_with-requires-clause-tried
try_with-requires-clause-tried g c =
    subst (λ (rates : List RateRow). IsTriedOver c.args.books.now c.args.event.now (known_in c.args.books.now rates (Some c.in-Some.patch))) (sym c.rates.ensures.value)
    (record {
      books_are = c.requires.books;
      corrects = c.requires.correction;
      trial = (fresh_is_on_trial c.args.books.now.book.journal c.args.event.now c.requires.books.lawful c.requires.correction c.requires.fresh);
      serve = price_served c.args.books.now c.args.event.now c.args.form.now c.in-Some.patch c.requires.books c.requires.kind (sym c.patch_of.ensures ∙ c.in-Some.is) (fresh_is_on_trial c.args.books.now.book.journal c.args.event.now c.requires.books.lawful c.requires.correction c.requires.fresh);
    })

pub unreachable-requires : goal.unreachable-requires
unreachable-requires g c =
    price_patched c.args.books.now c.args.event.now c.args.form.now c.requires.books c.requires.kind c.requires.fresh (sym c.patch_of.ensures ∙ c.in-None.is)

pub try_with-requires-clause-before : goal.try_with-requires-clause-before
try_with-requires-clause-before g c =
    price_before c.args.books.now.book.journal c.args.event.now c.args.form.now c.in-Some.patch.sheet c.requires.correction
    (fresh_is_on_trial c.args.books.now.book.journal c.args.event.now c.requires.books.lawful c.requires.correction c.requires.fresh)
    c.requires.kind
    (price_listed c.args.books.now c.args.form.now c.in-Some.patch c.requires.books (sym c.patch_of.ensures ∙ c.in-Some.is))

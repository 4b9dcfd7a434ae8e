-- That `try_rate` keeps its contract.
use Rattle.std.proofs.Common.{List, None, subst, sym, ℕ, ◌≤◌}
use Rattle.agent_events.specs.declared.rows.RateRow.{RateRow}
use Rattle.desk_books.specs.Served.{ServeTrial, known_in}
use Rattle.desk_books.specs.Starts.{LeavesBefore}
use Rattle.desk_books.proofs.FreshTrials.{fresh_is_on_trial}
use Rattle.desk_books.proofs.StartsServe.{rate_touches}
use Rattle.desk_books.proofs.ServedTrials.{rate_served}
use Rattle.desk_books.proofs.correction_trial.try_rate.Goals as goal

pub try_with-requires-clause-tried : goal.try_with-requires-clause-tried
try_with-requires-clause-tried g c =
    record {
      books_are = c.requires.books;
      corrects = c.requires.correction;
      trial = (fresh_is_on_trial c.args.books.now.book.journal c.args.event.now c.requires.books.lawful c.requires.correction c.requires.fresh);
      serve = subst (λ (rates : List RateRow). ServeTrial (known_in c.args.books.now rates None) c.args.books.now.book.journal c.args.event.now) (sym c.in_ok-rates.ensures) (rate_served c.args.books.now c.args.event.now c.args.form.now c.requires.books c.requires.kind (subst (λ (n : ℕ). n ≤ 1000000000) c.millionths-rate.ensures.value c.millionths-rate.ensures.most) (fresh_is_on_trial c.args.books.now.book.journal c.args.event.now c.requires.books.lawful c.requires.correction c.requires.fresh));
    }

pub try_with-requires-clause-before : goal.try_with-requires-clause-before
try_with-requires-clause-before g c =
    subst (LeavesBefore c.args.books.now.book.journal c.args.event.now) (sym c.sheet_touched-before.ensures)
    (rate_touches c.args.books.now c.args.event.now c.args.form.now c.requires.books c.requires.correction
    (fresh_is_on_trial c.args.books.now.book.journal c.args.event.now c.requires.books.lawful c.requires.correction c.requires.fresh)
    c.requires.kind)

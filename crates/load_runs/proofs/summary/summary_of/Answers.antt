-- That `summary_of` keeps its contract.
use Rattle.std.proofs.Common.{List, ap, length, refl, ◌∙◌}
use Rattle.agent_events.specs.Events.{Event}
use Rattle.load_runs.proofs.SummaryMade.{sheets_counted, summary_made}
use Rattle.load_runs.specs.Running.{run_at}
use Rattle.load_runs.proofs.summary.summary_of.Goals as goal

-- What was counted is what the book has, and what was seen is what the register has.
pub returns : goal.returns
returns g c =
    let journal = c.args.running.now.desk.book.journal in
    let after = c.classes_of.ensures.journal in
    summary_made (run_at c.args.running.now) _
    (record {
      events = c.len.ensures ∙ ap (λ (events : List Event). length events) after;
      sheets = sheets_counted c.sheets.result c.classes_of.new.desk.book.journal journal c.sheets.ensures after (c.sheets_are_counted.ensures journal);
      refused = refl;
      filled = c.count_orders-orders.ensures.filled;
      unfilled = c.count_orders-orders.ensures.unfilled;
      classes = c.in_ok-classes.ensures.classes ∙ c.classes_are_shown.ensures journal;
    })

-- That `batch_of_lines` keeps its contract.
use Rattle.std.proofs.Common.{[], ap, subst, sym, take, ◌++◌, ◌∙◌, ◌∷◌}
use Rattle.dealer_lines.specs.Lines.{line_event, line_events}
use Rattle.event_rows.specs.InForm.{InForm}
use Rattle.event_rows.specs.Rows.{event_row}
use Rattle.register_desk.proofs.LinesInRows.{forms_more, rows_more}
use Rattle.register_desk.specs.Rows.{rows_of}
use Rattle.register_desk.proofs.prepared_batch.batch_of_lines.Goals as goal

pub loop-order-preserved : goal.loop-order-preserved
loop-order-preserved c =
    let moment = c.args.moment in
    let placed = c.args.placed.now in
    let place = c.loop-order.order-index in
    let order = c.order-item.result in
    let within = c.loop-order-test.true in
    let row = c.in_ok-row.ensures.row ∙ ap (λ known. event_row (line_event moment known)) c.order-item.is in
    record {
      rows = c.in_ok-push.ensures.ok
          ∙ (ap (λ rows. rows ++ c.in_ok-row.row ∷ []) c.loop-order.invariant.rows
          ∙ (ap (λ bytes. rows_of (line_events moment (take place placed)) ++ bytes ∷ []) row
          ∙ sym (rows_more moment placed place order within)));
      puts = c.loop-order.invariant.puts;
      removes = c.loop-order.invariant.removes;
      in_form = forms_more moment placed place order within c.loop-order.invariant.in_form
          (subst (λ known. InForm (line_event moment known)) c.order-item.is c.in_ok-row.ensures.in_form);
    }

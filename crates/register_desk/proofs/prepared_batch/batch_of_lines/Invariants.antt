-- the rows of the orders so far, which have their spellings
use Rattle.std.specs.Prelude.{All, [], take, ◌≡◌}
use Rattle.dealer_lines.specs.Lines.{line_events}
use Rattle.event_rows.specs.InForm.{InForm}
use Rattle.register_desk.proofs.prepared_batch.batch_of_lines.Given as goal
use Rattle.register_desk.specs.Rows.{rows_of}

abbrev pub invariant-loop-order : goal.invariant-loop-order
invariant-loop-order l = record {
  rows : l.batch.rows ≡ rows_of (line_events l.moment (take l.order-index l.placed));
  puts : l.batch.puts ≡ [];
  removes : l.batch.removes ≡ [];
  in_form : All InForm (line_events l.moment (take l.order-index l.placed));
}

-- Those counted so far are those of the orders so far.
use Rattle.std.proofs.Common.{take, ◌≡◌, ◌≤◌}
use Rattle.std.specs.List.{count_by}
use Rattle.load_requests.specs.Summaries.{is_filled, is_unfilled}
use Rattle.register_laws.specs.Lawful.{book_behind}
use Rattle.register_machine.specs.queries.Trace.{trace_of_row}
use Rattle.load_runs.proofs.looks.count_rows.Given as goal

abbrev pub invariant-loop-row : goal.invariant-loop-row
invariant-loop-row l = record {
  filled : l.filled ≡ count_by (λ row. is_filled (trace_of_row (book_behind l.desk.book.journal) row).state) (take l.row-index l.rows);
  unfilled : l.unfilled ≡ count_by (λ row. is_unfilled (trace_of_row (book_behind l.desk.book.journal) row).state) (take l.row-index l.rows);
  filled_few : l.filled ≤ l.row-index;
  unfilled_few : l.unfilled ≤ l.row-index;
}

-- The proof of the law `no_row_begins_another`.
use Rattle.event_rows.proofs.Fields.{one_reading}
use Rattle.event_rows.proofs.WholeRows.{event_field}
use Rattle.event_rows.proofs.laws.no_row_begins_another.Goals as goal

pub returns : goal.returns
returns c = λ first second rest more fits suits same. one_reading event_field first second rest more fits suits same

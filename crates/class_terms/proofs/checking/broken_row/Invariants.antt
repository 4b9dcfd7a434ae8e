-- What holds at each turn of the loops of `broken_row`.
use Rattle.std.proofs.Common.{◌≡◌, None, drop}
use Rattle.class_terms.specs.Tables.{first_broken, breaks_table}
use Rattle.class_terms.proofs.checking.broken_row.Given as goal

abbrev pub invariant-loop-index : goal.invariant-loop-index
invariant-loop-index l = first_broken breaks_table l.index l.before (drop l.index l.rows) ≡ first_broken breaks_table 0 None l.rows

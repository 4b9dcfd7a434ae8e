-- What holds at each turn of the loops of `broken_rate`.
use Rattle.std.proofs.Common.{◌≡◌, None, drop}
use Rattle.class_terms.specs.Tables.{first_broken, breaks_schedule}
use Rattle.class_terms.proofs.checking.broken_rate.Given as goal

abbrev pub invariant-loop-index : goal.invariant-loop-index
invariant-loop-index l = first_broken breaks_schedule l.index l.before (drop l.index l.rates) ≡ first_broken breaks_schedule 0 None l.rates

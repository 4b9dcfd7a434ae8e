-- What holds at each turn of the loops of `family_fault`.
use Rattle.std.proofs.Common.{◌≡◌, take}
use Rattle.class_terms.specs.Checking.{family_fault}
use Rattle.class_terms.proofs.checking.family_fault.Given as goal

abbrev pub invariant-loop-other : goal.invariant-loop-other
invariant-loop-other l = l.least ≡ family_fault l.form (take l.other-index l.others)

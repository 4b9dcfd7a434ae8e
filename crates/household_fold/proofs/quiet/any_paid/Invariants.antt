-- What holds at each turn of the loops of `any_paid`.
use Rattle.std.proofs.Common.{false, take, ◌≡◌}
use Rattle.std.specs.List.{list_any}
use Rattle.household_fold.specs.Quiet.{is_paid}
use Rattle.household_fold.proofs.quiet.any_paid.Given as goal

abbrev pub invariant-loop-position : goal.invariant-loop-position
invariant-loop-position l = list_any (is_paid l.fn.facts) (take l.position-index l.fn.positions) ≡ false

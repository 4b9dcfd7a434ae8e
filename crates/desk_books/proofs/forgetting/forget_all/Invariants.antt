-- Of the households so far only states behind sheets before this one are left.
use Rattle.std.proofs.Common.{take}
use Rattle.desk_books.specs.Settled.{AreBefore}
use Rattle.desk_books.proofs.forgetting.forget_all.Given as goal

abbrev pub invariant-loop-household : goal.invariant-loop-household
invariant-loop-household l = AreBefore (take l.household-index l.households) l.before l.fn.kept l.kept

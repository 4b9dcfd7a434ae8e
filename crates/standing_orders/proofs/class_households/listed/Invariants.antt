-- The households that are listed so far, and those to come, are those of the set.
use Rattle.std.proofs.Common.{◌++◌, ◌≡◌}
use Rattle.standing_orders.proofs.class_households.listed.Given as goal

abbrev pub invariant-loop-household : goal.invariant-loop-household
invariant-loop-household l = l.found.items ++ l.household-iterator ≡ l.households.keys

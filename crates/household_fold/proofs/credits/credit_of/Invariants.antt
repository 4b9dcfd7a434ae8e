-- What holds at each turn of the loops of `credit_of`.
use Rattle.std.proofs.Common.{sum_by, take, ◌*◌, ◌≡◌, ◌≤◌}
use Rattle.household_fold.specs.Credits.{position_credit}
use Rattle.household_fold.specs.Facts.{book_of_facts, sheet_at_hand}
use Rattle.household_fold.proofs.credits.credit_of.Given as goal

abbrev pub invariant-loop-position : goal.invariant-loop-position
invariant-loop-position l = record {
  so_far : l.credit ≡ sum_by (position_credit (book_of_facts l.facts) (sheet_at_hand l.facts) l.household) (take l.position-index l.positions);
  within : l.credit ≤ 10000000000000000 * l.position-index;
}
